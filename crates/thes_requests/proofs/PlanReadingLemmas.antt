-- Proves that a text has at most one meaning as a plan.
use Rattle.std.proofs.Common.{arith, ◌≡◌, ◌∙◌, sym, ap, subst, refl, ℕ, zero, suc, ◌<◌, List, [], ◌∷◌, ◌++◌, length}
use Rattle.std.proofs.Common.{map, take, ◌≤◌, All, Option, None, Some, Result, Ok, Err}
use Rattle.std.specs.Prelude.{slice_get}
use Rattle.std.proofs.lemmas.List.{length-map}
use Rattle.serde_json.specs.Data.{Data, array, Items, item}
use Rattle.serde_json.specs.View.{items_of}
use Rattle.thes_base.specs.declared.fault.FormFault.{FormFault}
use Rattle.thes_base.specs.declared.request.Command.{Command}
use Rattle.thes_plans.specs.References.{AreGoodReferences, HasGoodReferences, IsGoodReference, IsFirstBadReference}
use Rattle.thes_plans.specs.References.{MakesFirst, MakesPosting, MakesResource}
use Rattle.thes_plans.specs.declared.plan.PlanRequest.{PlanRequest}
use Rattle.thes_requests.specs.Laws.{OnePlanReading, SameAsked, SamePlans, SameReading}
use Rattle.thes_requests.specs.PlanReadings.{AreRequests, IsFirstMalformed, IsNoPlanRequest, IsPlanArray, IsPlanRequest}
use Rattle.thes_requests.specs.PlanReadings.{IsPlanOfRequests, PlanValueReadsAs, keyword_in, plan_command_in, request_limit}
use Rattle.thes_requests.specs.Readings.{ReadsAs}
use Rattle.thes_requests.specs.References.{first_name, listed_references, reference_at, second_name, without_references}
use Rattle.thes_requests.specs.Requests.{command_in}
use Rattle.thes_requests.specs.Tree.{view, items_view}
use Rattle.thes_requests.specs.declared.keywords.CommandKeyword.{CommandKeyword}
use Rattle.thes_requests.specs.declared.plan.PlanFault.{PlanFault}
use Rattle.thes_requests.specs.declared.plan.PlanFault.TheVariants.{Whole, Request, Reference}
use Rattle.thes_requests.specs.declared.tree.Value.{Value}
use Rattle.thes_requests.proofs.ReadingLemmas.{one_outcome}

-- One more value that is a request extends the requests of a plan.

pub one_more_request : (ds : List Data) (plan : List PlanRequest) (d : Data) (asked : PlanRequest)
    → AreRequests ds plan → IsPlanRequest d asked → AreRequests (ds ++ d ∷ []) (plan ++ asked ∷ [])
one_more_request [] [] d asked h is = (is, tt)
one_more_request [] (a ∷ plan) d asked h is = absurd h
one_more_request (e ∷ ds) [] d asked h is = absurd h
one_more_request (e ∷ ds) (a ∷ plan) d asked h is = (h.0, one_more_request ds plan d asked h.1 is)

-- The items of an array determine the list of them.

same_item : (d e : Data) (ds es : Items) → item d ds ≡ item e es → (d ≡ e) × (ds ≡ es)
same_item d e ds es h = (let same : d ≡ e = cc in same, let same : ds ≡ es = cc in same)

pub same_items : (ds es : List Data) → items_of ds ≡ items_of es → ds ≡ es
same_items [] [] h = refl
same_items [] (e ∷ es) h = absurd (cc)
same_items (d ∷ ds) [] h = absurd (cc)
same_items (d ∷ ds) (e ∷ es) h =
    let one = same_item d e (items_of ds) (items_of es) h in
    let rest = same_items ds es one.1 in cc

pub same_array : (ds es : Items) → array ds ≡ array es → ds ≡ es
same_array ds es h = cc

-- An array that may be a plan has from 1 to 128 values.
pub plan_array_length : (vs : List Value) (ds : List Data) → IsPlanArray (array (items_view vs)) ds
    → (0 < length vs) × (length vs ≤ request_limit)
plan_array_length vs ds h =
    let same = same_items (map view vs) ds (same_array (items_of (map view vs)) (items_of ds) h.is_array) in
    let len = sym (ap length same) ∙ length-map vs view in
    let some = h.some in
    let few = h.few in
    (omega (arith, len, some), omega (arith, len, few))

-- A value is read as at most one request, or has one fault.

one_verb : (o : Option CommandKeyword) (v w : CommandKeyword) → o ≡ Some v → o ≡ Some w → w ≡ v
one_verb o v w e f = cc

same_asked : (d : Data) (a b : PlanRequest) → IsPlanRequest d a → IsPlanRequest d b → SameAsked a b
same_asked d a b x y =
    let verb = one_verb (keyword_in d) x.verb y.verb x.keyword y.keyword in
    let one = one_outcome (command_in x.verb (without_references d)) (Ok a.command) (Ok b.command) x.command
    (subst (λ (v : CommandKeyword). ReadsAs (command_in v (without_references d)) (Ok b.command)) verb y.command) in
    record {
      command = (let same : a.command ≡ b.command = cc in same);
      first = x.first ∙ (ap (λ (v : CommandKeyword). reference_at (first_name v) d) (sym verb) ∙ sym y.first);
      second = x.second ∙ (ap (λ (v : CommandKeyword). reference_at (second_name v) d) (sym verb) ∙ sym y.second);
      postings = x.postings ∙ (ap (λ (v : CommandKeyword). listed_references v d) (sym verb) ∙ sym y.postings);
    }

no_command : (d : Data) (verb : CommandKeyword) (f : FormFault) → keyword_in d ≡ Some verb → IsNoPlanRequest d f
    → ReadsAs (command_in verb (without_references d)) (Err f)
no_command d verb f e n = rw e at n

not_both : (d : Data) (a : PlanRequest) (f : FormFault) → IsPlanRequest d a → IsNoPlanRequest d f → ⊥
not_both d a f x n =
    let one = one_outcome (command_in x.verb (without_references d)) (Ok a.command) (Err f) x.command
    (no_command d x.verb f x.keyword n) in
    absurd (cc)

same_fault : (d : Data) (f g : FormFault) → IsNoPlanRequest d f → IsNoPlanRequest d g → f ≡ g
same_fault d f g x y = let one = one_outcome (plan_command_in d) (Err f) (Err g) x y in cc

-- Values are read as at most one list of requests, or have one first fault.

same_plans : (ds : List Data) (p q : List PlanRequest) → AreRequests ds p → AreRequests ds q → SamePlans p q
same_plans [] [] [] x y = tt
same_plans [] [] (b ∷ q) x y = absurd y
same_plans [] (a ∷ p) q x y = absurd x
same_plans (d ∷ ds) [] q x y = absurd x
same_plans (d ∷ ds) (a ∷ p) [] x y = absurd y
same_plans (d ∷ ds) (a ∷ p) (b ∷ q) x y = (same_asked d a b x.0 y.0, same_plans ds p q x.1 y.1)

same_head : (d e : Data) (ds es : List Data) → d ∷ ds ≡ e ∷ es → (d ≡ e) × (ds ≡ es)
same_head d e ds es h = (let same : d ≡ e = cc in same, let same : ds ≡ es = cc in same)

same_first : (b : List Data) (d : Data) (a : List Data) (p : List PlanRequest) (f : FormFault) (c : List Data)
    (e : Data)
    (z : List Data) (q : List PlanRequest) (g : FormFault) → AreRequests b p → IsNoPlanRequest d f → AreRequests c q
    → IsNoPlanRequest e g → b ++ d ∷ a ≡ c ++ e ∷ z → (length b ≡ length c) × (f ≡ g)
same_first [] d a p f [] e z q g h n k m same =
    let one = same_head d e a z same in
    (refl, same_fault d f g n (subst (λ (x : Data). IsNoPlanRequest x g) (sym one.0) m))
same_first [] d a p f (y ∷ c) e z [] g h n k m same = absurd k
same_first [] d a p f (y ∷ c) e z (s ∷ q) g h n k m same =
    let one = same_head d y a (c ++ e ∷ z) same in
    absurd (not_both y s f k.0 (subst (λ (x : Data). IsNoPlanRequest x f) one.0 n))
same_first (x ∷ b) d a [] f c e z q g h n k m same = absurd h
same_first (x ∷ b) d a (r ∷ p) f [] e z q g h n k m same =
    let one = same_head x e (b ++ d ∷ a) z same in
    absurd (not_both x r g h.0 (subst (λ (y : Data). IsNoPlanRequest y g) (sym one.0) m))
same_first (x ∷ b) d a (r ∷ p) f (y ∷ c) e z [] g h n k m same = absurd k
same_first (x ∷ b) d a (r ∷ p) f (y ∷ c) e z (s ∷ q) g h n k m same =
    let one = same_head x y (b ++ d ∷ a) (c ++ e ∷ z) same in
    let rest = same_first b d a p f c e z q g h.1 n k.1 m one.1 in
    (ap suc rest.0, rest.1)

all_or_first : (b : List Data) (d : Data) (a : List Data) (p : List PlanRequest) (f : FormFault) → IsNoPlanRequest d f
    → AreRequests (b ++ d ∷ a) p → ⊥
all_or_first [] d a [] f n h = h
all_or_first [] d a (r ∷ p) f n h = not_both d r f h.0 n
all_or_first (x ∷ b) d a [] f n h = h
all_or_first (x ∷ b) d a (r ∷ p) f n h = all_or_first b d a p f n h.1

not_malformed : (ds : List Data) (p : List PlanRequest) (place : ℕ) (f : FormFault) → AreRequests ds p
    → IsFirstMalformed ds place f → ⊥
not_malformed ds p place f h m = all_or_first m.before m.d m.rest p f m.bad
    (subst (λ (es : List Data). AreRequests es p) m.all h)

-- Two plans with the same requests both have good references, or have the same first bad one.

asked_back : (a b : PlanRequest) → SameAsked a b → SameAsked b a
asked_back a b s = record {
  command = sym s.command;
  first = sym s.first;
  second = sym s.second;
  postings = sym s.postings;
}

plans_back : (p q : List PlanRequest) → SamePlans p q → SamePlans q p
plans_back [] [] s = tt
plans_back [] (b ∷ q) s = absurd s
plans_back (a ∷ p) [] s = absurd s
plans_back (a ∷ p) (b ∷ q) s = (asked_back a b s.0, plans_back p q s.1)

same_take : (n : ℕ) (p q : List PlanRequest) → SamePlans p q → SamePlans (take n p) (take n q)
same_take zero p q s = tt
same_take (suc n) [] [] s = tt
same_take (suc n) [] (b ∷ q) s = absurd s
same_take (suc n) (a ∷ p) [] s = absurd s
same_take (suc n) (a ∷ p) (b ∷ q) s = (s.0, same_take n p q s.1)

same_at : (p q : List PlanRequest) → SamePlans p q → (i : ℕ) (a : PlanRequest) → slice_get p i ≡ Some a
    → (b : PlanRequest) × (slice_get q i ≡ Some b) × SameAsked a b
same_at [] q s i a e = absurd (cc)
same_at (r ∷ p) [] s i a e = absurd s
same_at (r ∷ p) (t ∷ q) s zero a e =
    let same : r ≡ a = cc in (t, refl, subst (λ (x : PlanRequest). SameAsked x t) same s.0)
same_at (r ∷ p) (t ∷ q) s (suc i) a e = same_at p q s.1 i a e

good_reference : (Makes : Command → Type 0) (p q : List PlanRequest) → SamePlans p q → (r : Option ℕ)
    → IsGoodReference Makes p r → IsGoodReference Makes q r
good_reference Makes p q s None h = tt
good_reference Makes p q s (Some zero) h = absurd (let e = h.1 in cc)
good_reference Makes p q s (Some (suc i)) h =
    let other = same_at p q s i h.0 h.1 in
    (other.0, other.1, subst Makes other.2.command h.2)

good_references : (p q : List PlanRequest) (a b : PlanRequest) → SamePlans p q → SameAsked a b → HasGoodReferences p a
    → HasGoodReferences q b
good_references p q a b s same g = record {
  first = subst (λ (c : Command). IsGoodReference (MakesFirst c) q b.first) same.command
      (subst (IsGoodReference (MakesFirst a.command) q) same.first
      (good_reference (MakesFirst a.command) p q s a.first g.first));
  second = subst (IsGoodReference MakesResource q) same.second
      (good_reference MakesResource p q s a.second g.second);
  postings = subst (λ (rs : List (Option ℕ)). All (IsGoodReference MakesPosting q) rs) same.postings
      (λ i d h. good_reference MakesPosting p q s _ (g.postings i d h));
}

good_plans : (p q : List PlanRequest) → SamePlans p q → AreGoodReferences p → AreGoodReferences q
good_plans p q s g i b at =
    let other = same_at q p (plans_back p q s) i b at in
    good_references (take i p) (take i q) other.0 b (same_take i p q s) (asked_back b other.0 other.2)
    (g i other.0 other.1)

-- The first `n` requests of a plan have the same request at each index below `n` as the whole plan.
got_in_take : (n i : ℕ) (q : List PlanRequest) (b : PlanRequest) → i < n → slice_get q i ≡ Some b
    → slice_get (take n q) i ≡ Some b
got_in_take zero i q b h e = absurd (omega (arith, h))
got_in_take (suc n) i [] b h e = absurd (cc)
got_in_take (suc n) zero (x ∷ q) b h e = e
got_in_take (suc n) (suc i) (x ∷ q) b h e = got_in_take n i q b (omega (arith, h)) e

take_of_take : (n i : ℕ) (q : List PlanRequest) → i < n → take i (take n q) ≡ take i q
take_of_take n zero q h = refl
take_of_take zero (suc i) q h = absurd (omega (arith, h))
take_of_take (suc n) (suc i) [] h = refl
take_of_take (suc n) (suc i) (x ∷ q) h = ap (λ (t : List PlanRequest). x ∷ t) (take_of_take n i q (omega (arith, h)))

good_before : (p q : List PlanRequest) → SamePlans p q → (i n : ℕ) (a : PlanRequest) → slice_get p i ≡ Some a → i < n
    → AreGoodReferences (take n q) → HasGoodReferences (take i p) a
good_before p q s i n a at h g =
    let other = same_at p q s i a at in
    let good = subst (λ (t : List PlanRequest). HasGoodReferences t other.0) (take_of_take n i q h)
    (g i other.0 (got_in_take n i q other.0 h other.1)) in
    good_references (take i q) (take i p) other.0 a (plans_back (take i p) (take i q) (same_take i p q s))
    (asked_back a other.0 other.2) good

same_bad : (p q : List PlanRequest) (k n : ℕ) → SamePlans p q → IsFirstBadReference p k → IsFirstBadReference q n
    → k ≡ n
same_bad p q k n s x y =
    let not_less : ¬ (x.index < y.index) =
    λ h. x.bad (good_before p q s x.index y.index x.asked x.at h y.good_before) in
    let not_more : ¬ (y.index < x.index) =
    λ h. y.bad (good_before q p (plans_back p q s) y.index x.index y.asked y.at h x.good_before) in
    let first = x.place_is in
    let other = y.place_is in
    omega (arith, not_less, not_more, first, other)

-- A value, read as a plan, has only one outcome.

same_values : (d : Data) (ds es : List Data) → IsPlanArray d ds → IsPlanArray d es → ds ≡ es
same_values d ds es x y = same_items ds es (let a = x.is_array in let b = y.is_array in cc)

same_requests : (d : Data) (p q : List PlanRequest) → IsPlanOfRequests d p → IsPlanOfRequests d q → SamePlans p q
same_requests d p q x y =
    let same = same_values d x.values y.values x.is_array y.is_array in
    same_plans x.values p q x.requests
    (subst (λ (es : List Data). AreRequests es q) (sym same) y.requests)

not_malformed_plan : (d : Data) (p : List PlanRequest) (ds : List Data) (place : ℕ) (f : FormFault)
    → IsPlanOfRequests d p → IsPlanArray d ds → IsFirstMalformed ds place f → ⊥
not_malformed_plan d p ds place f x a m = not_malformed ds p place f
    (subst (λ (es : List Data). AreRequests es p) (same_values d x.values ds x.is_array a) x.requests) m

same_malformed : (ds : List Data) (k n : ℕ) (f g : FormFault) → IsFirstMalformed ds k f → IsFirstMalformed ds n g
    → Request k f ≡ Request n g
same_malformed ds k n f g x y =
    let one = same_first x.before x.d x.rest x.plan f y.before y.d y.rest y.plan g x.requests x.bad y.requests
    y.bad (sym x.all ∙ y.all) in
    let first = x.place_is in
    let other = y.place_is in
    let at : k ≡ n = omega (arith, one.0, first, other) in
    ap (λ (m : ℕ). Request m f) at ∙ ap (Request n) one.1

same_value_reading : (d : Data) (x y : Result (List PlanRequest) PlanFault) → PlanValueReadsAs d x
    → PlanValueReadsAs d y → SameReading x y
same_value_reading d (Ok p) (Ok q) h k = same_requests d p q h.0 k.0
same_value_reading d (Ok p) (Err (Whole g)) h k = absurd (k.1 h.0.values h.0.is_array)
same_value_reading d (Ok p) (Err (Request n g)) h k = not_malformed_plan d p k.0 n g h.0 k.1 k.2
same_value_reading d (Ok p) (Err (Reference n)) h k =
    k.2.bad (good_plans p k.0 (same_requests d p k.0 h.0 k.1) h.1 k.2.index k.2.asked k.2.at)
same_value_reading d (Err (Whole f)) (Ok q) h k = absurd (h.1 k.0.values k.0.is_array)
same_value_reading d (Err (Whole f)) (Err (Whole g)) h k = ap Whole (h.0 ∙ sym k.0)
same_value_reading d (Err (Whole f)) (Err (Request n g)) h k = absurd (h.1 k.0 k.1)
same_value_reading d (Err (Whole f)) (Err (Reference n)) h k = absurd (h.1 k.1.values k.1.is_array)
same_value_reading d (Err (Request m f)) (Ok q) h k = not_malformed_plan d q h.0 m f k.0 h.1 h.2
same_value_reading d (Err (Request m f)) (Err (Whole g)) h k = absurd (k.1 h.0 h.1)
same_value_reading d (Err (Request m f)) (Err (Request n g)) h k =
    same_malformed h.0 m n f g h.2
    (subst (λ (es : List Data). IsFirstMalformed es n g) (same_values d k.0 h.0 k.1 h.1) k.2)
same_value_reading d (Err (Request m f)) (Err (Reference n)) h k =
    absurd (not_malformed_plan d k.0 h.0 m f k.1 h.1 h.2)
same_value_reading d (Err (Reference m)) (Ok q) h k =
    h.2.bad (good_plans q h.0 (same_requests d q h.0 k.0 h.1) k.1 h.2.index h.2.asked h.2.at)
same_value_reading d (Err (Reference m)) (Err (Whole g)) h k = absurd (k.1 h.1.values h.1.is_array)
same_value_reading d (Err (Reference m)) (Err (Request n g)) h k =
    absurd (not_malformed_plan d h.0 k.0 n g h.1 k.1 k.2)
same_value_reading d (Err (Reference m)) (Err (Reference n)) h k =
    ap Reference (same_bad h.0 k.0 m n (same_requests d h.0 k.0 h.1 k.1) h.2 k.2)

none_reading : (x y : Result (List PlanRequest) PlanFault) (f : PlanFault) → x ≡ Err f → y ≡ Err f → SameReading x y
none_reading (Ok p) y f e h = absurd (cc)
none_reading (Err g) (Ok q) f e h = absurd (cc)
none_reading (Err g) (Err i) f e h = cc

pub one_plan : OnePlanReading
one_plan None x y h k = none_reading x y _ h k
one_plan (Some d) x y h k = same_value_reading d x y h k
