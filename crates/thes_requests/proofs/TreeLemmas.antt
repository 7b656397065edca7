-- Proves which data a parsed value represents, level by level, and which data the items or members parsed so far
-- represent.
use Rattle.std.proofs.lemmas.Grind.{common_steps}
use Rattle.std.proofs.Common.{arith, ◌≡◌, ℕ, ◌+◌, ◌<◌, ◌≤◌, List, [], ◌∷◌, ◌++◌, Bool, length, map, take, drop}
use Rattle.std.proofs.Common.{slice_index_or, Option, Some, is_some, false, Vec, Global, Bor, cond, bytes_eq, refl}
use Rattle.std.proofs.Common.{sym, ap, ◌∙◌, subst, add-one, rules}
use Rattle.std.proofs.lemmas.List.{take-append-drop, take_more}
use Rattle.std.proofs.lemmas.Slice.Eq.{bytes_eq-Decides}
use Rattle.json.specs.Token.{Token}
use Rattle.json.specs.Json.{parse_map}
use Rattle.serde_json.specs.Data.{Data, array, object, Items, no_items, item, no_members, put}
use Rattle.serde_json.specs.Events.{members_len}
use Rattle.serde_json.specs.Find.{get_member}
use Rattle.thes_requests.specs.Tree.{view, items_view, members_view}
use Rattle.thes_requests.specs.declared.tree.Value.{Value, Array, Object, the_lemmas}
use Rattle.thes_requests.proofs.ObjectLemmas.{put_all, get_after_put, AreOrderedMembers, AreOrderedMembers-put_all}
use Rattle.thes_requests.proofs.ObjectLemmas.{with_one, members_len-put, members_len-put_all}

abbrev pub Entry : Type 0
Entry = Bor (List ℕ) × Value

pub view-Array : (v : Vec Value Global) → view (Array v) ≡ array (items_view v.items)
view-Array v = search (rules, the_lemmas)

pub view-Object : (m : Vec Entry Global) → view (Object m) ≡ object (members_view m.items)
view-Object m = search (rules, the_lemmas)

-- Members appended to an object are put in one by one, after those before them.

pub members_view-append : (es fs : List Entry) → members_view (es ++ fs) ≡ put_all (members_view es)
    (map (λ m. (m.0, view m.1)) fs)
members_view-append es fs = grind (arith, common_steps)

pub members_view-push : (es : List Entry) (e : Entry) → members_view (es ++ e ∷ []) ≡ put e.0.now (view e.1)
    (members_view es)
members_view-push es e = members_view-append es (e ∷ [])

get_member-push : (name : List ℕ) (es : List Entry) (e : Entry) → get_member name (members_view (es ++ e ∷ []))
    ≡ cond (bytes_eq name e.0.now) (Some (view e.1)) (get_member name (members_view es))
get_member-push name es e = grind (arith, common_steps, members_view-push, get_after_put)

-- A look-up finds the last member, if it has the name, or else looks among those before it.
pub get_member-popped : (name : List ℕ) (es before : List Entry) (e : Entry) (b : Bool) → es ≡ before ++ e ∷ []
    → bytes_eq name e.0.now ≡ b
    → get_member name (members_view es) ≡ cond b (Some (view e.1)) (get_member name (members_view before))
get_member-popped name es before e b is same = grind (arith, common_steps, get_member-push)

-- Names of different lengths aren't equal.
pub other_length : (name other : List ℕ) → (length name ≡ length other → ⊥) → bytes_eq name other ≡ false
other_length name other h = grind (arith, common_steps, bytes_eq-Decides)

-- A look-up among the first members finds the last of them, if it has the name, or else looks among those before it.
pub get_member-take : (name : List ℕ) (es : List Entry) (k i : ℕ) (e : Entry) (b : Bool) → k ≡ i + 1 → i < length es
    → e ≡ slice_index_or es i e → bytes_eq name e.0.now ≡ b
    → get_member name (members_view (take k es)) ≡ cond b (Some (view e.1)) (get_member name (members_view (take i es)))
get_member-take name es k i e b next h is same = grind (arith, common_steps, take_more, get_member-push)

AreOrderedMembers-members_view : (es : List Entry) → AreOrderedMembers (members_view es)
AreOrderedMembers-members_view es = AreOrderedMembers-put_all no_members (map (λ m. (m.0, view m.1)) es) tt

count_after_look_up : (o : Option Data) (n : ℕ) → with_one o n ≡ cond (is_some o) n (n + 1)
count_after_look_up o n = grind (arith, common_steps, add-one)

module _ (xs : List Entry) (i : ℕ) where
  -- The number of different names up to the next member, given whether the members before it have
  -- its name.
  pub names_next : (d : Entry) (b : Bool) → i < length xs
      → b ≡ is_some (get_member (slice_index_or xs i d).0.now (members_view (take i xs)))
      → members_len (members_view (take (i + 1) xs)) ≡ cond b (members_len (members_view (take i xs)))
      (members_len (members_view (take i xs)) + 1)
  names_next d b h e =
      let before = members_view (take i xs) in
      let m = slice_index_or xs i d in
      ap (λ es. members_len (members_view es)) (take_more xs i d h) ∙ ap members_len (members_view-push (take i xs) m)
      ∙ members_len-put m.0.now (view m.1) before (AreOrderedMembers-members_view (take i xs))
      ∙ count_after_look_up (get_member m.0.now before) (members_len before)
      ∙ ap (λ c. cond c (members_len before) (members_len before + 1)) (sym e)

  pub names_of_prefix : members_len (members_view (take i xs)) ≤ members_len (members_view xs)
  names_of_prefix =
      let all = members_view-append (take i xs) (drop i xs) in
      subst (λ es. members_len (members_view (take i xs)) ≤ members_len (members_view es)) (take-append-drop i xs)
      (rw all (members_len-put_all (members_view (take i xs)) (map (λ m. (m.0, view m.1)) (drop i xs))
      (AreOrderedMembers-members_view (take i xs))))

-- The data of a list grows by one item when a value is appended.

abbrev pub items_before : List Value → Items → Items
items_before [] rest = rest
items_before (v ∷ vs) rest = item (view v) (items_before vs rest)

pub items_before-no_items : (vs : List Value) → items_before vs no_items ≡ items_view vs
items_before-no_items [] = refl
items_before-no_items (v ∷ vs) = ap (item (view v)) (items_before-no_items vs)

items_push : (vs : List Value) (v : Value) (rest : Items) → items_before vs (item (view v) rest)
    ≡ items_before (vs ++ v ∷ []) rest
items_push [] v rest = refl
items_push (w ∷ vs) v rest = ap (item (view w)) (items_push vs v rest)

pub one_more_item : (vs : List Value) (v : Value) (r : Option (Items × List Token)) → parse_map (items_before vs)
    (parse_map (item (view v)) r) ≡ parse_map (items_before (vs ++ v ∷ [])) r
one_more_item vs v r = grind (arith, common_steps, items_push)

pub none_before : (r : Option (Items × List Token)) → r ≡ parse_map (λ a. a) r
none_before r = grind (arith, common_steps)
