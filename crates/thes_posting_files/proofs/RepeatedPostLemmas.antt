-- Proves how a posting that is sent again is answered.
use Rattle.std.proofs.lemmas.Grind.{common_steps}
use Rattle.std.proofs.Common.{◌≡◌, ◌⊎◌, ◌∙◌, ◌+◌, ◌≤◌, ◌++◌, ◌∷◌, [], ℕ, zero, suc, List, None, Some, max, inl, inr}
use Rattle.std.proofs.Common.{refl, sym, ap, subst, length, append_assoc, append-nil, length-append, arith}
use Rattle.std.specs.Prelude.{slice_get}
use Rattle.std.specs.List.{AllZip}
use Rattle.std.proofs.lemmas.List.Sums.{sum_by-append}
use Rattle.thes_base.specs.declared.data.History.{History}
use Rattle.thes_base.specs.declared.fault.Refusal.{Refusal}
use Rattle.thes_base.specs.declared.fault.Refusal.TheVariants as no
use Rattle.thes_base.specs.declared.request.Answer.{Answer}
use Rattle.thes_base.specs.declared.request.Answer.TheVariants as reply
use Rattle.thes_base.specs.declared.request.Command.{Command}
use Rattle.thes_base.specs.declared.request.Command.TheVariants as request
use Rattle.thes_base.specs.Changes.{new_history, state_after_post}
use Rattle.thes_base.specs.Legal.{AreLegalPostings}
use Rattle.thes_base.specs.Machine.{Run, Step, refusal_rule_of}
use Rattle.thes_base.specs.Postings.{path_end}
use Rattle.thes_base.specs.Refusals.{IsOfKey, Setting}
use Rattle.thes_base.specs.Resources.{Exists, IsConcept, IsLive, entry_at, replacements}
use Rattle.thes_base.specs.State.{IsWithinLimits, State}
use Rattle.thes_base.proofs.ForwardingLemmas.{count_posted}
use Rattle.thes_base.proofs.NumberedLemmas.{push_new}
use Rattle.thes_base.proofs.RefusalRuleLemmas.{passed_unless}
use Rattle.thes_posting_files.specs.Outcomes.{IsOutcome, answers_of, posts_of}
use Rattle.thes_posting_files.specs.declared.csv_row.CsvRow.{CsvRow}
use Rattle.thes_posting_files.specs.declared.csv_row.CsvRow.TheVariants as row
use Rattle.thes_posting_files.specs.declared.outcome.Outcome.{Outcome}
use Rattle.thes_posting_files.specs.declared.outcome.Outcome.TheVariants as outcome
use Rattle.thes_posting_files.proofs.LaterPostingLemmas.{stays_run}

-- The state has more histories, and is otherwise the same.
pub record IsLater (s t : State) : Type 0 where
  more : List History
  is : t ≡ record s { histories = s.histories ++ more }

later_itself : (s : State) → IsLater s s
later_itself s = record { more = []; is = λ i. record s { histories = sym (append-nil s.histories) i } }

later_same : (s t : State) → t ≡ s → IsLater s t
later_same s t e = subst (IsLater s) (sym e) (later_itself s)

later_then : (r s t : State) → IsLater r s → IsLater s t → IsLater r t
later_then r s t a b = grind (arith, common_steps, append_assoc)

get_more : (hs more : List History) (n : ℕ) (h : History) → slice_get hs n ≡ Some h → slice_get (hs ++ more) n ≡ Some h
get_more [] more n h e = absurd (let bad : None ≡ Some h = e in cc)
get_more (g ∷ hs) more zero h e = e
get_more (g ∷ hs) more (suc n) h e = get_more hs more n h e

numbered_more : (hs more : List History) (n : ℕ) (h : History) → entry_at hs n ≡ Some h → entry_at (hs ++ more) n
    ≡ Some h
numbered_more hs more zero h e = absurd (let bad : None ≡ Some h = e in cc)
numbered_more hs more (suc n) h e = get_more hs more n h e

key_stays : (key : List ℕ) (s t : State) (h : History) → IsLater s t → IsOfKey key s.histories h
    → IsOfKey key t.histories h
key_stays key s t h a k = subst (λ (w : State). IsOfKey key w.histories h) (sym a.is)
    (numbered_more s.histories a.more h.number h k.0, k.1)

-- The posting with this key has this number, record and first concept.
pub record HasPosting (key rec : List ℕ) (concept n : ℕ) (s : State) : Type 0 where
  h : History
  of_key : IsOfKey key s.histories h
  rec_is : h.rec ≡ rec
  first_is : h.first ≡ concept
  number_is : h.number ≡ n

pub posting_stays : (key rec : List ℕ) (concept n : ℕ) (s t : State) → IsLater s t → HasPosting key rec concept n s
    → HasPosting key rec concept n t
posting_stays key rec concept n s t later p = record {
  h = p.h;
  of_key = key_stays key s t p.h later p.of_key;
  rec_is = p.rec_is;
  first_is = p.first_is;
  number_is = p.number_is;
}

posting_made : (key rec : List ℕ) (concept : ℕ) (s : State) → HasPosting key rec concept
    (length (state_after_post key rec concept s).histories) (state_after_post key rec concept s)
posting_made key rec concept s =
    let way = replacements s.resources concept in record {
      h = new_history key rec concept way s.histories;
      of_key = (push_new s.histories (new_history key rec concept way s.histories), refl);
      rec_is = refl;
      first_is = refl;
      number_is = sym (length-append s.histories (new_history key rec concept way s.histories ∷ []));
    }

posted_later : (key rec : List ℕ) (concept : ℕ) (s t : State) → t ≡ state_after_post key rec concept s → IsLater s t
posted_later key rec concept s t e =
    record { more = new_history key rec concept (replacements s.resources concept) s.histories ∷ []; is = e }

step_later : (setting : Setting) (key rec : List ℕ) (concept : ℕ) (s t : State) (a : Answer)
    → Step setting s (request.Post key rec concept) a t → IsLater s t
step_later setting key rec concept s t a h = grind (arith, common_steps, later_same, posted_later)

-- After a post was accepted, the state has a posting with its key, record and concept, under the
-- number in the answer.
pub accepted_has : (setting : Setting) (key rec : List ℕ) (concept n : ℕ) (s mid : State) (a : Answer)
    → (a ≡ reply.Number n) ⊎ (a ≡ reply.Again n) → Step setting s (request.Post key rec concept) a mid
    → HasPosting key rec concept n mid
accepted_has setting key rec concept n s mid a h k = grind (arith, common_steps, posting_made)

-- A key has only one posting.
one_of_key : (s : State) → AreLegalPostings s.resources s.histories → (key : List ℕ) (g h : History)
    → IsOfKey key s.histories g → IsOfKey key s.histories h → g ≡ h
one_of_key s legal key g h a b = grind (arith, common_steps)

pub has_again : (setting : Setting) (key rec : List ℕ) (concept n : ℕ) (t u : State) (b : Answer)
    → AreLegalPostings t.resources t.histories → HasPosting key rec concept n t
    → Step setting t (request.Post key rec concept) b u → (b ≡ reply.Again n) × (u ≡ t)
has_again setting key rec concept n t u b legal p h = grind (arith, common_steps, one_of_key)

-- A posting sent again after any requests is answered with its number.
pub answers_again : (setting : Setting) (s mid t u : State) (key rec : List ℕ) (concept n : ℕ) (a b : Answer)
    (commands : List Command) (answers : List Answer) → (a ≡ reply.Number n) ⊎ (a ≡ reply.Again n)
    → Step setting s (request.Post key rec concept) a mid → Run setting mid commands answers t
    → AreLegalPostings t.resources t.histories → Step setting t (request.Post key rec concept) b u → (b ≡ reply.Again n)
    × (u ≡ t)
answers_again setting s mid t u key rec concept n a b commands answers row_outcome first run legal second =
    let p = accepted_has setting key rec concept n s mid a row_outcome first in
    let r = stays_run setting p.h.number p.h mid t commands answers run p.of_key.0 in
    has_again setting key rec concept n t u b legal
    (record {
      h = r.0;
      of_key = (ap (entry_at t.histories) r.2.number ∙ r.1, r.2.key ∙ p.of_key.1);
      rec_is = r.2.rec ∙ p.rec_is;
      first_is = r.2.first ∙ p.first_is;
      number_is = r.2.number ∙ p.number_is;
    }) second

some_none : (r : Refusal) → Some r ≡ None → ⊥
some_none r e = cc

fits_before : (limit m n w : ℕ) → m ≤ n → n + w ≤ max limit n → m + w ≤ max limit m
fits_before limit m n w le h = omega arith

fits_same : (limit n : ℕ) → n ≤ max limit n
fits_same limit n = omega arith

-- A post that would keep a later state within the limits would also keep an earlier one within them.
within_before : (setting : Setting) (key rec : List ℕ) (concept : ℕ) (s t : State) → IsLater s t
    → IsWithinLimits setting.limits t (state_after_post key rec concept t) → IsWithinLimits setting.limits s
    (state_after_post key rec concept s)
within_before setting key rec concept s t a w =
    grind (arith, common_steps, count_posted, fits_before, fits_same, length-append, sum_by-append)

accepted_before : (setting : Setting) (key rec : List ℕ) (concept : ℕ) (s t : State) → IsLater s t
    → refusal_rule_of setting t (state_after_post key rec concept t) (request.Post key rec concept) None
    → (r : Refusal) → refusal_rule_of setting s (state_after_post key rec concept s) (request.Post key rec concept)
    (Some r) → ⊥
accepted_before setting key rec concept s t a passes r not_yet =
    let exists = passed_unless passes in
    let is_concept = passed_unless exists.1 in
    let is_live = passed_unless is_concept.1 in
    let is_short = passed_unless is_live.1 in
    go exists.0 is_concept.0 is_live.0 (within_before setting key rec concept s t a is_short.0) not_yet
  where
    rs : t.resources ≡ s.resources
    rs = ap (λ (w : State). w.resources) a.is

    go : Exists t.resources concept → IsConcept t.resources concept
        → IsLive t.resources (path_end concept (replacements t.resources concept)) → IsWithinLimits setting.limits s
        (state_after_post key rec concept s) → refusal_rule_of setting s (state_after_post key rec concept s)
        (request.Post key rec concept) (Some r) → ⊥
    go e k l w h = grind (arith, common_steps, rs, some_none)

-- The answer is a number that a posting has already, or a refusal.
abbrev pub IsRepeatedOrRefused : Answer → Type 0
IsRepeatedOrRefused b = ((n : ℕ) × (b ≡ reply.Again n)) ⊎ ((r : Refusal) × (b ≡ reply.No r))

-- A post that was refused changes nothing when it is sent again.
pub refused_again : (setting : Setting) (key rec : List ℕ) (concept : ℕ) (s mid t u : State) (a b : Answer)
    (r : Refusal) → a ≡ reply.No r → Step setting s (request.Post key rec concept) a mid → IsLater mid t
    → Step setting t (request.Post key rec concept) b u → IsRepeatedOrRefused b × (u ≡ t)
refused_again setting key rec concept s mid t u a b r e first later (inl ((h, of_key, inl again), same)) =
    (inl (h.number, again.2), same)
refused_again setting key rec concept s mid t u a b r e first later (inl ((h, of_key, inr reused), same)) =
    (inr (no.KeyReused, reused.1), same)
refused_again setting key rec concept s mid t u a b r e first later (inr (new, inl refused)) =
    (inr (refused.0, refused.2), refused.3)
refused_again setting key rec concept s mid t u a b r e (inl ((h, of_key, _), same)) later (inr (new, inr consumes)) =
    absurd (new h (key_stays key mid t h later (subst (λ (w : State). IsOfKey key w.histories h) (sym same) of_key)))
refused_again setting key rec concept s mid t u a b r e (inr (fresh, inl refused)) later (inr (new, inr consumes)) =
    absurd (accepted_before setting key rec concept s t (subst (λ (w : State). IsLater w t) refused.3 later)
    consumes.0 refused.0 refused.1)
refused_again setting key rec concept s mid t u a b r e (inr (fresh, inr posts)) later (inr (new, inr consumes)) =
    grind (arith, common_steps)

-- A post is answered only with a number, a repetition or a refusal.
pub not_answered : (setting : Setting) (key rec : List ℕ) (concept : ℕ) (s t : State) (a : Answer)
    → Step setting s (request.Post key rec concept) a t → ((n : ℕ) → ¬ (a ≡ reply.Number n))
    → ((n : ℕ) → ¬ (a ≡ reply.Again n)) → ((r : Refusal) → ¬ (a ≡ reply.No r)) → ⊥
not_answered setting key rec concept s t a h x y z = grind (arith, common_steps)

-- Rows performed with these outcomes only add postings.
pub rows_later : (setting : Setting) (s t : State) (rows : List CsvRow) (os : List Outcome) → AllZip IsOutcome rows os
    → Run setting s (posts_of rows) (answers_of os) t → IsLater s t
rows_later setting s t [] [] each run = later_same s t run
rows_later setting s t [] (o ∷ os) each run = absurd each
rows_later setting s t (x ∷ rows) [] each run = absurd each
rows_later setting s t (row.Post key rec concept ∷ rows) (outcome.Reply a ∷ os) each run =
    later_then s run.0 t (step_later setting key rec concept s run.0 a run.1)
    (rows_later setting run.0 t rows os each.1 run.2)
rows_later setting s t (row.Post key rec concept ∷ rows) (outcome.Bad f ∷ os) each run = absurd each.0
rows_later setting s t (row.Bad f ∷ rows) (outcome.Reply a ∷ os) each run = absurd each.0
rows_later setting s t (row.Bad f ∷ rows) (outcome.Bad g ∷ os) each run = rows_later setting s t rows os each.1 run
