-- Preferred labels stay unique after the creation and after the death of a resource.
use Rattle.std.proofs.lemmas.Grind.{common_steps}
use Rattle.std.proofs.Common.{◌≡◌, ◌≢◌, ◌⊎◌, ◌≤◌, ℕ, ◌+◌, length, List, [], ◌∷◌, ◌++◌, sym, ◌∙◌, arith}
use Rattle.std.proofs.Common.{Bool, true, false, ◌&&◌}
use Rattle.std.specs.Prelude.{Option, Some}
use Rattle.std.specs.FinSet.{contains, insert}
use Rattle.thes_base.specs.declared.data.Resource.{Resource}
use Rattle.thes_base.specs.declared.data.LabelKind.TheVariants.{Pref}
use Rattle.thes_base.specs.Resources.{entry_at, set_entry_at, IsLiveConcept, scheme_of, is_concept_kind}
use Rattle.thes_base.specs.Labels.{Label, Labels, HasLabel, UniquePreferred, IsPreferredTaken}
use Rattle.thes_base.specs.Changes.{label, resource_after_death}
pub use Rattle.thes_base.proofs.ResourceLemmas.{scheme_at}
use Rattle.thes_base.proofs.LabelSetLemmas.{inserted_cases, inserted_kept, inserted_new}
use Rattle.thes_base.proofs.NumberedLemmas.{push_old, push_new, push_cases, numbered_bound, set_cases}

abbrev Owners : List Resource → Labels → Type 0
Owners rs labels = (l : Label) → contains labels l ≡ true → (1 ≤ l.owner) × (l.owner ≤ length rs)

-- A preferred label after a creation belongs to the new resource, or was held before.
label_cases : (rs : List Resource) (labels : Labels) (tag text : List ℕ) → Owners rs labels → (n : ℕ) (t x : List ℕ)
    → HasLabel (insert labels (label (length rs + 1) Pref tag text)) n Pref t x
    → ((n ≡ length rs + 1) × (t ≡ tag) × (x ≡ text)) ⊎ ((n ≤ length rs) × HasLabel labels n Pref t x)
label_cases rs labels tag text owners n t x h = grind (arith, common_steps, inserted_cases)

-- Preferred labels stay unique after a creation if no live concept of the scheme already has the preferred label.
pub made_unique : (rs : List Resource) (labels : Labels) (r : Resource) (tag text : List ℕ) → Owners rs labels
    → UniquePreferred rs labels → ((scheme : ℕ) → (is_concept_kind r.kind && r.live) ≡ true → r.scheme ≡ Some scheme
    → ¬ IsPreferredTaken rs labels scheme tag text) → UniquePreferred (rs ++ r ∷ [])
    (insert labels (label (length rs + 1) Pref tag text))
made_unique rs labels r tag text owners p1 free m n scheme t x lm ln sm sn hm hn =
    grind (arith, common_steps, label_cases, numbered_bound, push_cases)

-- Preferred labels aren't unique after a creation if a live concept of the scheme already has the preferred label.
pub taken_breaks : (rs : List Resource) (labels : Labels) (scheme : ℕ) (r : Resource) (tag text : List ℕ)
    → (is_concept_kind r.kind && r.live) ≡ true → r.scheme ≡ Some scheme → IsPreferredTaken rs labels scheme tag text
    → ¬ UniquePreferred (rs ++ r ∷ []) (insert labels (label (length rs + 1) Pref tag text))
taken_breaks rs labels scheme r tag text live sr taken p1 =
    let n = taken.0 in
    let o = taken.1.0 in
    let b = numbered_bound rs n o taken.1.1 in
    let stays = push_old rs r o n taken.1.1 in
    let e = p1 n (length rs + 1) scheme tag text (o, stays, taken.1.2) (r, push_new rs r, live)
    (scheme_at _ n o stays ∙ sym (scheme_at rs n o taken.1.1) ∙ taken.2)
    (scheme_at _ (length rs + 1) r (push_new rs r) ∙ sr)
    (inserted_kept labels _ _ taken.3) (inserted_new labels _) in
    omega (arith, b.1, e)

and_false : (a : Bool) → (a && false) ≡ true → ⊥
and_false true e = absurd (cc)
and_false false e = absurd (cc)

-- A live concept after a death was live before, in the same scheme.
pub live_before : (rs : List Resource) (n : ℕ) (rep : Option ℕ) (r : Resource) → entry_at rs n ≡ Some r → (m : ℕ)
    → IsLiveConcept (set_entry_at rs n (resource_after_death rep r)) m → (m ≢ n) × IsLiveConcept rs m
    × (scheme_of (set_entry_at rs n (resource_after_death rep r)) m ≡ scheme_of rs m)
live_before rs n rep r e m live = grind (arith, common_steps, and_false, numbered_bound, set_cases)

-- Preferred labels stay unique after a death.
pub dead_unique : (rs : List Resource) (labels : Labels) (n : ℕ) (rep : Option ℕ) (r : Resource) → entry_at rs n
    ≡ Some r → UniquePreferred rs labels → UniquePreferred (set_entry_at rs n (resource_after_death rep r)) labels
dead_unique rs labels n rep r e p1 j k scheme t x lj lk sj sk hj hk = grind (arith, common_steps, live_before)
