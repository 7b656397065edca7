-- The labels after a preferred label is replaced.
use Rattle.std.proofs.lemmas.Grind.{common_steps}
use Rattle.std.proofs.Common.{arith}
use Rattle.std.proofs.Common.{◌≡◌, ◌≢◌, ◌⊎◌, ℕ, List, Bool, true}
use Rattle.std.specs.FinSet.{contains, insert, remove}
use Rattle.thes_base.specs.declared.data.LabelKind.TheVariants.{Pref, Alt}
use Rattle.thes_base.specs.Labels.{Label, Labels}
use Rattle.thes_base.specs.Changes.{label, replace_preferred}
use Rattle.thes_base.proofs.LabelSetLemmas.{inserted_cases, inserted_kept, inserted_new, removed_cases, removed_kept}

module _ (labels : Labels) (owner : ℕ) (tag text old : List ℕ) (keep : Bool) where
  abbrev was : Label
  was = label owner Pref tag old

  abbrev fresh : Label
  fresh = label owner Pref tag text

  abbrev kept : Label
  kept = label owner Alt tag old

  abbrev plain : Labels
  plain = insert (remove labels was) fresh

  abbrev after : Labels
  after = replace_preferred owner tag text keep old labels

  -- The label is the new preferred one, the old text as an alternative label if it is kept, or another label held
  -- before.
  abbrev pub IsReplacedLabel : Label → Type 0
  IsReplacedLabel q = (q ≡ fresh) ⊎ ((keep ≡ true) × (q ≡ kept)) ⊎ ((q ≢ was) × (contains labels q ≡ true))

  pub renamed_cases : (q : Label) → contains after q ≡ true → IsReplacedLabel q
  renamed_cases q = grind (arith, common_steps, inserted_cases, removed_cases)

  renamed_has : (q : Label) → contains plain q ≡ true → contains after q ≡ true
  renamed_has q h = grind (arith, common_steps, inserted_kept)

  pub renamed_fresh : contains after fresh ≡ true
  renamed_fresh = renamed_has fresh (inserted_new (remove labels was) fresh)

  pub renamed_old : (q : Label) → q ≢ was → contains labels q ≡ true → contains after q ≡ true
  renamed_old q apart held =
      renamed_has q (inserted_kept (remove labels was) fresh q (removed_kept labels was q apart held))

  pub renamed_kept : keep ≡ true → contains after kept ≡ true
  renamed_kept e = grind (arith, common_steps, inserted_new)
