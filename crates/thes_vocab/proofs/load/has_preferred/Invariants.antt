use Rattle.std.proofs.Common.{◌≡◌, List, ℕ, true, take}
use Rattle.thes_base.specs.declared.data.LabelKind.TheVariants.{Pref}
use Rattle.thes_vocab.specs.OwnLabels.{own_label, has_own}
use Rattle.thes_vocab.proofs.load.has_preferred.Given as goal

-- None of the labels read so far is preferred.
abbrev pub invariant-loop-label : goal.invariant-loop-label
invariant-loop-label l = (tag text : List ℕ) → has_own (take l.label-index l.label-items) (own_label Pref tag text)
    ≡ true → ⊥
