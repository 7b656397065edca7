use Rattle.std.proofs.Common.{◌≡◌, map, take}
use Rattle.thes_display.specs.LabelTexts.{label_texts, term_with}
use Rattle.thes_display.proofs.entry_terms.sorted_labels.Given as goal

abbrev pub invariant-loop-label : goal.invariant-loop-label
invariant-loop-label l = l.terms.items ≡ map (term_with l.n) (label_texts (take l.label-index l.labels))
