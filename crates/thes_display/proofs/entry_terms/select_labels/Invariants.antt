use Rattle.std.proofs.Common.{◌≡◌, filter, map, take}
use Rattle.thes_display.specs.LabelTexts.{is_label_in}
use Rattle.thes_display.proofs.entry_terms.select_labels.Given as goal

abbrev pub invariant-loop-label : goal.invariant-loop-label
invariant-loop-label l = map (λ x. x.now) l.found.items
    ≡ filter (is_label_in l.kind l.tag) (take l.label-index l.labels)
