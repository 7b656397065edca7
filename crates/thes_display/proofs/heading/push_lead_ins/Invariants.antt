use Rattle.std.proofs.Common.{◌≡◌, ◌++◌, map, take}
use Rattle.thes_display.specs.LabelTexts.{label_texts}
use Rattle.thes_display.proofs.HeadingLemmas.{lead_in_with}
use Rattle.thes_display.proofs.heading.push_lead_ins.Given as goal

abbrev pub invariant-loop-label : goal.invariant-loop-label
invariant-loop-label l = l.headings.items ≡ l.fn.headings.items
    ++ map (lead_in_with l.n) (label_texts (take l.label-index l.label-items))
