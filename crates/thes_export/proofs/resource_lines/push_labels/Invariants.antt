use Rattle.thes_export.proofs.TopicLemmas.{AreLabelsAdded}
use Rattle.thes_export.proofs.resource_lines.push_labels.Given as goal

abbrev pub invariant-loop-label : goal.invariant-loop-label
invariant-loop-label l = AreLabelsAdded l.about.core.now l.about.n l.label-items l.label-index l.fn.lines.items
    l.lines.items
