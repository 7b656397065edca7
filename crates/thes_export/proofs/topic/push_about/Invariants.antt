use Rattle.std.proofs.Common.{take}
use Rattle.thes_export.specs.declared.topic.Topic.{Topic}
use Rattle.thes_export.specs.Topics.{Adds, IsLineOf, IsTopicTriple}
use Rattle.thes_export.proofs.LineAppendLemmas.{OfSome}
use Rattle.thes_export.proofs.topic.push_about.Given as goal

abbrev pub invariant-loop-topic : goal.invariant-loop-topic
invariant-loop-topic l =
    Adds (IsLineOf (OfSome (λ (topic : Topic). IsTopicTriple l.about.core.now topic l.about.n)
    (take l.topic-index l.topic-items))) l.fn.lines.items l.lines.items
