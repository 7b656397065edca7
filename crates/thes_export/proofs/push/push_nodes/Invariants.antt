use Rattle.std.proofs.Common.{ℕ, take}
use Rattle.thes_export.specs.Topics.{Adds, IsLineOf, IsNode}
use Rattle.thes_export.proofs.LineAppendLemmas.{OfSome}
use Rattle.thes_export.proofs.push.push_nodes.Given as goal

abbrev pub invariant-loop-object : goal.invariant-loop-object
invariant-loop-object l =
    Adds (IsLineOf (OfSome (λ (m : ℕ). IsNode l.about.core.now l.about.n l.property m)
    (take l.object-index l.objects))) l.fn.lines.items l.lines.items
