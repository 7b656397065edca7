use Rattle.std.proofs.Common.{take}
use Rattle.thes_export.specs.Topics.{Adds, IsLineOf, MapsOne}
use Rattle.thes_export.proofs.LineAppendLemmas.{OfSome}
use Rattle.thes_export.proofs.link_lines.push_mappings.Given as goal

abbrev pub invariant-loop-kind : goal.invariant-loop-kind
invariant-loop-kind l = Adds (IsLineOf (OfSome (MapsOne l.about.core.now l.about.n) (take l.kind-index l.kind-items)))
    l.fn.lines.items l.lines.items
