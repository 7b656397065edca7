use Rattle.std.proofs.Common.{take, []}
use Rattle.thes_core.specs.CoreView.{with_histories}
use Rattle.thes_display.proofs.HeadingLemmas.{AddsOfThese}
use Rattle.thes_display.proofs.heading.push_all_lead_ins.Given as goal

abbrev pub invariant-loop-concept : goal.invariant-loop-concept
invariant-loop-concept l = AddsOfThese (with_histories [] l.core) l.tag (take l.concept-index l.concepts)
    l.fn.headings.items l.headings.items
