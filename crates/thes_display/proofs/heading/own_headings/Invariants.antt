use Rattle.std.proofs.Common.{◌≡◌, map, take, []}
use Rattle.thes_core.specs.CoreView.{with_histories}
use Rattle.thes_display.proofs.HeadingLemmas.{own_with}
use Rattle.thes_display.proofs.heading.own_headings.Given as goal

abbrev pub invariant-loop-concept : goal.invariant-loop-concept
invariant-loop-concept l = l.headings.items ≡ map (own_with (with_histories [] l.core) l.tag)
    (take l.concept-index l.concepts)
