use Rattle.std.proofs.Common.{◌∙◌, ap, take_all}
use Rattle.std.specs.List.{concat}
use Rattle.thes_export.proofs.GatherLemmas.{joined_more}
use Rattle.thes_export.proofs.gather.join_parts.Goals as goal

pub loop-part-preserved : goal.loop-part-preserved
loop-part-preserved c = joined_more c.args.parts.now c.loop-part.part-index c.part-item.result _ _
    c.loop-part-test.true c.part-item.is c.loop-part.invariant c.in_ok-push_text.ensures

pub returns : goal.returns
returns c = c.loop-part.invariant ∙ ap concat (take_all c.loop-part.part-index c.args.parts.now c.loop-part-test.false)
