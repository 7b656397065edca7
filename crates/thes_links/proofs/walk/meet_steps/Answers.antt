use Rattle.std.proofs.Common.{ap, sym, ◌∙◌}
use Rattle.thes_base.specs.declared.data.Link.{Link}
use Rattle.thes_links.specs.Steps.{step_along}
use Rattle.thes_links.proofs.StepLemmas.{GrowsBy-step, GrowsBy-no_step}
use Rattle.thes_links.proofs.walk.meet_steps.Goals as goal
use Rattle.thes_links.proofs.walk.meet_steps.Goals.{in-Some+in_ok-meet-in-Some, in-None}

pub loop-link-preserved : goal.loop-link-preserved
loop-link-preserved c =
    elim c.match-step.branch [
      | in-Some+in_ok-meet-in-Some w ↦ rw w.nodes-is
          (GrowsBy-step c.args.relation c.args.links.now c.loop-link.link-index c.link-item.result c.args.x
          c.loop-link-test.true _ _ _ w.in-Some.y (ap (λ (l : Link). step_along c.args.relation l c.args.x)
          (sym c.link-item.is) ∙ sym w.in-Some.ensures) c.loop-link.invariant w.in_ok-meet-in-Some.ensures.grows)
      | in-None w ↦ rw w.nodes-is (GrowsBy-no_step c.args.relation c.args.links.now c.loop-link.link-index
          c.link-item.result c.args.x c.loop-link-test.true _ _
          (ap (λ (l : Link). step_along c.args.relation l c.args.x) (sym c.link-item.is) ∙ sym w.in-None.ensures)
          c.loop-link.invariant)
    ]
