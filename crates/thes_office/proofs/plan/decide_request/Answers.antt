use Rattle.std.proofs.Common.{ap, subst, ◌∙◌, List}
use Rattle.thes_base.specs.declared.request.Answer.{Answer}
use Rattle.thes_base.specs.declared.request.Command.{Command}
use Rattle.thes_plans.specs.Resolving.{resolved_command}
use Rattle.thes_office.specs.PlanDecisions.{DecidesRequest}
use Rattle.thes_office.proofs.plan.decide_request.Goals as goal

pub returns-in-Ok-clause-decides : goal.returns-in-Ok-clause-decides
returns-in-Ok-clause-decides g c =
    let d = c.in-Ok.ensures.decides in (
      d.0,
      c.last_refusal.ensures c.args.progress.now.decided.answers.items d.0 (c.as_slice-in-Ok.ensures.value ∙ d.1),
      d.1,
      λ up. subst (λ (m : Command). DecidesRequest (g.K.Keeper.view c.args.keeper.now).rows c.args.progress.now
          c.decide_and_record.new.progress c.args.core.now c.decide_and_record.new.core m d.0)
          (c.in_ok-command.ensures ∙ ap (λ (xs : List Answer). resolved_command xs c.args.asked)
          c.as_slice.ensures.value) (d.2 up),
    )
