use Rattle.std.proofs.Common.{subst, sym, refl, arith}
use Rattle.thes_base.specs.declared.request.Answer.{Answer}
use Rattle.thes_base.specs.Machine.{Step, next_state}
use Rattle.thes_core.specs.CoreDecisions.{AcceptedVerdict, IsVerdict}
use Rattle.thes_core.proofs.ApplyLemmas.{held_in_order}
use Rattle.thes_core.proofs.NextStateLemmas.{step_of_accepted}
use Rattle.thes_core.proofs.machine.Core.step.Goals as goal

pub apply-requires-clause-may : goal.apply-requires-clause-may
apply-requires-clause-may c = grind (arith)

pub returns-in-Settled-clause-performs : goal.returns-in-Settled-clause-performs
returns-in-Settled-clause-performs c = λ s holds told. (
  s,
  subst (IsVerdict c.args.self.now.setting s c.args.command.now) c.in-Settled.is
      (c.in_ok-answer.ensures.decides s holds told),
  holds,
  c.requires,
  refl,
)

pub returns-in-Settled-clause-in_order : goal.returns-in-Settled-clause-in_order
returns-in-Settled-clause-in_order c = held_in_order c.args.self.now

pub returns-in_ok-apply-in-Accepted-clause-performs : goal.returns-in_ok-apply-in-Accepted-clause-performs
returns-in_ok-apply-in-Accepted-clause-performs c = λ s holds told.
    let setting = c.args.self.now.setting in
    let command = c.args.command.now in
    let verdict : AcceptedVerdict setting s command c.in-Accepted.answer c.in-Accepted._delta =
    subst (IsVerdict setting s command) c.in-Accepted.is (c.in_ok-answer.ensures.decides s holds told) in (
      next_state command s,
      subst (λ (a : Answer). Step setting s command a (next_state command s)) (sym verdict.answer_is)
          (step_of_accepted setting s command verdict.accepts),
      c.in_ok-apply-in-Accepted.ensures.made s holds told verdict.accepts,
      c.in_ok-apply-in-Accepted.ensures.frame.0,
      c.in_ok-apply-in-Accepted.ensures.frame.1,
    )

pub returns-in_ok-apply-in-Accepted-clause-in_order : goal.returns-in_ok-apply-in-Accepted-clause-in_order
returns-in_ok-apply-in-Accepted-clause-in_order c = held_in_order c.apply.new.self
