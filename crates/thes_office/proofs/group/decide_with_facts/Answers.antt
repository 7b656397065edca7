use Rattle.std.proofs.Common.{subst, rules, arith}
use Rattle.thes_core.specs.CoreDecisions.{AcceptedVerdict, IsVerdict}
use Rattle.thes_office.proofs.GroupLemmas.{decided_settled, decided_accepted}
use Rattle.thes_office.proofs.group.decide_with_facts.Goals as goal

pub returns-in_ok-push-in-Settled-clause-decides : goal.returns-in_ok-push-in-Settled-clause-decides
returns-in_ok-push-in-Settled-clause-decides c = (
  c.in-Settled.answer,
  search rules,
  λ s holds facts.
      decided_settled c.args.core.now.setting s c.args.command.now c.in-Settled.answer c.args.decided.now.delta
      c.args.core.now (subst (IsVerdict c.args.core.now.setting s c.args.command.now) c.in-Settled.is
      (c.in_ok-answer.ensures.decides s holds facts)) holds,
)

pub apply-requires-clause-may : goal.apply-requires-clause-may
apply-requires-clause-may c = grind (arith)

pub returns-in_ok-append-in-Accepted-clause-decides : goal.returns-in_ok-append-in-Accepted-clause-decides
returns-in_ok-append-in-Accepted-clause-decides c = (
  c.in-Accepted.answer,
  c.in_ok-append-in-Accepted.ensures.answers,
  λ s holds facts.
      let grants : AcceptedVerdict c.args.core.now.setting s c.args.command.now c.in-Accepted.answer
      c.in-Accepted.delta = subst (IsVerdict c.args.core.now.setting s c.args.command.now) c.in-Accepted.is
      (c.in_ok-answer.ensures.decides s holds facts) in
      decided_accepted c.args.core.now.setting s c.args.command.now c.in-Accepted.answer c.args.decided.now.delta
      c.append.new.self.delta c.in-Accepted.delta c.apply.new.self grants
      (c.in_ok-apply-in-Accepted.ensures.made s holds facts grants.accepts) c.in_ok-append-in-Accepted.ensures.changes,
)
