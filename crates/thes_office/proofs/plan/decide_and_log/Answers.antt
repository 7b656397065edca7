use Rattle.std.proofs.Common.{subst, rules, arith}
use Rattle.thes_core.specs.CoreDecisions.{AcceptedVerdict, IsVerdict}
use Rattle.thes_office.proofs.GroupLemmas.{decided_settled, decided_accepted}
use Rattle.thes_office.proofs.plan.decide_and_log.Goals as goal

pub returns-in_ok-push-in-Settled-clause-decides : goal.returns-in_ok-push-in-Settled-clause-decides
returns-in_ok-push-in-Settled-clause-decides c = (
  c.in-Settled.answer,
  search rules,
  λ s holds facts. record {
    decided = decided_settled c.args.core.now.setting s c.args.command c.in-Settled.answer
        c.args.progress.now.decided.delta c.args.core.now
        (subst (IsVerdict c.args.core.now.setting s c.args.command) c.in-Settled.is
        (c.in_ok-answer.ensures.decides s holds facts)) holds;
    steps = λ first lead. lead;
  },
)

pub apply_logged-requires-clause-may : goal.apply_logged-requires-clause-may
apply_logged-requires-clause-may c = grind (arith)

pub returns-in_ok-append-in-Accepted-clause-decides : goal.returns-in_ok-append-in-Accepted-clause-decides
returns-in_ok-append-in-Accepted-clause-decides c = (
  c.in-Accepted.answer,
  c.in_ok-append-in-Accepted.ensures.answers,
  λ s holds facts.
      let grants : AcceptedVerdict c.args.core.now.setting s c.args.command c.in-Accepted.answer c.in-Accepted.delta =
      subst (IsVerdict c.args.core.now.setting s c.args.command) c.in-Accepted.is
      (c.in_ok-answer.ensures.decides s holds facts) in
      let applied = c.in_ok-apply_logged-in-Accepted.ensures in
      record {
        decided = decided_accepted c.args.core.now.setting s c.args.command c.in-Accepted.answer
            c.args.progress.now.decided.delta c.append.new.self.delta c.in-Accepted.delta c.apply_logged.new.self
            grants (applied.made s holds facts grants.accepts) c.in_ok-append-in-Accepted.ensures.changes;
        steps = λ first lead. applied.steps first s holds facts grants.accepts lead;
      },
)
