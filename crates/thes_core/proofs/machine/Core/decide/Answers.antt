use Rattle.std.proofs.Common.{ap, ◌∙◌, refl, inl, arith}
use Rattle.thes_core.specs.CoreView.{CoreView}
use Rattle.thes_core.proofs.ApplyLemmas.{held_in_order, held_kept, held_meant, held_sums, held_unspent, in_view}
use Rattle.thes_core.proofs.machine.Core.decide.Goals as goal

pub check_request-requires : goal.check_request-requires
check_request-requires c = c.self.invariant (ap (λ (k : CoreView). k.spent) c.self.view_is ∙ c.requires)

pub accepted-requires : goal.accepted-requires
accepted-requires c = grind (arith)

pub returns-in-Some-clause-decides : goal.returns-in-Some-clause-decides
returns-in-Some-clause-decides c = λ s holds told. inl (c.in-Some.ensures.some s told, refl)

pub returns-in-Some-2-clause-decides : goal.returns-in-Some-2-clause-decides
returns-in-Some-2-clause-decides c = grind (arith, held_kept, held_sums, in_view)

pub returns-in_ok-accepted-in-None-clause-decides : goal.returns-in_ok-accepted-in-None-clause-decides
returns-in_ok-accepted-in-None-clause-decides c = grind (arith, held_kept, held_meant, held_sums, in_view)

pub returns-in_ok-accepted-in-None-clause-may : goal.returns-in_ok-accepted-in-None-clause-may
returns-in_ok-accepted-in-None-clause-may c = grind (arith, held_unspent)

pub returns-in-Some-clause-in_order : goal.returns-in-Some-clause-in_order
returns-in-Some-clause-in_order c = held_in_order c.args.self.now

pub returns-in_err-refusal-clause-in_order : goal.returns-in_err-refusal-clause-in_order
returns-in_err-refusal-clause-in_order c = held_in_order c.args.self.now

pub returns-in_err-accepted-in-None-clause-in_order : goal.returns-in_err-accepted-in-None-clause-in_order
returns-in_err-accepted-in-None-clause-in_order c = held_in_order c.args.self.now

pub returns-in-Some-2-clause-in_order : goal.returns-in-Some-2-clause-in_order
returns-in-Some-2-clause-in_order c = held_in_order c.args.self.now

pub returns-in_ok-accepted-in-None-clause-in_order : goal.returns-in_ok-accepted-in-None-clause-in_order
returns-in_ok-accepted-in-None-clause-in_order c = held_in_order c.args.self.now
