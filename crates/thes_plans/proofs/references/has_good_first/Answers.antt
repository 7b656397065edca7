use Rattle.std.proofs.Common.{sym, subst}
use Rattle.std.specs.Prelude.{◌↔◌, IsTrue}
use Rattle.thes_base.specs.declared.request.Command.{Command}
use Rattle.thes_plans.specs.References.{IsGoodReference, MakesFirst}
use Rattle.thes_plans.proofs.ReferenceLemmas.{good_first}
use Rattle.thes_plans.proofs.references.has_good_first.Goals as goal

pub returns-in-Withdraw : goal.returns-in-Withdraw
returns-in-Withdraw c = subst (λ (m : Command). IsTrue c.refers_to_posting.result ↔ IsGoodReference (MakesFirst m)
    c.args.earlier.now c.args.asked.now.first) (sym c.in-Withdraw.is) c.refers_to_posting.ensures

pub returns-in_default : goal.returns-in_default
returns-in_default c = good_first c.args.asked.now.command c.args.earlier.now c.args.asked.now.first
    c.refers_to_resource.result c.in_default.not-Withdraw c.refers_to_resource.ensures
