use Rattle.std.proofs.Common.{arith, rules, length}
use Rattle.thes_export.proofs.HoldingLemmas.{members_none, members_all}
use Rattle.thes_export.proofs.holdings.members_by_collection.Goals as goal

pub loop-i-init : goal.loop-i-init
loop-i-init c = search (rules, members_none)

pub returns : goal.returns
returns c = members_all c.args.core.now c.loop-i.i (length c.args.core.now.resources) c.loop-i.members (omega arith)
    (omega arith)
    c.loop-i.invariant
