use Rattle.std.proofs.Common.{arith, rules, length}
use Rattle.thes_export.proofs.HoldingLemmas.{tops_none, tops_all}
use Rattle.thes_export.proofs.holdings.tops_by_scheme.Goals as goal

pub loop-i-init : goal.loop-i-init
loop-i-init c = search (rules, tops_none)

pub returns : goal.returns
returns c = tops_all c.args.core.now c.loop-i.i (length c.args.core.now.resources) c.loop-i.tops (omega arith)
    (omega arith)
    c.loop-i.invariant
