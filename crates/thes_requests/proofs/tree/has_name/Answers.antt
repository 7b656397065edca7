use Rattle.std.proofs.Common.{◌≡◌, ◌-◌, true, false, is_some, sym, ap, ◌∙◌, bytes_eq, arith}
use Rattle.thes_requests.proofs.TreeLemmas.{get_member-take}
use Rattle.thes_requests.proofs.tree.has_name.Goals as goal

pub returns-then-is_same_name : goal.returns-then-is_same_name
returns-then-is_same_name c =
    let m = c.index-members-left.result in
    let same : bytes_eq c.args.name.now m.0.now ≡ true = grind arith in
    let found = get_member-take c.args.name.now c.args.members.now c.loop-left.left (c.loop-left.left - 1) m true in
    sym (ap is_some (c.loop-left.invariant.0 ∙ found (omega arith) (omega arith) c.index-members-left.is same))

pub loop-left-preserved : goal.loop-left-preserved
loop-left-preserved c =
    let m = c.index-members-left.result in
    let other : bytes_eq c.args.name.now m.0.now ≡ false = grind arith in
    let found = get_member-take c.args.name.now c.args.members.now c.loop-left.left (c.loop-left.left - 1) m false in
    (c.loop-left.invariant.0 ∙ found (omega arith) (omega arith) c.index-members-left.is other, omega arith)
