use Rattle.std.proofs.Common.{arith}
use Rattle.thes_load_rows.proofs.ReadResultLemmas.{resource_read, resource_unread}
use Rattle.thes_load_rows.proofs.resources.ResourceLoad.read.Goals as goal

pub returns-in_ok-good-in-Some : goal.returns-in_ok-good-in-Some
returns-in_ok-good-in-Some c = resource_read c.args.self.now.resources.items c.args.cells.now c.in-Some.row
    c.in-Some.ensures.1 c.take.new.self.resources.items c.in_ok-good-in-Some.good c.in_ok-good-in-Some.ensures

pub returns-in-None : goal.returns-in-None
returns-in-None c = grind (arith, resource_unread)
