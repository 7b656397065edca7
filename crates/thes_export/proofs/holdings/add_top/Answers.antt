use Rattle.std.proofs.Common.{subst}
use Rattle.thes_export.specs.Holdings.{IsTopScheme}
use Rattle.thes_export.proofs.HoldingLemmas.{tops_more, tops_same}
use Rattle.thes_export.proofs.holdings.add_top.Goals as goal

pub returns-in-None : goal.returns-in-None
returns-in-None c = tops_same c.args.core.now c.args.i c.new-n.result c.new-n.ensures c.args.tops.now
    (subst (IsTopScheme c.args.core.now c.new-n.result) c.in-None.is c.in_ok-top_scheme_of.ensures) c.requires.listed

pub returns-in_ok-insert-in-Some : goal.returns-in_ok-insert-in-Some
returns-in_ok-insert-in-Some c = tops_more c.args.core.now c.args.i c.new-n.result c.new-n.ensures _ _
    c.in-Some.scheme (subst (IsTopScheme c.args.core.now c.new-n.result) c.in-Some.is c.in_ok-top_scheme_of.ensures)
    c.in_ok-insert-in-Some.ensures c.requires.listed
