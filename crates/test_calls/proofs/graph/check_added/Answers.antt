use Rattle.std.proofs.Common.{inl, refl}
use Rattle.thes_links.specs.GraphView.{is_marked}
use Rattle.thes_links.proofs.NormLemmas.{away_of_added}
use Rattle.test_calls.proofs.graph.check_added.Goals as goal

pub check_at-requires : goal.check_at-requires
check_at-requires c =
    let none = c.in_ok-check_whole.ensures in
    rw (c.walk-walk.ensures, c.in_ok-add-in-None.ensures.ok)
    (away_of_added (is_marked c.args.graph.now) c.args.graph.now.links c.args.link.now c.args.link.now.a
    (inl refl) (rw c.in-None.is at none))
