use Rattle.std.proofs.Common.{sym, subst, ap}
use Rattle.thes_base.specs.Links.{Links}
use Rattle.thes_links.specs.GraphView.{CountedGraphView}
use Rattle.thes_links.specs.Reading.{AreAll}
use Rattle.thes_graph.proofs.graph.Graph.check_whole.Goals as goal

pub check_listed_links-requires : goal.check_listed_links-requires
check_listed_links-requires c =
    rw c.deref.ensures.value
    (subst (λ (links : Links). AreAll links c.in_ok-all.all.items) (sym (ap (λ (w : CountedGraphView). w.net.links)
    c.walk-walk.ensures)) c.in_ok-all.ensures)
