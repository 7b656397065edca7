use Rattle.std.proofs.Common.{ap, subst, ◌∙◌}
use Rattle.std.specs.Ordering.{nat_cmp}
use Rattle.std.specs.FinSet.{FinSet, insert, from_list}
use Rattle.thes_base.specs.Links.{Holds}
use Rattle.thes_links.specs.GraphView.{GraphView}
use Rattle.thes_graph.specs.Index.{links_in}
use Rattle.thes_graph.proofs.CountLemmas.{counted_index, keys_of, total_by_keys, view_by_keys}
use Rattle.thes_graph.proofs.MarkLemmas.{from_list_marked, IsIndexed-marked}
use Rattle.thes_graph.proofs.graph.Graph.mark_outside.Goals as goal

pub invariant_of-self-2 : goal.invariant_of-self-2
invariant_of-self-2 c =
    let rows = c.self.inside.rows in
    let old = c.self.inside.marked.keys in
    counted_index (keys_of rows) rows c.insert.new.self.keys
    (IsIndexed-marked (keys_of rows) rows old c.insert.new.self.keys c.args.n c.self.invariant.index
    (from_list_marked old c.insert.new.self.keys c.args.n c.in_ok-insert.ensures.updates.0)
    (λ l held. c.requires l (subst (λ (net : GraphView). Holds net.links l)
    (view_by_keys rows (from_list old) c.args.self.now c.self.view_is) held)))
    c.self.inside.total (total_by_keys rows old c.self.inside.total c.self.invariant)

pub returns-clause-ok : goal.returns-clause-ok
returns-clause-ok c =
    ap (λ (s : FinSet nat_cmp). record { links = links_in c.self.inside.rows; outside = s })
    (from_list_marked c.self.inside.marked.keys c.insert.new.self.keys c.args.n c.in_ok-insert.ensures.updates.0)
    ∙ ap (λ (net : GraphView). record { links = net.links; outside = insert net.outside c.args.n }) c.self.view_is
