use Rattle.std.proofs.Common.{ap, subst, ◌∙◌}
use Rattle.std.specs.Ordering.{nat_cmp}
use Rattle.std.specs.FinSet.{FinSet, remove, from_list}
use Rattle.thes_base.specs.Links.{Holds}
use Rattle.thes_links.specs.GraphView.{GraphView}
use Rattle.thes_graph.specs.Index.{links_in}
use Rattle.thes_graph.proofs.CountLemmas.{counted_index, keys_of, total_by_keys, view_by_keys}
use Rattle.thes_graph.proofs.MarkLemmas.{from_list_unmarked, IsIndexed-unmarked}
use Rattle.thes_graph.proofs.graph.Graph.unmark_outside.Goals as goal

pub invariant_of-self : goal.invariant_of-self
invariant_of-self c =
    let rows = c.self.inside.rows in
    let old = c.self.inside.marked.keys in
    counted_index (keys_of rows) rows c.remove.new.self.keys
    (IsIndexed-unmarked (keys_of rows) rows old c.remove.new.self.keys c.args.n c.self.invariant.index
    (from_list_unmarked old c.remove.new.self.keys c.args.n c.remove.ensures.updates.0)
    (λ l held. c.requires l (subst (λ (net : GraphView). Holds net.links l)
    (view_by_keys rows (from_list old) c.args.self.now c.self.view_is) held)))
    c.self.inside.total (total_by_keys rows old c.self.inside.total c.self.invariant)

pub returns : goal.returns
returns c =
    ap (λ (s : FinSet nat_cmp). record { links = links_in c.self.inside.rows; outside = s })
    (from_list_unmarked c.self.inside.marked.keys c.remove.new.self.keys c.args.n c.remove.ensures.updates.0)
    ∙ ap (λ (net : GraphView). record { links = net.links; outside = remove net.outside c.args.n }) c.self.view_is
