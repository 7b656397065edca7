use Rattle.std.proofs.Common.{◌≡◌, ◌-◌, true, rules, ap, sym, refl, ◌∙◌}
use Rattle.std.specs.BTreeMap.{is_at}
use Rattle.std.specs.FinSet.{remove, from_list}
use Rattle.std.specs.Set.{remove_key}
use Rattle.std.proofs.lemmas.Bool.{both_ways}
use Rattle.thes_base.specs.Links.{Links}
use Rattle.thes_links.specs.GraphView.{GraphView}
use Rattle.thes_links.proofs.SetLemmas.{remove_absent}
use Rattle.thes_graph.proofs.CountLemmas.{counted_index, keys_of, links_in_is, test_seen, total_by_keys, total_without}
use Rattle.thes_graph.proofs.CountLemmas.{view_by_keys}
use Rattle.thes_graph.proofs.IndexLemmas.{row_sorted, other_sorted, IsIndexed-taken, from_list_without}
use Rattle.thes_graph.proofs.IndexLemmas.{without_computed}
use Rattle.thes_graph.proofs.LinkOrderLemmas.{derived_link_cmp}
use Rattle.thes_graph.proofs.graph.Graph.detach.Goals as goal

pub remove-requires : goal.remove-requires
remove-requires c = row_sorted (keys_of c.self.inside.rows) c.self.inside.marked.keys c.self.inside.rows
    c.self.invariant.index c.args.link.now.a

pub remove-requires-then-holds : goal.remove-requires-then-holds
remove-requires-then-holds c =
    other_sorted (keys_of c.self.inside.rows) c.self.inside.marked.keys c.self.inside.rows c.self.invariant.index
    c.remove.new.self c.args.link.now.a c.args.link.now.b _
    (c.if-holds.ensures.two_ends c.args.link.now (sym c.if-holds.ensures.holds)) c.remove.ensures

pub invariant_of-self : goal.invariant_of-self
invariant_of-self c =
    let rows = c.self.inside.rows in
    let outside = c.self.inside.marked.keys in
    let ks = keys_of rows in
    let l = c.args.link.now in
    let less : c.saturating_sub-self-inside.result ≡ c.self.inside.total - 1 = search rules in
    counted_index (remove_key (is_at (derived_link_cmp l)) ks) c.remove-then-holds.new.self outside
    (IsIndexed-taken ks outside rows c.self.invariant.index c.remove.new.self
    c.remove-then-holds.new.self l c.sided_link_of.result c.sided_link_of-then-holds.result c.sided_link_of.ensures
    c.sided_link_of-then-holds.ensures (c.if-holds.ensures.two_ends l (sym c.if-holds.ensures.holds))
    (remove_key (is_at (derived_link_cmp l)) ks) refl c.remove.ensures c.remove-then-holds.ensures) _
    (less ∙ total_without ks l c.self.inside.total c.self.invariant.index.ordered
    (total_by_keys rows outside c.self.inside.total c.self.invariant)
    (test_seen rows outside c.self.inside.total c.self.invariant c.args.self.now c.self.view_is l true
    c.if-holds.ensures.holds))

pub returns-then-holds : goal.returns-then-holds
returns-then-holds c =
    let rows = c.self.inside.rows in
    let outside = c.self.inside.marked.keys in
    let ks = keys_of rows in
    let l = c.args.link.now in
    let taken = remove_key (is_at (derived_link_cmp l)) ks in
    ap (λ (links : Links). record { links = links; outside = from_list outside })
    (links_in_is taken c.remove-then-holds.new.self outside
    (IsIndexed-taken ks outside rows c.self.invariant.index c.remove.new.self
    c.remove-then-holds.new.self l c.sided_link_of.result c.sided_link_of-then-holds.result c.sided_link_of.ensures
    c.sided_link_of-then-holds.ensures (c.if-holds.ensures.two_ends l (sym c.if-holds.ensures.holds)) taken refl
    c.remove.ensures c.remove-then-holds.ensures)
    ∙ ap from_list (without_computed ks l taken refl)
    ∙ from_list_without ks l c.self.invariant.index.ordered)
    ∙ ap (λ (net : GraphView). record { links = remove net.links l; outside = net.outside })
    (view_by_keys rows (from_list outside) c.args.self.now c.self.view_is)

pub returns-else-holds : goal.returns-else-holds
returns-else-holds c =
    ap (λ (links : Links). record { links = links; outside = c.args.self.now.outside })
    (sym (remove_absent c.args.self.now.links c.args.link.now (both_ways _ (sym c.if-holds.ensures.holds))))
