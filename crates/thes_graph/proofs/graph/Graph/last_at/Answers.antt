use Rattle.std.proofs.Common.{Some, None, Contains}
use Rattle.thes_graph.specs.declared.sided_links.SidedLink.{SidedLink}
use Rattle.thes_graph.specs.SidedLinks.{sided_link_at, sided_links_at}
use Rattle.thes_graph.proofs.ChangeLemmas.{last_of}
use Rattle.thes_graph.proofs.IndexLemmas.{sided_links_from, sided_links_to}
use Rattle.thes_graph.proofs.graph.Graph.last_at.Goals as goal

pub returns-in-Some : goal.returns-in-Some
returns-in-Some c =
    let last : Contains (sided_links_at c.args.self.now.links c.args.n) c.in-Some.sided_link.now =
    last_of (sided_links_at c.args.self.now.links c.args.n) (Some c.in-Some.sided_link.now)
    (rw c.row_of_node.ensures.row at c.in-Some.ensures.value) in
    let held = sided_links_from c.args.self.now.links c.args.n c.in-Some.sided_link.now last in
    (held.0, held.1)

pub returns-in-None : goal.returns-in-None
returns-in-None c = λ l held at.
    let none : (s : SidedLink) → Contains (sided_links_at c.args.self.now.links c.args.n) s → ⊥ =
    last_of (sided_links_at c.args.self.now.links c.args.n) None
    (rw c.row_of_node.ensures.row at c.in-None.ensures.value) in
    none (sided_link_at c.args.n l) (sided_links_to c.args.self.now.links c.args.n l held at)
