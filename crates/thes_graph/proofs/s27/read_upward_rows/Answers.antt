use Rattle.std.proofs.Common.{◌↔◌, ℕ, Contains, subst, ◌∙◌}
use Rattle.thes_base.specs.Links.{Holds, IsNarrower}
use Rattle.thes_links.specs.GraphView.{GraphView}
use Rattle.thes_graph.proofs.S27Lemmas.{AreRowsOf-next, AreRowsOf-end}
use Rattle.thes_graph.proofs.s27.read_upward_rows.Goals as goal

pub loop-n-preserved : goal.loop-n-preserved
loop-n-preserved g c = record {
  net = c.in_ok-row.ensures.net ∙ c.loop-n.invariant.net;
  rows =
      rw c.in_ok-push.ensures.items
      (AreRowsOf-next (g.L.Links.net c.args.links.now).links c.loop-n.rows.items c.args.order.now c.loop-n.n-index
      c.in_ok-row.row c.n-item.result (rw c.as_slice-n-items.ensures at c.loop-n-test.true)
      (rw c.as_slice-n-items.ensures at c.n-item.is) c.in_ok-row.ensures.node
      (subst (λ (net : GraphView). (h : ℕ) → Contains c.in_ok-row.row.above.items h
      ↔ IsNarrower (Holds net.links) c.n-item.result h) c.loop-n.invariant.net c.in_ok-row.ensures.above)
      c.requires.order c.loop-n.invariant.rows);
}

pub returns-clause-rows : goal.returns-clause-rows
returns-clause-rows g c =
    AreRowsOf-end (g.L.Links.net c.args.links.now).links c.loop-n.rows.items c.args.order.now c.loop-n.n-index
    (rw c.as_slice-n-items.ensures at c.loop-n-test.false) c.requires.ends c.loop-n.invariant.rows
