use Rattle.std.proofs.Common.{◌≡◌, take}
use Rattle.thes_graph.proofs.S27Lemmas.{AreRowsOf}
use Rattle.thes_graph.proofs.s27.read_upward_rows.Given as goal

abbrev pub invariant-loop-n : goal.invariant-loop-n
invariant-loop-n g l = record {
  net : g.L.Links.net l.links ≡ g.L.Links.net l.fn.links;
  rows : AreRowsOf (g.L.Links.net l.fn.links).links l.rows.items (take l.n-index l.order);
}
