use Rattle.std.proofs.Common.{◌≡◌, take}
use Rattle.thes_graph.specs.MergeAdditions.{with_all}
use Rattle.thes_graph.proofs.graph.Graph.add_all.Given as goal

abbrev pub invariant-loop-i : goal.invariant-loop-i
invariant-loop-i l = l.self ≡ record {
  links = with_all l.fn.self.links (take l.i l.links);
  outside =
      l.fn.self.outside;
}
