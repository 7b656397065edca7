use Rattle.std.proofs.Common.{◌≡◌, take}
use Rattle.thes_graph.specs.MergeAdditions.{without_links}
use Rattle.thes_graph.proofs.graph.Graph.detach_all.Given as goal

abbrev pub invariant-loop-link : goal.invariant-loop-link
invariant-loop-link l = l.self ≡ record {
  links = without_links l.fn.self.links (take l.link-index l.links);
  outside =
      l.fn.self.outside;
}
