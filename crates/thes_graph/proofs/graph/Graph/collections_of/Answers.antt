use Rattle.std.specs.Ordering.{nat_cmp}
use Rattle.std.proofs.lemmas.Result.{IfOk-weaker}
use Rattle.thes_lists.proofs.ListingLemmas.{listing_as}
use Rattle.thes_graph.proofs.ReaderLemmas.{collection_from, collection_to}
use Rattle.thes_graph.proofs.graph.Graph.collections_of.Goals as goal

pub returns : goal.returns
returns c =
    IfOk-weaker c.neighbours.result _ _
    (λ found is. listing_as nat_cmp _ _ found.items (collection_from c.args.self.now.links c.args.n)
    (collection_to c.args.self.now.links c.args.n) is)
    c.neighbours.ensures
