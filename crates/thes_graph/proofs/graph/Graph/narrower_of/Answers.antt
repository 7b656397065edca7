use Rattle.std.specs.Ordering.{nat_cmp}
use Rattle.std.proofs.lemmas.Result.{IfOk-weaker}
use Rattle.thes_lists.proofs.ListingLemmas.{listing_as}
use Rattle.thes_graph.proofs.ReaderLemmas.{narrower_from, narrower_to}
use Rattle.thes_graph.proofs.graph.Graph.narrower_of.Goals as goal

pub returns : goal.returns
returns c =
    IfOk-weaker c.neighbours.result _ _
    (λ found is. listing_as nat_cmp _ _ found.items (narrower_from c.args.self.now.links c.args.n)
    (narrower_to c.args.self.now.links c.args.n) is)
    c.neighbours.ensures
