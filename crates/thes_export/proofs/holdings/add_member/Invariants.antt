use Rattle.std.proofs.Common.{take}
use Rattle.std.specs.Ordering.{nat_cmp}
use Rattle.thes_lists.specs.Lists.{AreListings}
use Rattle.thes_export.proofs.HoldingLemmas.{IsMemberBefore}
use Rattle.thes_export.proofs.holdings.add_member.Given as goal

abbrev pub invariant-loop-collection : goal.invariant-loop-collection
invariant-loop-collection l =
    AreListings nat_cmp (IsMemberBefore l.core l.i l.n (take l.collection-index l.collection-items)) l.members
