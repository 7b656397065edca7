use Rattle.std.proofs.Common.{subst, take_all, List, ℕ}
use Rattle.std.specs.Ordering.{nat_cmp}
use Rattle.thes_lists.specs.Lists.{AreListings}
use Rattle.thes_export.proofs.HoldingLemmas.{IsMemberBefore, members_done, members_first, members_next}
use Rattle.thes_export.proofs.holdings.add_member.Goals as goal

pub loop-collection-init : goal.loop-collection-init
loop-collection-init c = members_first c.args.core.now c.args.i c.new-n.result c.new-n.ensures
    c.args.members.now c.requires.listed

pub insert-requires : goal.insert-requires
insert-requires c = λ k. (c.loop-collection.invariant k).rises

pub loop-collection-preserved : goal.loop-collection-preserved
loop-collection-preserved c = members_next c.args.core.now c.args.i c.new-n.result c.new-n.ensures
    c.deref-collection-items.result.now c.loop-collection.collection-index c.collection-item.result _ _
    c.loop-collection-test.true c.collection-item.is c.in_ok-insert.ensures c.loop-collection.invariant

pub returns : goal.returns
returns c =
    members_done c.args.core.now c.args.i c.new-n.result c.new-n.ensures c.in_ok-collections.collections.items
    c.deref-collection-items.result.now c.loop-collection.members c.deref-collection-items.ensures.value
    c.in_ok-collections.ensures
    (subst (λ (ks : List ℕ). AreListings nat_cmp (IsMemberBefore c.args.core.now c.args.i c.new-n.result ks)
    c.loop-collection.members) (take_all c.loop-collection.collection-index c.deref-collection-items.result.now
    c.loop-collection-test.false) c.loop-collection.invariant)
