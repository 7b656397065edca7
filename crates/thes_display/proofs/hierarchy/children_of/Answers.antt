use Rattle.std.proofs.Common.{◌≡◌, ◌∙◌, ◌<◌, ap, sym, subst, take, take_all, length, get_or, ℕ, ◌+◌, List, Option}
use Rattle.std.proofs.Common.{IsPermutation, IsSorted, arith}
use Rattle.std.specs.List.{filter_map}
use Rattle.std.specs.Ordering.{nat_cmp}
use Rattle.std.proofs.lemmas.List.{take_more}
use Rattle.std.proofs.lemmas.List.Elements.{Contains-get_or}
use Rattle.thes_base.specs.Links.{Links}
use Rattle.thes_base.specs.Listing.{IsListing}
use Rattle.thes_base.specs.Views.{HasBroader}
use Rattle.thes_display.specs.declared.walk.Child.{Child}
use Rattle.thes_display.specs.Order.{Term}
use Rattle.thes_display.specs.ChildLists.{child_cmp}
use Rattle.thes_display.specs.EntryTerms.{HasNoTypedLink}
use Rattle.thes_display.specs.Hierarchical.{HasRank, IsNarrowerTerm}
use Rattle.thes_display.specs.HierarchyParts.{AreRanks, IsChild, rank_at}
use Rattle.thes_display.proofs.RankLemmas.{rank_of_term}
use Rattle.thes_display.proofs.HierarchyLemmas.{one_concept, rank_within}
use Rattle.thes_display.proofs.ChildLemmas.{AreChildren, children_none, children_more, children_listed, broader_at}
use Rattle.thes_display.proofs.hierarchy.children_of.Goals as goal

-- The ranks found are those of the narrower concepts.
module _ (links : Links) (terms : List Term) (rank : ℕ) (ranks : ℕ → Option ℕ) (are : AreRanks terms ranks)
    {n : ℕ} {t : Term} (same : n ≡ t.concept) (within : rank < length terms) (is : t ≡ get_or terms rank t)
    {xs ys ks found : List ℕ} (listed : IsListing nat_cmp (λ a. HasBroader links a n) xs)
    (read : ks ≡ found) (slice : ys ≡ xs) (all : found ≡ filter_map ranks ys) where
  here : HasRank terms n rank
  here = subst (λ m. HasRank terms m rank) (sym same) (rank_of_term terms rank t within is)

  found_all : ks ≡ filter_map ranks xs
  found_all = read ∙ all ∙ ap (filter_map ranks) slice

  narrower_at : (k : ℕ) → k < length ks → IsNarrowerTerm links terms (get_or ks k 0) rank
  narrower_at k l = broader_at links terms rank ranks are n here xs ks listed found_all (get_or ks k 0)
      (Contains-get_or ks k 0 l)

  children_are : (made children : List Child) → AreChildren links terms rank ks made → IsPermutation made children
      → IsSorted child_cmp children → IsListing child_cmp (IsChild links terms rank) children
  children_are = children_listed links terms rank ranks are n here xs ks listed found_all

pub loop-child-init : goal.loop-child-init
loop-child-init c = children_none c.args.core.now.links c.args.ranked.now.terms.now c.args.rank _
    c.new-children.ensures.items

pub types_at-types-requires-clause-within : goal.types_at-types-requires-clause-within
types_at-types-requires-clause-within c =
    let r = narrower_at c.args.core.now.links c.args.ranked.now.terms.now c.args.rank
    (rank_at c.args.ranked.now.ranks.now)
    c.requires.links.ranks c.concept-n.ensures c.requires.within c.index-terms-rank.is c.in_ok-narrower.ensures
    c.deref-child-items.ensures.value c.as_slice.ensures.value c.in_ok-found.ensures c.loop-child.child-index
    (omega arith) in
    (rank_within c.args.ranked.now.terms.now r.lower _ r.lower_rank, c.requires.within)

-- Only one concept has this rank.
pub types_at-types-requires-clause-typed : goal.types_at-types-requires-clause-typed
types_at-types-requires-clause-typed c = λ f m h.
    let terms = c.args.ranked.now.terms.now in
    let here = subst (λ k. HasRank terms k c.args.rank) (sym c.concept-n.ensures)
    (rank_of_term terms c.args.rank c.index-terms-rank.result c.requires.within c.index-terms-rank.is) in
    subst (HasNoTypedLink c.args.core.now.links) (one_concept terms c.concept-n.result m c.args.rank here h)
    (c.in_ok-is_typed.ensures f)

pub loop-child-preserved : goal.loop-child-preserved
loop-child-preserved c =
    let ks : List ℕ = c.deref-child-items.result.now in
    let i = c.loop-child.child-index in
    let r = narrower_at c.args.core.now.links c.args.ranked.now.terms.now c.args.rank
    (rank_at c.args.ranked.now.ranks.now)
    c.requires.links.ranks c.concept-n.ensures c.requires.within c.index-terms-rank.is c.in_ok-narrower.ensures
    c.deref-child-items.ensures.value c.as_slice.ensures.value c.in_ok-found.ensures i (omega arith) in
    children_more c.args.core.now.links c.args.ranked.now.terms.now c.args.rank c.args.homes.now c.requires.homes
    (take i ks)
    (take (i + 1) ks) _ _ _ c.types_at-types.result c.is_homeless-at_home.result c.loop-child.invariant r
    c.types_at-types.ensures c.is_homeless-at_home.ensures.none c.is_homeless-at_home.ensures.some
    c.in_ok-push.ensures.items
    (take_more ks i 0 (omega arith))

pub returns : goal.returns
returns c =
    let ks : List ℕ = c.deref-child-items.result.now in
    children_are c.args.core.now.links c.args.ranked.now.terms.now c.args.rank (rank_at c.args.ranked.now.ranks.now)
    c.requires.links.ranks
    c.concept-n.ensures c.requires.within c.index-terms-rank.is c.in_ok-narrower.ensures
    c.deref-child-items.ensures.value c.as_slice.ensures.value c.in_ok-found.ensures c.loop-child.children.items _
    (subst (λ (xs : List ℕ). AreChildren c.args.core.now.links c.args.ranked.now.terms.now c.args.rank xs
    c.loop-child.children.items) (take_all c.loop-child.child-index ks (omega arith)) c.loop-child.invariant)
    c.in_ok-sort_children.ensures.same c.in_ok-sort_children.ensures.sorted
