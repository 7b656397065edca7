use Rattle.std.proofs.Common.{◌≡◌, ◌∙◌, ◌++◌, ◌∷◌, [], sym, ap, subst, take, ℕ, List, arith, true≢false}
use Rattle.std.specs.Ordering.{nat_cmp}
use Rattle.std.proofs.lemmas.List.{take_more}
use Rattle.thes_base.specs.declared.data.LinkKind.{LinkKind}
use Rattle.thes_base.specs.Links.{IsHierarchical, Links}
use Rattle.thes_base.specs.Listing.{IsListing}
use Rattle.thes_display.specs.declared.entry_terms.Side.{Side}
use Rattle.thes_display.specs.EntryTerms.{IsOnSide, IsLinkedOnSide}
use Rattle.thes_display.proofs.ListingLemmas.{chosen_none, chosen_more, chosen_skip, chosen_whole}
use Rattle.thes_display.proofs.entry_terms.linked_concepts.Goals as goal
use Rattle.thes_display.proofs.entry_terms.linked_concepts.Goals.{then-is_linked+in_ok-push, else-is_linked}

-- A concept that a hierarchical link joins on a side is one of the concepts on that side.
beside_linked : (links : Links) (side : Side) (kind : LinkKind) (n m : ℕ) → IsHierarchical kind
    → IsLinkedOnSide links side kind n m → IsOnSide links side n m
beside_linked links side kind n m is l = grind (arith)

abbrev listed_of : (links : Links) (side : Side) (n : ℕ) (xs ys : List ℕ) → xs ≡ ys
    → IsListing nat_cmp (IsOnSide links side n) ys → IsListing nat_cmp (IsOnSide links side n) xs
listed_of links side n xs ys e = subst (IsListing nat_cmp (IsOnSide links side n)) (sym e)

pub loop-m-init : goal.loop-m-init
loop-m-init c = chosen_none nat_cmp _ (listed_of c.args.core.now.links c.args.side c.args.sides.now.concept _ _
    c.concepts-m-items.ensures (c.requires.sides.each_side c.args.side)).rises _ _ c.new-found.ensures.items

pub is_linked-requires-clause-on_side : goal.is_linked-requires-clause-on_side
is_linked-requires-clause-on_side c =
    let listed = listed_of c.args.core.now.links c.args.side c.args.sides.now.concept _ _ c.concepts-m-items.ensures
    (c.requires.sides.each_side c.args.side) in
    listed.sound c.m-item.result (c.loop-m.m-index, c.loop-m-test.true, sym c.m-item.is)

-- A concept linked by this kind extends the listing.
pub loop-m-preserved : goal.loop-m-preserved
loop-m-preserved c =
    let xs : List ℕ = c.concepts-m-items.result.now in
    let rises = (listed_of c.args.core.now.links c.args.side c.args.sides.now.concept _ _ c.concepts-m-items.ensures
    (c.requires.sides.each_side c.args.side)).rises in
    let i = c.loop-m.m-index in
    let n : ℕ = c.m-item.result in
    let t = take_more xs i n (omega arith) ∙ ap (λ z. take i xs ++ z ∷ []) (sym c.m-item.is) in
    elim c.if-is_linked.branch [
      | then-is_linked+in_ok-push w ↦ chosen_more nat_cmp xs rises _ i _ c.loop-m.found.items
          c.if-is_linked.found.items t (c.is_linked.ensures.0 w.if-is_linked.true) c.loop-m.invariant
          (ap (λ v. v.items) w.found-is ∙ w.in_ok-push.ensures.items)
      | else-is_linked w ↦ chosen_skip nat_cmp xs rises _ i _ c.loop-m.found.items c.if-is_linked.found.items t
          (λ l. true≢false (sym (c.is_linked.ensures.1 l) ∙ w.if-is_linked.false)) c.loop-m.invariant
          (ap (λ v. v.items) w.found-is)
    ]

pub returns : goal.returns
returns c =
    let xs : List ℕ = c.concepts-m-items.result.now in
    let Is = IsOnSide c.args.core.now.links c.args.side c.args.sides.now.concept in
    let listed = listed_of c.args.core.now.links c.args.side c.args.sides.now.concept _ _ c.concepts-m-items.ensures
    (c.requires.sides.each_side c.args.side) in
    chosen_whole nat_cmp xs listed.rises _ Is c.loop-m.m-index _ listed (omega arith)
    (λ m l. beside_linked c.args.core.now.links c.args.side c.args.kind c.args.sides.now.concept m
    c.requires.hierarchical l) c.loop-m.invariant
