use Rattle.std.proofs.Common.{◌≡◌, ◌∙◌, ◌+◌, ◌++◌, ◌∷◌, ◌≤◌, [], List, take, length, sym, ap, subst, arith}
use Rattle.std.specs.Ordering.{nat_cmp}
use Rattle.std.proofs.lemmas.List.{take_more, take_all, length-take-le}
use Rattle.thes_base.specs.declared.data.Resource.{Resource}
use Rattle.thes_base.specs.Listing.{IsListing}
use Rattle.thes_base.proofs.NumberedLemmas.{numbered_bound}
use Rattle.thes_lists.specs.Lists.{AreListings}
use Rattle.thes_lists.proofs.ListingLemmas.{listing_none, listings_same}
use Rattle.thes_vocab.specs.Vocabulary.{IsConceptOf, concept_scheme}
use Rattle.thes_vocab.specs.ConceptLists.{ConceptListsAfterInsert}
use Rattle.thes_vocab.proofs.ConceptListLemmas.{concept_lists_with_new}
use Rattle.thes_vocab.proofs.LoadingLemmas.{concept_in}
use Rattle.thes_vocab.proofs.load.list_all.Goals as goal

pub insert-requires-clause-rise : goal.insert-requires-clause-rise
insert-requires-clause-rise c = grind (arith)

pub loop-i-init : goal.loop-i-init
loop-i-init c = λ n. subst (IsListing nat_cmp (IsConceptOf [] n)) (sym (c.requires.none n))
    (listing_none nat_cmp (IsConceptOf [] n) (λ m x. let b = numbered_bound [] m x.0.0 x.0.1 in omega (arith, b)))

pub loop-i-preserved : goal.loop-i-preserved
loop-i-preserved c =
    let rs = c.args.resources.now in
    let i = c.loop-i.i in
    let r = c.index-resources-i.result in
    let few : i ≤ length rs = c.loop-i.auto.i-end in
    let n : length (take i rs) ≡ i = length-take-le i rs few in
    let more : take (i + 1) rs ≡ take i rs ++ r ∷ [] = take_more rs i r c.loop-i-test.true
    ∙ ap (λ (x : Resource). take i rs ++ x ∷ []) (sym c.index-resources-i.is) in
    let added = subst (ConceptListsAfterInsert c.make_room.new.concepts c.insert.new.concepts (concept_scheme r))
    (c.new.ensures ∙ ap (λ k. k + 1) (sym n)) c.insert.ensures in
    let was = listings_same nat_cmp (IsConceptOf (take i rs)) (IsConceptOf (take i rs)) c.loop-i.concepts
    c.make_room.new.concepts c.in_ok-make_room.ensures.same (λ s m x. x) (λ s m x. x) c.loop-i.invariant in
    subst (λ (xs : List Resource). AreListings nat_cmp (IsConceptOf xs) c.insert.new.concepts) (sym more)
    (concept_lists_with_new (take i rs) r c.make_room.new.concepts c.insert.new.concepts (concept_scheme r)
    (concept_in r) added was)

pub returns : goal.returns
returns c = grind (arith, take_all)
