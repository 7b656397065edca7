use Rattle.std.proofs.Common.{◌∙◌, ◌<◌, ◌++◌, ap, sym, subst, [], List, ℕ, length, IfSome}
use Rattle.std.specs.Prelude.{Contains, flat_map}
use Rattle.thes_core.specs.CoreView.{with_histories}
use Rattle.thes_display.specs.Alphabetical.{entry_line, symbol_text}
use Rattle.thes_display.specs.HeadingIndex.{AreSortedPlaces, term_at}
use Rattle.thes_display.specs.HierarchyParts.{rank_at}
use Rattle.thes_display.specs.LabelTexts.{term_lines}
use Rattle.thes_display.specs.declared.heading.Heading.{Heading}
use Rattle.thes_display.proofs.HeadingPlaceLemmas.{places_are, places_bound}
use Rattle.thes_display.proofs.SymbolLineLemmas.{linked_rise, lines_at, lines_of_terms, on_written, terms_are_under}
use Rattle.thes_display.proofs.entry.write_concepts.Goals as goal

pub write_places-requires : goal.write_places-requires
write_places-requires c = λ k i.
    let s = with_histories [] c.args.source.now.core.now in
    let index = c.args.source.now.index.now in
    let xs : List ℕ = c.args.concepts.now in
    let ks = c.in-Some.places.items in
    let sorted = subst (λ o. IfSome o (λ places. AreSortedPlaces (rank_at c.as_slice.result.now) xs places.items))
    c.in-Some.is c.in_ok-places.ensures in
    let are = subst (λ ps. AreSortedPlaces (rank_at ps) xs ks) c.as_slice.ensures.value sorted in
    subst (λ (h : List Heading). k < length h) (sym c.as_slice-in-Some.ensures.value)
    (places_bound s c.args.source.now.tag.now index c.requires.source.index c.args.symbol xs ks c.requires.linked are k
    (subst (λ (js : List ℕ). Contains js k) c.as_slice-in-Some-2.ensures.value i))

-- The concepts have headings.
pub returns-in-Some : goal.returns-in-Some
returns-in-Some c = λ n linked.
    let s = with_histories [] c.args.source.now.core.now in
    let tag = c.args.source.now.tag.now in
    let index = c.args.source.now.index.now in
    let hs = index.headings.items in
    let xs : List ℕ = c.args.concepts.now in
    let ks = c.in-Some.places.items in
    let old = c.args.text.now.items in
    let sorted = subst (λ o. IfSome o (λ places. AreSortedPlaces (rank_at c.as_slice.result.now) xs places.items))
    c.in-Some.is c.in_ok-places.ensures in
    let are = subst (λ ps. AreSortedPlaces (rank_at ps) xs ks) c.as_slice.ensures.value sorted in
    let lines : List Heading → List ℕ → List ℕ =
    λ h js. flat_map (λ (k : ℕ). entry_line (symbol_text c.args.symbol) (term_at h k).text) js in
    on_written c.write_places.result _ _
    (λ e. lines_at s tag n c.args.symbol hs ks old c.write_places.new.text.items
    (places_are s tag index c.requires.source.index n c.args.symbol xs ks linked are)
    (e ∙ ap (λ js. old ++ lines c.as_slice-in-Some.result.now js) c.as_slice-in-Some-2.ensures.value
    ∙ ap (λ h. old ++ lines h ks) c.as_slice-in-Some.ensures.value)) c.write_places.ensures

pub sorted_terms_of-requires-clause-rise : goal.sorted_terms_of-requires-clause-rise
sorted_terms_of-requires-clause-rise c =
    linked_rise (with_histories [] c.args.source.now.core.now) c.args.symbol c.args.concepts.now c.requires.linked

-- One of the concepts has no heading.
pub returns-in_ok-terms-in-None : goal.returns-in_ok-terms-in-None
returns-in_ok-terms-in-None c = λ n linked.
    let s = with_histories [] c.args.source.now.core.now in
    let tag = c.args.source.now.tag.now in
    let old = c.args.text.now.items in
    let terms = c.in_ok-terms-in-None.terms.items in
    on_written c.write_terms.result _ _
    (λ e. lines_of_terms s tag n c.args.symbol terms old c.write_terms.new.text.items
    (terms_are_under s tag n c.args.symbol c.args.concepts.now terms linked c.in_ok-terms-in-None.ensures)
    (e ∙ ap (λ ts. old ++ term_lines c.args.symbol ts) c.as_slice-in-None.ensures.value)) c.write_terms.ensures
