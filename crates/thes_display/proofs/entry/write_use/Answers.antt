use Rattle.std.proofs.Common.{◌≡◌, ◌∙◌, ◌<◌, ◌++◌, ap, sym, subst, [], List, ℕ, Option, Some, codes, length, OnOk}
use Rattle.thes_core.specs.CoreView.{with_histories}
use Rattle.thes_core.specs.Terms.{term_text}
use Rattle.thes_display.specs.Alphabetical.{entry_line}
use Rattle.thes_display.specs.HeadingIndex.{term_at}
use Rattle.thes_display.specs.HierarchyParts.{rank_at}
use Rattle.thes_display.specs.declared.heading.Heading.{Heading}
use Rattle.thes_display.proofs.HeadingPlaceLemmas.{place_text, place_within}
use Rattle.thes_display.proofs.entry.write_use.Goals as goal

pub text_of-requires : goal.text_of-requires
text_of-requires c =
    let index = c.args.source.now.index.now in
    let at : rank_at index.places.items c.args.n ≡ Some c.in-Some.place =
    ap (rank_at index.places.items) (sym c.get.ensures.value)
    ∙ ap (λ (ps : List (Option ℕ)). rank_at ps c.get.result) (sym c.as_slice.ensures.value) ∙ sym c.value_at.ensures
    ∙ c.in-Some.is in
    subst (λ (hs : List Heading). c.in-Some.place < length hs) (sym c.as_slice-in-Some.ensures.value)
    (place_within (with_histories [] c.args.source.now.core.now) c.args.source.now.tag.now index c.requires.index
    c.args.n c.in-Some.place at)

-- The concept has a heading.
pub returns-in-Some : goal.returns-in-Some
returns-in-Some c =
    let index = c.args.source.now.index.now in
    let tag = c.args.source.now.tag.now in
    let at : rank_at index.places.items c.args.n ≡ Some c.in-Some.place =
    ap (rank_at index.places.items) (sym c.get.ensures.value)
    ∙ ap (λ (ps : List (Option ℕ)). rank_at ps c.get.result) (sym c.as_slice.ensures.value) ∙ sym c.value_at.ensures
    ∙ c.in-Some.is in
    let shown : c.text_of.result.now ≡ term_text c.args.source.now.core.now.labels tag c.args.n =
    c.text_of.ensures
    ∙ ap (λ (hs : List Heading). (term_at hs c.in-Some.place).text) c.as_slice-in-Some.ensures.value
    ∙ place_text (with_histories [] c.args.source.now.core.now) tag index c.requires.index c.args.n c.in-Some.place at
    in
    subst (λ (t : List ℕ). OnOk c.push_entry_line.result (c.push_entry_line.new.text.items
    ≡ c.args.text.now.items ++ entry_line (codes "USE") t)) shown c.push_entry_line.ensures
