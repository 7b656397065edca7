use Rattle.std.proofs.Common.{◌+◌, ◌++◌, ap, sym, ◌∙◌, arith, length, ℕ, map}
use Rattle.std.proofs.lemmas.List.Sorted.{length_permutation}
use Rattle.thes_base.specs.Changes.{concept_resource, next_number}
use Rattle.thes_base.specs.Postings.{move_count}
use Rattle.thes_tables.specs.Changes.{changes_of_new_resource}
use Rattle.thes_tables.specs.declared.change.Change.TheVariants as change
use Rattle.thes_core.specs.Deltas.{move_rows, place_change}
use Rattle.thes_core.specs.PartsView.{parts_state}
use Rattle.thes_core.proofs.ApplyLemmas.{split_fits}
use Rattle.thes_core.proofs.DeltaLemmas.{split_changes}
use Rattle.thes_core.proofs.thesaurus.Thesaurus.changes_of_split.Goals as goal

pub returns : goal.returns
returns c = λ hs ok are.
    let t = c.args.self.now in
    let fits = split_fits t hs c.args.source c.args.tag.now c.args.text.now c.args.postings.now ok in
    let known = are.moves in
    let many = ap length c.as_slice-2.ensures.value in
    let same = length_permutation c.args.postings.now c.in_ok-moving.moving.items c.in_ok-moving.ensures.permutation in
    let count = c.moves.ensures in
    let from = c.from-first.ensures in
    let moving = c.items_within_numbers.ensures.whole (omega (arith, fits, known, many, same, count, from))
    ∙ c.as_slice-2.ensures.value in
    let first = ap (λ (n : ℕ). n + 1) (from ∙ count ∙ known) in
    let number = c.next_resource_number-concept.ensures in
    let made = c.in_ok-delta.ensures hs in
    let places = c.in_ok-push_places.ensures in
    let moves = c.in_ok-push_moves.ensures in
    let resource = c.new-resource.ensures ∙ ap concept_resource (sym c.scheme.ensures) in
    moves
    ∙ (λ i. (places ∙ (λ j. made j ++ map (place_change (number j)) (c.as_slice.ensures.value j))) i
    ++ map change.AddMove (move_rows (first i) c.args.source (number i) (moving i)))
    ∙ ap (λ r. (changes_of_new_resource r c.args.tag.now c.args.text.now (parts_state t hs)
    ++ map (place_change (next_number (parts_state t hs))) c.in_ok-moving.moving.items)
    ++ map change.AddMove (move_rows (move_count hs + 1) c.args.source (next_number (parts_state t hs))
    c.in_ok-moving.moving.items)) resource
    ∙ split_changes t hs c.args.source c.args.tag.now c.args.text.now c.args.postings.now ok
    c.in_ok-moving.moving.items c.in_ok-moving.ensures.permutation c.in_ok-moving.ensures.in_order
