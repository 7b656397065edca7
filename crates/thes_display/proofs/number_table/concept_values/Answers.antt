use Rattle.std.proofs.Common.{◌≡◌, ◌∙◌, ◌++◌, ◌∷◌, [], ap, sym, take, ℕ, List, Option, None, arith, append-nil, ◌+◌}
use Rattle.std.specs.List.{filter_map, cons_option}
use Rattle.thes_display.specs.HierarchyParts.{rank_at}
use Rattle.std.proofs.lemmas.List.{take_more}
use Rattle.std.proofs.lemmas.List.Elements.{filter_map-append}
use Rattle.thes_display.proofs.number_table.concept_values.Goals as goal
use Rattle.thes_display.proofs.number_table.concept_values.Goals.{in-Some+in_ok-push, in_default}

-- The values of a list with one more concept are those found before, followed by the value of that concept if it has
-- one.
one_more : (f : ℕ → Option ℕ) (found new : List ℕ) (concepts more : List ℕ) (n : ℕ) (o : Option ℕ) → found
    ≡ filter_map f concepts → more ≡ concepts ++ n ∷ [] → f n ≡ o → new ≡ found ++ cons_option o [] → new
    ≡ filter_map f more
one_more f found new concepts more n o e h s g = grind (arith, filter_map-append)

-- The value of one more concept, if it has one, is appended to those found.
pub loop-concept-preserved : goal.loop-concept-preserved
loop-concept-preserved c =
    let xs : List ℕ = c.args.concepts.now in
    let i = c.loop-concept.concept-index in
    let n : ℕ = c.concept-item.result in
    let more = take_more xs i n (omega arith) ∙ ap (λ z. take i xs ++ z ∷ []) (sym c.concept-item.is) in
    let at_concept = ap (rank_at c.args.table.now) (sym c.get.ensures.value) ∙ sym c.value_at.ensures in
    elim c.match-value_at.branch [
      | in-Some+in_ok-push w ↦ one_more (rank_at c.args.table.now) c.loop-concept.found.items
          c.match-value_at.found.items (take i xs) (take (i + 1) xs) n _ c.loop-concept.invariant more
          (at_concept ∙ w.in-Some.is) (ap (λ v. v.items) w.found-is
          ∙ w.in_ok-push.ensures.items)
      | in_default w ↦ one_more (rank_at c.args.table.now) c.loop-concept.found.items c.match-value_at.found.items
          (take i xs) (take (i + 1) xs) n None c.loop-concept.invariant more
          (at_concept ∙ w.in_default.is) (ap (λ v. v.items) w.found-is
          ∙ sym (append-nil c.loop-concept.found.items))
    ]
