-- The checks of table move, row by row and at the end, decide whether the table meets its rule.
use Rattle.std.proofs.lemmas.Grind.{common_steps}
use Rattle.std.proofs.Common.{◌≡◌, ◌≢◌, ◌<◌, ℕ, zero, suc, ◌-◌, ◌+◌, length, List, [], ◌∷◌, ◌++◌, map, sym, ap}
use Rattle.std.proofs.Common.{◌∙◌, subst, arith, inl, inr, false, eqb, eqb-true, length-append, ◌^◌}
use Rattle.std.proofs.lemmas.Bool.{cases_Bool, eq-eqb, eqb-false}
use Rattle.std.proofs.lemmas.List.{append-nil, length-map, length-set, map-append}
use Rattle.std.proofs.lemmas.List.Elements.{filter-append}
use Rattle.std.proofs.lemmas.Option.{same_Some}
use Rattle.std.specs.Prelude.{Some, ◌==◌}
use Rattle.thes_base.specs.declared.data.Resource.{Resource}
use Rattle.thes_base.specs.declared.data.Move.{Move}
use Rattle.thes_base.specs.Resources.{IsConcept, entry_at, set_entry_at}
use Rattle.thes_base.specs.Postings.{place_after_moves, place, AreConsecutiveMoves, IsWellFormed}
use Rattle.thes_base.specs.Legal.{AllMoves}
use Rattle.thes_base.proofs.NumberedLemmas.{set_same, set_other, numbered_bound}
use Rattle.thes_base.proofs.MoveLemmas.{led_push, follows_push}
use Rattle.thes_tables.specs.declared.rows.PostingRow.{PostingRow}
use Rattle.thes_tables.specs.declared.rows.MoveRow.{MoveRow}
use Rattle.thes_tables.specs.Tables.{IsIn, recorded_move, moves_of}
use Rattle.thes_tables.proofs.MoveRowLemmas.{map_numbered}
use Rattle.thes_load_rules.specs.Rules.{AreInOrder, MoveRule, history_of}
use Rattle.thes_load_rules.proofs.RowListLemmas.{in_numbered, numbered_in, numbered_some, numbered_unmap}
use Rattle.thes_load_rules.proofs.MoveCountLemmas.{hit_is, miss_is, row_of_move, all_of_in}
use Rattle.thes_load_rows.specs.Forms.{HasMoveForm}
use Rattle.thes_load_rows.specs.RowsSoFar.{ArePlacesAfterMoves, HasStoredPlaces, HasMoves, IsNextMove}
use Rattle.thes_load_rows.proofs.NextRowLemmas.{numbered_next, in_next, each_push, order_push, few_push}

moves_append : (n : ℕ) (rows more : List MoveRow) → moves_of n (rows ++ more) ≡ moves_of n rows ++ moves_of n more
moves_append n rows more = ap (map recorded_move) (filter-append (λ (row : MoveRow). row.posting == n) rows more)
    ∙ map-append recorded_move _ _

moves_next : (n : ℕ) (rows : List MoveRow) (r : MoveRow) (more : List MoveRow) → r.posting ≡ n
    → moves_of n (rows ++ r ∷ more) ≡ moves_of n rows ++ recorded_move r ∷ moves_of n more
moves_next n rows r more e = moves_append n rows (r ∷ more) ∙ ap (λ l. moves_of n rows ++ l)
    (hit_is n r more (eq-eqb r.posting n e))

moves_other : (n : ℕ) (rows : List MoveRow) (r : MoveRow) → eqb r.posting n ≡ false → moves_of n (rows ++ r ∷ [])
    ≡ moves_of n rows
moves_other n rows r e = moves_append n rows (r ∷ []) ∙ ap (λ l. moves_of n rows ++ l) (miss_is n r [] e)
    ∙ append-nil (moves_of n rows)

-- The source of a move is the concept to which the moves before it lead.
follows_from : (above source_place : ℕ) (moves : List Move) (m : Move) (more : List Move) → AreConsecutiveMoves above
    source_place (moves ++ m ∷ more) → m.source ≡ place_after_moves source_place moves
follows_from above source_place [] m more follows = follows.1
follows_from above source_place (x ∷ moves) m more follows = follows_from x.number x.target moves m more follows.2

module _ (rs : List Resource) (ps : List PostingRow) (taken : ℕ) (places : List ℕ) (rows : List MoveRow)
    (has : HasMoves rs ps taken places rows) where
  -- In rows that meet the rule, each row may be the next one after the rows before it.
  pub next_of : (r : MoveRow) (more : List MoveRow) → MoveRule rs ps (rows ++ r ∷ more) → IsNextMove rs places taken r
  next_of r more all =
      let there = in_next rows r more in
      let p = all.known r there in
      let number = has.order r.posting p.0 p.1 in
      let source_place = follows_from 0 p.0.first (moves_of p.0.number rows) (recorded_move r)
      (moves_of p.0.number more)
      (subst (AreConsecutiveMoves 0 p.0.first) (moves_next p.0.number rows r more (sym number))
      (all.well_formed p.0 (numbered_in ps r.posting p.0 p.1))) in
      record {
        number = all.numbers (length rows + 1) r (numbered_next rows r more) ∙ ap (λ k. k + 1) has.count;
        source_place = has.place_is.place_is r.posting p.0 p.1 ∙ ap (λ (x : ℕ). Some x) (sym source_place);
        two = (all.ends r there).1;
        target_concept = (all.ends r there).0;
      }

  module _ (r : MoveRow) (next : IsNextMove rs places taken r) where
    last : r.number ≡ length rows + 1
    last = next.number ∙ ap (λ k. k + 1) (sym has.count)

    known : (p : PostingRow) × (entry_at ps r.posting ≡ Some p)
    known = let b = numbered_bound places r.posting r.source next.source_place in let f = has.place_is.fit in
        numbered_some ps r.posting b.0 (let q = b.1 in omega (arith, q, f))

    -- The source of the row's move is the place to which the moves before it have led its posting.
    from_here : (n : ℕ) (p : PostingRow) → entry_at ps n ≡ Some p → r.posting ≡ p.number → r.source
        ≡ place_after_moves p.first (moves_of p.number rows)
    from_here n p e same = same_Some _ _ (sym next.source_place ∙ ap (entry_at places) (same ∙ has.order n p e)
        ∙ has.place_is.place_is n p e)

    below : (n : ℕ) → AllMoves (λ m. m.number < r.number) (moves_of n rows)
    below n = grind (arith, common_steps, all_of_in, in_numbered, last, numbered_bound, row_of_move)

    well_formed : (p : PostingRow) → IsIn p ps → IsWellFormed (history_of (rows ++ r ∷ []) p)
    well_formed p h = grind (
      arith,
      common_steps,
      below,
      cases_Bool,
      eqb-true,
      follows_push,
      from_here,
      in_numbered,
      last,
      moves_next,
      moves_other,
    )

    -- After the move, the places are those of the postings after all rows so far.
    places_more : ArePlacesAfterMoves ps (rows ++ r ∷ []) (set_entry_at places r.posting r.target)
    places_more = record { fit = length-set places (r.posting - 1) r.target ∙ has.place_is.fit; place_is = place_is }
      where
        place_is : (n : ℕ) (p : PostingRow) → entry_at ps n ≡ Some p
            → entry_at (set_entry_at places r.posting r.target) n ≡ Some (place (history_of (rows ++ r ∷ []) p))
        place_is n p e = elim (cases_Bool (eqb r.posting p.number)) [
          | inl hit ↦
              let same = eqb-true r.posting p.number hit in
              ap (entry_at (set_entry_at places r.posting r.target)) (sym (same ∙ has.order n p e))
              ∙ set_same places r.target r.source r.posting next.source_place
              ∙ ap (λ (x : ℕ). Some x) (sym (led_push p.first (moves_of p.number rows) (recorded_move r))
              ∙ ap (place_after_moves p.first) (sym (moves_next p.number rows r [] same)))
          | inr miss ↦
              set_other places r.target (place (history_of rows p)) r.posting n
              (numbered_bound places r.posting r.source next.source_place).0
              (λ s. eqb-false r.posting p.number miss (sym (has.order n p e ∙ s))) (has.place_is.place_is n p e)
              ∙ ap (λ l. Some (place_after_moves p.first l)) (sym (moves_other p.number rows r miss))
        ]

    -- After the move is applied, the load has the rows so far and this one.
    pub move_taken : HasMoveForm r → HasMoves rs ps (taken + 1) (set_entry_at places r.posting r.target)
        (rows ++ r ∷ [])
    move_taken form = record {
      order = has.order;
      so_far = record {
        few = few_push (λ (x : MoveRow). x.number) rows r last form.0;
        numbers = order_push (λ (x : MoveRow). x.number) rows r has.so_far.numbers last;
        known = each_push (λ (x : MoveRow). (p : PostingRow) × (entry_at ps x.posting ≡ Some p)) rows r
            has.so_far.known known;
        ends = each_push (λ (x : MoveRow). IsConcept rs x.target × (x.source ≢ x.target)) rows r has.so_far.ends
            (next.target_concept, next.two);
        well_formed = well_formed;
      };
      count = (let n = length-append rows (r ∷ []) in let k = has.count in omega (arith, n, k));
      place_is = places_more;
    }

  pub rule_of : (stored_places : List ℕ) → stored_places ≡ map (λ (p : PostingRow). p.place) ps
      → HasStoredPlaces places stored_places → MoveRule rs ps rows
  rule_of stored_places are same = record {
    few = has.so_far.few;
    numbers = has.so_far.numbers;
    known = has.so_far.known;
    ends = has.so_far.ends;
    well_formed = has.so_far.well_formed;
    places = λ p h. let place_is = in_numbered ps p h in each place_is.0 p place_is.1;
  }
    where
      each : (n : ℕ) (p : PostingRow) → entry_at ps n ≡ Some p → place (history_of rows p) ≡ p.place
      each zero p e = absurd (cc)
      each (suc n) p e =
          let there : entry_at stored_places (suc n) ≡ Some p.place = ap (λ (l : List ℕ). entry_at l (suc n)) are
          ∙ map_numbered (λ (p : PostingRow). p.place) ps (suc n) p e in
          same_Some _ _ (sym (has.place_is.place_is (suc n) p e) ∙ same n p.place there)

  pub are_of : (stored_places : List ℕ) → stored_places ≡ map (λ (p : PostingRow). p.place) ps → MoveRule rs ps rows
      → HasStoredPlaces places stored_places
  are_of stored_places are rule = λ i y e.
      let r = numbered_unmap (λ (p : PostingRow). p.place) ps (suc i) y
      (ap (λ (l : List ℕ). entry_at l (suc i)) (sym are) ∙ e) in
      has.place_is.place_is (suc i) r.0 r.1 ∙ ap (λ (x : ℕ). Some x) (rule.places r.0 (numbered_in ps (suc i) r.0 r.1)
      ∙ sym r.2)

-- Without moves, the place of each posting is its first concept.
pub moves_none : (rs : List Resource) (ps : List PostingRow) → length ps < 2 ^ 32
    → AreInOrder (λ (p : PostingRow). p.number) ps → HasMoves rs ps 0 (map (λ (p : PostingRow). p.first) ps) []
moves_none rs ps few order = grind (arith, common_steps, known, length-map, map_numbered, numbered_bound, well_formed)
