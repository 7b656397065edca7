-- In the tables of a legal state, the rows of table move are numbered without gaps, and each posting's rows are its
-- moves.
use Rattle.std.proofs.lemmas.Grind.{common_steps}
use Rattle.std.proofs.Common.{◌≡◌, ◌⊎◌, ◌<◌, ◌≤◌, ℕ, zero, suc, ◌+◌, length, List, [], ◌∷◌, refl, sym, ap, ◌∙◌, subst}
use Rattle.std.proofs.Common.{arith, inl, inr}
use Rattle.std.proofs.lemmas.Option.{same_Some}
use Rattle.std.specs.Prelude.{Some, slice_get}
use Rattle.thes_base.specs.declared.data.Resource.{Resource}
use Rattle.thes_base.specs.declared.data.History.{History}
use Rattle.thes_base.specs.declared.data.Move.{Move}
use Rattle.thes_base.specs.Resources.{entry_at}
use Rattle.thes_base.specs.Postings.{AreConsecutiveMoves, move_count}
use Rattle.thes_base.specs.Legal.{AreLegalPostings, IsLegalHistory}
use Rattle.thes_base.proofs.NumberedLemmas.{numbered_bound}
use Rattle.thes_tables.specs.declared.rows.MoveRow.{MoveRow}
use Rattle.thes_tables.specs.Tables.{IsIn, MoveNumbersAscend, AreMoves, recorded_move, moves_of}
use Rattle.thes_tables.proofs.MoveRowLemmas.{number_within_count}
use Rattle.thes_load_rules.specs.Rules.{AreInOrder}
use Rattle.thes_load_rules.proofs.MoveCountLemmas.{hit_is, miss_is, row_of_move, move_of_row, in_of_has}
use Rattle.thes_load_rules.proofs.MoveCountLemmas.{rows_counted_as_moves}

-- The rows are numbered consecutively from `k` on.
abbrev pub RunFrom : ℕ → List MoveRow → Type 0
RunFrom k [] = Unit {0}
RunFrom k (row ∷ rows) = (row.number ≡ k) × RunFrom (k + 1) rows

run_from : (k : ℕ) (rows : List MoveRow) → ((i : ℕ) (row : MoveRow) → slice_get rows i ≡ Some row → row.number ≡ k
    + i) → RunFrom k rows
run_from k [] each = tt
run_from k (row ∷ rows) each = (
  (let e = each 0 row refl in omega (arith, e)),
  run_from (k + 1) rows (λ i x at. let e = each (suc i) x at in omega (arith, e)),
)

run_at : (k : ℕ) (rows : List MoveRow) (i : ℕ) (row : MoveRow) → RunFrom k rows → slice_get rows i ≡ Some row
    → row.number ≡ k + i
run_at k [] i row run e = absurd (cc)
run_at k (x ∷ rows) zero row run e = let is = ap (λ (y : MoveRow). y.number) (same_Some _ _ e) in let n = run.0 in
    omega (arith, is, n)
run_at k (x ∷ rows) (suc i) row run e = let q = run_at (k + 1) rows i row run.1 e in omega (arith, q)

pub order_of_run : (rows : List MoveRow) → RunFrom 1 rows → AreInOrder (λ (row : MoveRow). row.number) rows
order_of_run rows run = grind (arith, common_steps, run_at)

pub rises_of_order : (rows : List MoveRow) → AreInOrder (λ (row : MoveRow). row.number) rows → MoveNumbersAscend 0 rows
rises_of_order rows order =
    go 0 1 rows (omega arith) (run_from 1 rows (λ i row e. let q = order (suc i) row e in omega (arith, q)))
  where
    go : (above k : ℕ) (rows : List MoveRow) → above < k → RunFrom k rows → MoveNumbersAscend above rows
    go above k [] lt run = tt
    go above k (row ∷ rows) lt run = let n = run.0 in
        ((omega (arith, n)), go row.number (k + 1) rows (omega (arith, n)) run.1)

-- The number of each row of a rising list exceeds the list's lower bound.
pub number_above_start : (above : ℕ) (rows : List MoveRow) (row : MoveRow) → MoveNumbersAscend above rows
    → IsIn row rows → above < row.number
number_above_start above [] row rises h = absurd h
number_above_start above (x ∷ rows) row rises (inl e) = let n = ap (λ (y : MoveRow). y.number) e in let r = rises.0 in
    omega (arith, n, r)
number_above_start above (x ∷ rows) row rises (inr h) = let q = number_above_start x.number rows row rises.1 h in
    let r = rises.0 in omega (arith, q, r)

-- Each number between the bound and the number of a row is also the number of a row.
abbrev IsFull : ℕ → List MoveRow → Type 0
IsFull above rows = (row : MoveRow) → IsIn row rows → (k : ℕ) → above < k → k < row.number → (other : MoveRow)
    × IsIn other rows × (other.number ≡ k)

-- The numbers of a rising list without gaps are consecutive.
run_of_full : (above : ℕ) (rows : List MoveRow) → MoveNumbersAscend above rows → IsFull above rows
    → RunFrom (above + 1) rows
run_of_full above [] rises full = tt
run_of_full above (x ∷ rows) rises full =
    (next, subst (λ k. RunFrom k rows) (let e = next in omega (arith, e)) (run_of_full x.number rows rises.1 later))
  where
    not_later : (other : MoveRow) → IsIn other (x ∷ rows) → other.number < x.number → ⊥
    not_later other (inl e) lt = let n = ap (λ (y : MoveRow). y.number) e in omega (arith, n, lt)
    not_later other (inr h) lt = let q = number_above_start x.number rows other rises.1 h in omega (arith, q, lt)

    gap : above + 1 < x.number → ⊥
    gap lt = let other = full x (inl refl) (above + 1) (omega arith) lt in let is = other.2 in
        not_later other.0 other.1 (omega (arith, is, lt))

    next : x.number ≡ above + 1
    next = let g = gap in let r = rises.0 in omega (arith, g, r)

    among : (other : MoveRow) → IsIn other (x ∷ rows) → x.number < other.number → IsIn other rows
    among other (inl e) lt = let n = ap (λ (y : MoveRow). y.number) e in absurd (omega (arith, n, lt))
    among other (inr h) lt = h

    later : IsFull x.number rows
    later row h k above_k below =
        let r = rises.0 in
        let other = full row (inr h) k (omega (arith, r, above_k)) below in
        let is = other.2 in
        (other.0, among other.0 other.1 (omega (arith, is, above_k)), other.2)

abbrev AreRisingMoves : ℕ → List Move → Type 0
AreRisingMoves above [] = Unit {0}
AreRisingMoves above (m ∷ moves) = (above < m.number) × AreRisingMoves m.number moves

move_above_start : (above : ℕ) (moves : List Move) (m : Move) → AreRisingMoves above moves → IsIn m moves → above
    < m.number
move_above_start above [] m climbs h = absurd h
move_above_start above (x ∷ moves) m climbs (inl e) = let n = ap (λ (y : Move). y.number) e in let r = climbs.0 in
    omega (arith, n, r)
move_above_start above (x ∷ moves) m climbs (inr h) = let q = move_above_start x.number moves m climbs.1 h in let r =
    climbs.0 in omega (arith, q, r)

rising_of_follows : (above from : ℕ) (moves : List Move) → AreConsecutiveMoves above from moves
    → AreRisingMoves above moves
rising_of_follows above from [] follows = tt
rising_of_follows above from (m ∷ moves) follows = (follows.0, rising_of_follows m.number m.target moves follows.2)

lower : (low above : ℕ) (moves : List Move) → low ≤ above → AreRisingMoves above moves → AreRisingMoves low moves
lower low above [] le climbs = tt
lower low above (m ∷ moves) le climbs = ((let c = climbs.0 in omega (arith, c, le)), climbs.1)

rising_of_rises : (n above : ℕ) (rows : List MoveRow) → MoveNumbersAscend above rows
    → AreRisingMoves above (moves_of n rows)
rising_of_rises n above [] rises = tt
rising_of_rises n above (row ∷ rows) rises =
    let rest = rising_of_rises n row.number rows rises.1 in
    (grind (arith, common_steps, hit_is, miss_is, lower))

-- Two rising lists with the same moves are equal.
same_moves : (above below : ℕ) (xs ys : List Move) → AreRisingMoves above xs → AreRisingMoves below ys
    → ((m : Move) → IsIn m xs → IsIn m ys) → ((m : Move) → IsIn m ys → IsIn m xs) → xs ≡ ys
same_moves above below [] [] cx cy to from = refl
same_moves above below [] (y ∷ ys) cx cy to from = absurd (from y (inl refl))
same_moves above below (x ∷ xs) [] cx cy to from = absurd (to x (inl refl))
same_moves above below (x ∷ xs) (y ∷ ys) cx cy to from = λ i. head i ∷ same_moves x.number y.number xs ys cx.1 cy.1
    rest_to rest_from i
  where
    heads : (x ≡ y) ⊎ IsIn x ys → (y ≡ x) ⊎ IsIn y xs → x ≡ y
    heads one other = grind (arith, common_steps, move_above_start)

    head : x ≡ y
    head = heads (to x (inl refl)) (from y (inl refl))

    number : x.number ≡ y.number
    number = ap (λ (m : Move). m.number) head

    rest_to : (m : Move) → IsIn m xs → IsIn m ys
    rest_to m h = elim (to m (inr h)) [
      | inl e ↦ let a = move_above_start x.number xs m cx.1 h in let n = ap (λ (z : Move). z.number) e in let q =
          number in absurd (omega (arith, a, n, q))
      | inr g ↦ g
    ]

    rest_from : (m : Move) → IsIn m ys → IsIn m xs
    rest_from m h = elim (from m (inr h)) [
      | inl e ↦ let a = move_above_start y.number ys m cy.1 h in let n = ap (λ (z : Move). z.number) e in let q =
          number in absurd (omega (arith, a, n, q))
      | inr g ↦ g
    ]

module _ (rs : List Resource) (hs : List History) (legal : AreLegalPostings rs hs) (rows : List MoveRow)
    (are : AreMoves hs rows) where
  -- The moves of a posting are those of the rows that name it.
  pub own_moves : (n : ℕ) (h : History) → entry_at hs n ≡ Some h → h.moves ≡ moves_of h.number rows
  own_moves n h e = same_moves 0 0 h.moves (moves_of h.number rows)
      (rising_of_follows 0 h.first h.moves sound.well_formed) (rising_of_rises h.number 0 rows are.rises) to from
    where
      sound : IsLegalHistory rs n h
      sound = legal.sound n h e

      at : entry_at hs h.number ≡ Some h
      at = ap (entry_at hs) sound.number ∙ e

      to : (m : Move) → IsIn m h.moves → IsIn m (moves_of h.number rows)
      to m there =
          let row : MoveRow = record { number = m.number; posting = h.number; source = m.source; target = m.target } in
          move_of_row rows row (are.complete row (h, at, there))

      from : (m : Move) → IsIn m (moves_of h.number rows) → IsIn m h.moves
      from m there =
          let row = row_of_move h.number m rows there in
          let is = are.sound row.0 row.1 in
          let same : is.0 ≡ h = same_Some _ _ (sym is.1 ∙ ap (entry_at hs) row.2 ∙ at) in
          subst (λ (x : Move). IsIn x h.moves) row.3 (subst (λ (x : History). IsIn (recorded_move row.0) x.moves) same
          is.2)

  -- The rows are numbered from 1 without gaps.
  pub numbered_in_order : AreInOrder (λ (row : MoveRow). row.number) rows
  numbered_in_order = order_of_run rows (subst (λ k. RunFrom k rows) (let e : 0 + 1 ≡ 1 = omega arith in e)
      (run_of_full 0 rows are.rises full))
    where
      full : IsFull 0 rows
      full row h k above below =
          let most = number_within_count rs hs legal rows are row h in
          let reached = legal.numbers.reached k (omega (arith, above)) (omega (arith, most, below)) in
          let m = in_of_has k reached.1.moves reached.3 in
          let other : MoveRow = record {
            number = m.0.number;
            posting = reached.0;
            source = m.0.source;
            target = m.0.target;
          } in
          (other, are.complete other (reached.1, reached.2, m.1), m.2)

  -- Table move has as many rows as the histories have moves.
  pub row_count_is_move_count : length rows ≡ move_count hs
  row_count_is_move_count = rows_counted_as_moves rows hs (λ n h e. (legal.sound n h e).number) (λ row h. let is =
      are.sound row h in numbered_bound hs row.posting is.0 is.1) own_moves
