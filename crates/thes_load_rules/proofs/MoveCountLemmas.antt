-- The rows of table move correspond one to one to the moves of the histories.
use Rattle.std.proofs.lemmas.Grind.{common_steps}
use Rattle.std.proofs.Common.{◌≡◌, ◌<◌, ◌≤◌, ℕ, suc, ◌+◌, length, List, [], ◌∷◌, refl, sym, ap, ◌∙◌}
use Rattle.std.proofs.Common.{arith, inl, inr, true, false, cond, eqb, eqb-true, ne_eqb, map}
use Rattle.std.proofs.lemmas.Bool.{cases_Bool, eq-eqb, eqb-false}
use Rattle.std.specs.Prelude.{Some, count_by, sum_by, slice_get, filter, ◌==◌}
use Rattle.std.proofs.lemmas.List.Sums.{sum_by-cons}
use Rattle.thes_base.specs.declared.data.History.{History}
use Rattle.thes_base.specs.declared.data.Move.{Move}
use Rattle.thes_base.specs.Resources.{entry_at}
use Rattle.thes_base.specs.Postings.{move_count}
use Rattle.thes_base.specs.Legal.{AllMoves, HasMove}
use Rattle.thes_base.proofs.ListedLemmas.{NumberedFrom, numbered_from}
use Rattle.thes_tables.specs.declared.rows.MoveRow.{MoveRow}
use Rattle.thes_tables.specs.Tables.{IsIn, recorded_move, moves_of}
use Rattle.thes_load_rules.specs.Rules.{EachRow}

-- The rows of table move that name the posting with this number.
abbrev rows_of_posting : ℕ → List MoveRow → List MoveRow
rows_of_posting n rows = filter (λ (row : MoveRow). row.posting == n) rows

-- The first row's move is the first of a posting's moves if the row names the posting; otherwise the row adds none.
pub hit_is : (n : ℕ) (m : MoveRow) (rows : List MoveRow) → eqb m.posting n ≡ true → moves_of n (m ∷ rows)
    ≡ recorded_move m ∷ moves_of n rows
hit_is n m rows e = ap (λ b. map recorded_move (cond b (m ∷ rows_of_posting n rows) (rows_of_posting n rows))) e

pub miss_is : (n : ℕ) (m : MoveRow) (rows : List MoveRow) → eqb m.posting n ≡ false → moves_of n (m ∷ rows)
    ≡ moves_of n rows
miss_is n m rows e = ap (λ b. map recorded_move (cond b (m ∷ rows_of_posting n rows) (rows_of_posting n rows))) e

-- Each move of a posting comes from a row that names the posting.
pub row_of_move : (n : ℕ) (m : Move) (rows : List MoveRow) → IsIn m (moves_of n rows) → (row : MoveRow)
    × IsIn row rows × (row.posting ≡ n) × (recorded_move row ≡ m)
row_of_move n m [] h = absurd h
row_of_move n m (x ∷ rows) h = grind (arith, common_steps, row_of_move n m rows, hit_is, eqb-true, miss_is)

-- Each row's move is among the moves of the posting that it names.
pub move_of_row : (rows : List MoveRow) (row : MoveRow) → IsIn row rows → IsIn (recorded_move row)
    (moves_of row.posting rows)
move_of_row [] row h = absurd h
move_of_row (x ∷ rows) row (inl e) = grind (arith, common_steps, hit_is, eq-eqb)
move_of_row (x ∷ rows) row (inr h) = grind (arith, common_steps, move_of_row rows row h, hit_is, miss_is)

pub has_of_in : (m : Move) (moves : List Move) → IsIn m moves → HasMove m.number moves
has_of_in m [] h = absurd h
has_of_in m (x ∷ moves) (inl e) = inl (ap (λ (y : Move). y.number) (sym e))
has_of_in m (x ∷ moves) (inr h) = inr (has_of_in m moves h)

pub in_of_has : (k : ℕ) (moves : List Move) → HasMove k moves → (m : Move) × IsIn m moves × (m.number ≡ k)
in_of_has k [] h = absurd h
in_of_has k (x ∷ moves) (inl e) = (x, inl refl, e)
in_of_has k (x ∷ moves) (inr h) = let r = in_of_has k moves h in (r.0, inr r.1, r.2)

pub all_of_in : (P : Move → Type 0) (moves : List Move) → ((m : Move) → IsIn m moves → P m) → AllMoves P moves
all_of_in P [] each = tt
all_of_in P (m ∷ moves) each = (each m (inl refl), all_of_in P moves (λ x h. each x (inr h)))

none_of : (k p : ℕ) (hs : List History) → NumberedFrom k hs → p < k → count_by (λ h. eqb p h.number) hs ≡ 0
none_of k p [] num lt = refl
none_of k p (h ∷ hs) num lt =
    let a = sum_by-cons (λ (x : History). cond (eqb p x.number) 1 0) h hs in
    let ih = none_of (k + 1) p hs num.1 (omega arith) in
    let q : cond {A = ℕ} (eqb p h.number) 1 0 ≡ 0 =
    ap (λ b. cond {A = ℕ} b 1 0) (ne_eqb p h.number (λ e. let n = num.0 in omega (arith, n, e))) in
    omega (arith, a, ih, q)

-- If histories are numbered from `k` on, each number in their range is that of exactly one of them.
one_of : (k p : ℕ) (hs : List History) → NumberedFrom k hs → k ≤ p → p < k + length hs
    → count_by (λ h. eqb p h.number) hs ≡ 1
one_of k p [] num le lt = absurd (omega arith)
one_of k p (h ∷ hs) num le lt =
    let a = sum_by-cons (λ (x : History). cond (eqb p x.number) 1 0) h hs in
    let n = num.0 in
    elim (cases_Bool (eqb p h.number)) [
      | inl e ↦
          let same = eqb-true p h.number e in
          let ih = none_of (k + 1) p hs num.1 (omega (arith, same, n)) in
          let q : cond {A = ℕ} (eqb p h.number) 1 0 ≡ 1 = ap (λ b. cond {A = ℕ} b 1 0) e in
          omega (arith, a, ih, q)
      | inr e ↦
          let differ : p ≡ k → ⊥ = λ s. eqb-false p h.number e (s ∙ sym n) in
          let above : k + 1 ≤ p = omega (arith, differ) in
          let ih = one_of (k + 1) p hs num.1 above (omega arith) in
          let q : cond {A = ℕ} (eqb p h.number) 1 0 ≡ 0 = ap (λ b. cond {A = ℕ} b 1 0) e in
          omega (arith, a, ih, q)
    ]

sum_none : (hs : List History) → sum_by (λ (h : History). length (moves_of h.number [])) hs ≡ 0
sum_none [] = refl
sum_none (h ∷ hs) = let a = sum_by-cons (λ (x : History). length (moves_of x.number [])) h hs in let ih =
    sum_none hs in omega (arith, a, ih)

-- One more row adds 1 to the sum of the numbers of moves for each history whose number the row names.
sum_more : (m : MoveRow) (rows : List MoveRow) (hs : List History)
    → sum_by (λ (h : History). length (moves_of h.number (m ∷ rows))) hs ≡ count_by (λ h. eqb m.posting h.number) hs
    + sum_by (λ (h : History). length (moves_of h.number rows)) hs
sum_more m rows [] = refl
sum_more m rows (h ∷ hs) = grind (arith, common_steps, sum_by-cons, sum_more m rows hs)

sum_rows : (rows : List MoveRow) (hs : List History) → NumberedFrom 1 hs
    → EachRow (λ (m : MoveRow). (1 ≤ m.posting) × (m.posting ≤ length hs)) rows → length rows
    ≡ sum_by (λ (h : History). length (moves_of h.number rows)) hs
sum_rows [] hs num known = sym (sum_none hs)
sum_rows (m ∷ rows) hs num known =
    let a = sum_more m rows hs in
    let k = known m (inl refl) in
    let one = one_of 1 m.posting hs num k.0 (let q = k.1 in omega (arith, q)) in
    let ih = sum_rows rows hs num (λ x h. known x (inr h)) in
    omega (arith, a, one, ih)

sum_each : (rows : List MoveRow) (hs : List History) → ((i : ℕ) (h : History) → slice_get hs i ≡ Some h → h.moves
    ≡ moves_of h.number rows) → move_count hs ≡ sum_by (λ (h : History). length (moves_of h.number rows)) hs
sum_each rows [] each = refl
sum_each rows (h ∷ hs) each =
    let a = sum_by-cons (λ (x : History). length x.moves) h hs in
    let b = sum_by-cons (λ (x : History). length (moves_of x.number rows)) h hs in
    let e = ap (length {A = Move}) (each 0 h refl) in
    let ih = sum_each rows hs (λ i x at. each (suc i) x at) in
    omega (arith, a, b, e, ih)

pub rows_counted_as_moves : (rows : List MoveRow) (hs : List History)
    → ((n : ℕ) (h : History) → entry_at hs n ≡ Some h → h.number ≡ n)
    → EachRow (λ (m : MoveRow). (1 ≤ m.posting) × (m.posting ≤ length hs)) rows
    → ((n : ℕ) (h : History) → entry_at hs n ≡ Some h → h.moves ≡ moves_of h.number rows) → length rows
    ≡ move_count hs
rows_counted_as_moves rows hs number known each =
    let num = numbered_from 1 hs (λ i h e. let q = number (suc i) h e in omega (arith, q)) in
    sum_rows rows hs num known ∙ sym (sum_each rows hs (λ i h e. each (suc i) h e))
