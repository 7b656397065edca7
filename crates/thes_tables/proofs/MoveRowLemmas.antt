-- The rows of the tables move and posting after requests.
use Rattle.std.proofs.lemmas.Grind.{common_steps}
use Rattle.std.proofs.Common.{◌≡◌, ◌<◌, ◌≤◌, ◌⊎◌, inl, inr, ℕ, zero, suc, ◌+◌, length, List, [], ◌∷◌, ◌++◌, refl}
use Rattle.std.proofs.Common.{sym, ap, ◌∙◌, subst, arith, true, false, Bool, cond, map, length-append, append_assoc}
use Rattle.std.specs.Prelude.{Some, None, slice_get, slice_set}
use Rattle.thes_base.specs.declared.data.History.{History}
use Rattle.thes_base.specs.declared.data.Move.{Move}
use Rattle.thes_base.specs.Resources.{entry_at, set_entry_at}
use Rattle.thes_base.specs.Postings.{place, history_after_move, histories_after_moves, moves_along, move_count}
use Rattle.thes_base.specs.Postings.{is_assigned_to}
use Rattle.thes_base.specs.Legal.{AreLegalPostings, AllMoves}
use Rattle.thes_base.proofs.NumberedLemmas.{push_old, push_new, push_cases, numbered_bound, set_cases, set_same}
use Rattle.thes_base.proofs.NumberedLemmas.{set_other}
use Rattle.thes_base.proofs.MoveLemmas.{numbered_moved, slice_forward, IsAfterMoveAt, rank, place_moved}
use Rattle.std.proofs.lemmas.Option.{same_Some}
use Rattle.thes_base.proofs.ListedLemmas.{NumberedFrom}
use Rattle.thes_tables.specs.declared.rows.PostingRow.{PostingRow}
use Rattle.thes_tables.specs.declared.rows.MoveRow.{MoveRow}
use Rattle.thes_tables.specs.Tables.{IsIn, IsMoveOf, AreMoves, MoveNumbersAscend, recorded_move, posting_row}
use Rattle.thes_tables.specs.Rows.{with_posting, row_at_place, row_after_move_all}
use Rattle.thes_tables.specs.Changes.{new_moves, move_row}
use Rattle.std.proofs.lemmas.Bool.{cases_Bool, cases_eq}
use Rattle.thes_tables.proofs.RowSetLemmas.{clash, in_append, in_map, map_in, append_left, append_right}

pub rises_append : (above bound : ℕ) (xs ys : List MoveRow) → MoveNumbersAscend above xs → above ≤ bound
    → ((row : MoveRow) → IsIn row xs → row.number ≤ bound) → MoveNumbersAscend bound ys
    → MoveNumbersAscend above (xs ++ ys)
rises_append above bound [] [] r least most ys = tt
rises_append above bound [] (y ∷ ys) r least most up = ((let u = up.0 in omega (arith, u, least)), up.1)
rises_append above bound (x ∷ xs) ys r least most up =
    (r.0, rises_append x.number bound xs ys r.1 (most x (inl refl)) (λ row h. most row (inr h)) up)

pub in_all : (P : Move → Type 0) (m : Move) (moves : List Move) → AllMoves P moves → IsIn m moves → P m
in_all P m [] all h = absurd h
in_all P m (x ∷ moves) all (inl e) = let Q : Move → Type 0 = P in subst Q (sym e) all.0
in_all P m (x ∷ moves) all (inr h) = in_all P m moves all.1 h

module _ (passes : History → Bool) (target : ℕ) where
  abbrev row_at : ℕ → History → MoveRow
  row_at number h = record { number = number; posting = h.number; source = place h; target = target }

  rows_yes : (number : ℕ) (h : History) (hs : List History) → passes h ≡ true → new_moves passes target number
      (h ∷ hs) ≡ row_at number h ∷ new_moves passes target (number + 1) hs
  rows_yes number h hs e = grind (arith, common_steps)

  rows_no : (number : ℕ) (h : History) (hs : List History) → passes h ≡ false → new_moves passes target number
      (h ∷ hs) ≡ new_moves passes target number hs
  rows_no number h hs e = grind (arith, common_steps)

  pub rises_new : (number bound : ℕ) (hs : List History) → bound < number
      → MoveNumbersAscend bound (new_moves passes target number hs)
  rises_new number bound [] lt = tt
  rises_new number bound (h ∷ hs) lt = elim (cases_Bool (passes h)) [
    | inl hit ↦ subst (MoveNumbersAscend bound) (sym (rows_yes number h hs hit))
        (lt, rises_new (number + 1) number hs (omega arith))
    | inr miss ↦ subst (MoveNumbersAscend bound) (sym (rows_no number h hs miss)) (rises_new number bound hs lt)
  ]

  -- Each new row is the move of a history that passes the test.
  pub new_cases : (number : ℕ) (hs : List History) (row : MoveRow) → IsIn row (new_moves passes target number hs)
      → (i : ℕ) × (h : History) × (slice_get hs i ≡ Some h) × (passes h ≡ true)
      × (row ≡ row_at (number + rank passes hs i) h)
  new_cases number [] row m = absurd m
  new_cases number (h ∷ hs) row m = elim (cases_Bool (passes h)) [
    | inl hit ↦ elim (subst (IsIn row) (rows_yes number h hs hit) m) [
      | inl e ↦ (0, h, refl, hit, e ∙ ap (λ n. row_at n h) (let q : number ≡ number + 0 = omega arith in q))
      | inr later ↦ let r = new_cases (number + 1) hs row later in (
        suc r.0,
        r.1,
        r.2,
        r.3,
        r.4 ∙ ap (λ n. row_at n r.1) (let c = ap {B = ℕ} (λ b. cond b 1 0) hit in omega (arith, c)),
      )
    ]
    | inr miss ↦ let r = new_cases number hs row (subst (IsIn row) (rows_no number h hs miss) m) in (
      suc r.0,
      r.1,
      r.2,
      r.3,
      r.4 ∙ ap (λ n. row_at n r.1) (let c = ap {B = ℕ} (λ b. cond b 1 0) miss in omega (arith, c)),
    )
  ]

  pub new_at : (number : ℕ) (hs : List History) (i : ℕ) (h : History) → slice_get hs i ≡ Some h → passes h ≡ true
      → IsIn (row_at (number + rank passes hs i) h) (new_moves passes target number hs)
  new_at number [] i h e hit = absurd (cc)
  new_at number (x ∷ hs) zero h e hit = grind (arith, common_steps, rows_yes)
  new_at number (x ∷ hs) (suc i) h e hit = elim (cases_Bool (passes x)) [
    | inl picks ↦ subst (IsIn (row_at (number + rank passes (x ∷ hs) (suc i)) h)) (sym (rows_yes number x hs picks))
        (inr (subst (λ n. IsIn (row_at n h) (new_moves passes target (number + 1) hs))
        (let c = ap {B = ℕ} (λ b. cond b 1 0) picks in omega (arith, c)) (new_at (number + 1) hs i h e hit)))
    | inr miss ↦ subst (IsIn (row_at (number + rank passes (x ∷ hs) (suc i)) h)) (sym (rows_no number x hs miss))
        (subst (λ n. IsIn (row_at n h) (new_moves passes target number hs))
        (let c = ap {B = ℕ} (λ b. cond b 1 0) miss in omega (arith, c)) (new_at number hs i h e hit))
  ]

push_in : (m x : Move) (moves : List Move) → IsIn m (moves ++ x ∷ []) → IsIn m moves ⊎ (m ≡ x)
push_in m x moves h = elim (in_append m moves (x ∷ []) h)
    [ inl old ↦ inl old | inr new ↦ inr (elim new [ inl e ↦ e | inr h ↦ absurd h ]) ]

module _ (rs : List _) (hs : List History) (legal : AreLegalPostings rs hs) where
  -- No row of table move has a number above the count of all moves.
  pub number_within_count : (rows : List MoveRow) → AreMoves hs rows → (row : MoveRow) → IsIn row rows → row.number
      ≤ move_count hs
  number_within_count rows are row h = let is = are.sound row h in in_all (λ m. m.number ≤ move_count hs)
      (recorded_move row) is.0.moves (legal.numbers.bounded row.posting is.0 is.1) is.2

  -- If each history that passes the test gains a move, table move with the new rows encodes the moves of the new
  -- histories.
  pub moves_more : (passes : History → Bool) (target : ℕ) (rows : List MoveRow) → AreMoves hs rows
      → AreMoves (histories_after_moves passes target (move_count hs + 1) hs)
      (rows ++ new_moves passes target (move_count hs + 1) hs)
  moves_more passes target rows are =
      record {
        rises = rises_append 0 (move_count hs) rows (new_moves passes target first hs) are.rises (omega arith)
            (number_within_count rows are) (rises_new passes target first (move_count hs) hs (omega arith));
        sound = sound;
        complete = complete;
      }
    where
      first : ℕ
      first = move_count hs + 1

      after : List History
      after = histories_after_moves passes target first hs

      old_in : (h new : History) (i : ℕ) (m : Move) → IsAfterMoveAt passes target first hs i h new → IsIn m h.moves
          → IsIn m new.moves
      old_in h new i m (inl (hit, k, at, is)) there = subst (λ (x : History). IsIn m x.moves) (sym is)
          (append_left m h.moves _ there)
      old_in h new i m (inr (miss, is)) there = subst (λ (x : History). IsIn m x.moves) (sym is) there

      sound : (row : MoveRow) → IsIn row (rows ++ new_moves passes target first hs) → IsMoveOf after row
      sound row h = elim (in_append row rows (new_moves passes target first hs) h) [
        | inl old ↦ from_old row (are.sound row old)
        | inr new ↦ from_new row (new_cases passes target first hs row new)
      ]
        where
          from_old : (row : MoveRow) → IsMoveOf hs row → IsMoveOf after row
          from_old row (g, at, there) = go row.posting at
            where
              go : (n : ℕ) → entry_at hs n ≡ Some g → (x : History) × (entry_at after n ≡ Some x)
                  × IsIn (recorded_move row) x.moves
              go zero e = absurd (cc)
              go (suc i) e = let f = slice_forward passes target first hs i g e in
                  (f.0, f.1, old_in g f.0 i (recorded_move row) f.2 there)

          from_new : (row : MoveRow) → (i : ℕ) × (h : History) × (slice_get hs i ≡ Some h) × (passes h ≡ true)
              × (row ≡ row_at passes target (first + rank passes hs i) h) → IsMoveOf after row
          from_new row (i, g, e, hit, is) =
              let f = slice_forward passes target first hs i g e in
              let n = (legal.sound (suc i) g e).number in
              let at : entry_at after row.posting ≡ Some f.0 = ap (λ (r : MoveRow). entry_at after r.posting) is
              ∙ ap (entry_at after) n ∙ f.1 in
              (f.0, at, there f.0 f.2)
            where
              there : (new : History) → IsAfterMoveAt passes target first hs i g new → IsIn (recorded_move row)
                  new.moves
              there new after_move = grind (arith, common_steps, append_right, clash)

      complete : (row : MoveRow) → IsMoveOf after row → IsIn row (rows ++ new_moves passes target first hs)
      complete row (new, at, there) = go row.posting refl at
        where
          go : (n : ℕ) → row.posting ≡ n → entry_at after n ≡ Some new
              → IsIn row (rows ++ new_moves passes target first hs)
          go zero p e = absurd (cc)
          go (suc i) p e = let was = numbered_moved passes target first hs (suc i) new e in
              from was.0 was.1 (slice_forward passes target first hs i was.0 was.1)
            where
              from : (g : History) → slice_get hs i ≡ Some g → (x : History) × (slice_get after i ≡ Some x)
                  × IsAfterMoveAt passes target first hs i g x → IsIn row (rows ++ new_moves passes target first hs)
              from g eg (x, ex, how) = each how
                where
                  same : new ≡ x
                  same = same_Some _ _ (sym e ∙ ex)

                  at_old : entry_at hs row.posting ≡ Some g
                  at_old = ap (entry_at hs) p ∙ eg

                  each : IsAfterMoveAt passes target first hs i g x
                      → IsIn row (rows ++ new_moves passes target first hs)
                  each (inl (hit, k, num, is)) =
                      elim (push_in (recorded_move row) (record { number = k; source = place g; target = target })
                      g.moves (subst (λ (y : History). IsIn (recorded_move row) y.moves) (same ∙ is) there)) [
                        | inl old ↦ append_left row rows _ (are.complete row (g, at_old, old))
                        | inr mine ↦
                            let n = (legal.sound (suc i) g eg).number in
                            let whole : row_at passes target (first + rank passes hs i) g ≡ row =
                            λ j. record {
                              number = (sym num ∙ sym (ap (λ (m : Move). m.number) mine)) j;
                              posting = (n ∙ sym p) j;
                              source = sym (ap (λ (m : Move). m.source) mine) j;
                              target = sym (ap (λ (m : Move). m.target) mine) j;
                            } in
                            append_right row rows _ (subst (λ r. IsIn r (new_moves passes target first hs)) whole
                            (new_at passes target first hs i g eg hit))
                      ]
                  each (inr (miss, is)) =
                      append_left row rows _ (are.complete row (
                        g,
                        at_old,
                        subst (λ (y : History). IsIn (recorded_move row) y.moves) (same ∙ is) there,
                      ))

-- The rows of the moves along a path have rising numbers.
pub rises_along : (posting above number from : ℕ) (way : List ℕ) → above < number
    → MoveNumbersAscend above (map (move_row posting) (moves_along number from way))
rises_along posting above number from [] less = tt
rises_along posting above number from (n ∷ way) less =
    (less, rises_along posting number (number + 1) n way (omega arith))

-- Assumes that a history with the next number is appended.
module _ (rs : List _) (hs : List History) (legal : AreLegalPostings rs hs) (h : History)
    (is_next : h.number ≡ length hs + 1) where
  abbrev rows_of : List MoveRow
  rows_of = map (move_row h.number) h.moves

  -- Table move with the rows of the new history's moves encodes the moves of all histories.
  pub moves_posted : (rows : List MoveRow) → MoveNumbersAscend (move_count hs) rows_of → AreMoves hs rows
      → AreMoves (hs ++ h ∷ []) (rows ++ rows_of)
  moves_posted rows rising are = record {
    rises = rises_append 0 (move_count hs) rows rows_of are.rises (omega arith)
        (number_within_count rs hs legal rows are) rising;
    sound = λ row m. elim (in_append row rows rows_of m) [
      | inl old ↦ let is = are.sound row old in (is.0, push_old hs h is.0 row.posting is.1, is.2)
      | inr new ↦ let from = in_map (move_row h.number) row h.moves new in (
        h,
        here row (ap (λ (r : MoveRow). r.posting) from.2),
        subst (λ (m : Move). IsIn m h.moves) (sym (ap recorded_move from.2)) from.1,
      )
    ];
    complete = λ row is. elim (push_cases hs h is.0 row.posting is.1) [
      | inl old ↦ append_left row rows rows_of (are.complete row (is.0, old, is.2))
      | inr new ↦ append_right row rows rows_of
          (mine row (new.0 ∙ sym is_next) (subst (λ (g : History). IsIn (recorded_move row) g.moves) new.1 is.2))
    ];
  }
    where
      here : (row : MoveRow) → row.posting ≡ h.number → entry_at (hs ++ h ∷ []) row.posting ≡ Some h
      here row e = ap (entry_at (hs ++ h ∷ [])) (e ∙ is_next) ∙ push_new hs h

      mine : (row : MoveRow) → row.posting ≡ h.number → IsIn (recorded_move row) h.moves → IsIn row rows_of
      mine row e there = subst (λ (n : ℕ). IsIn (record row { posting = n }) rows_of) (sym e)
          (map_in (move_row h.number) (recorded_move row) h.moves there)

-- Table move still encodes the moves of the histories after a history is replaced by one with the same moves.
pub moves_set : (hs : List History) (n : ℕ) (h new : History) (rows : List MoveRow) → entry_at hs n ≡ Some h
    → new.moves ≡ h.moves → AreMoves hs rows → AreMoves (set_entry_at hs n new) rows
moves_set hs n h new rows e same are = record {
  rises = are.rises;
  sound = λ row m. let is = are.sound row m in sound row is.0 is.1 is.2;
  complete = λ row is. complete row is.0 is.1 is.2;
}
  where
    least : 1 ≤ n
    least = (numbered_bound hs n h e).0

    sound : (row : MoveRow) (g : History) → entry_at hs row.posting ≡ Some g → IsIn (recorded_move row) g.moves
        → IsMoveOf (set_entry_at hs n new) row
    sound row g at there = elim (cases_eq row.posting n) [
      | inl here ↦
          let is : g ≡ h = same_Some _ _ (sym at ∙ ap (entry_at hs) here ∙ e) in (
            new,
            ap (entry_at (set_entry_at hs n new)) here ∙ set_same hs new h n e,
            subst (IsIn (recorded_move row)) (ap (λ (x : History). x.moves) is ∙ sym same) there,
          )
      | inr other ↦ (g, set_other hs new g n row.posting least other at, there)
    ]

    complete : (row : MoveRow) (g : History) → entry_at (set_entry_at hs n new) row.posting ≡ Some g
        → IsIn (recorded_move row) g.moves → IsIn row rows
    complete row g at there = grind (arith, common_steps, set_cases)

pub map_get : {A B : Type 0} (f : A → B) (xs : List A) (i : ℕ) (x : A) → slice_get xs i ≡ Some x
    → slice_get (map f xs) i ≡ Some (f x)
map_get f [] i x e = absurd (cc)
map_get f (y ∷ xs) zero x e = ap (λ z. Some (f z)) (same_Some _ _ e)
map_get f (y ∷ xs) (suc i) x e = map_get f xs i x e

pub map_numbered : {A B : Type 0} (f : A → B) (xs : List A) (n : ℕ) (x : A) → entry_at xs n ≡ Some x
    → entry_at (map f xs) n ≡ Some (f x)
map_numbered f xs zero x e = absurd (cc)
map_numbered f xs (suc n) x e = map_get f xs n x e

pub with_at : (f : PostingRow → PostingRow) (n : ℕ) (rows : List PostingRow) (row : PostingRow) → entry_at rows n
    ≡ Some row → with_posting f n rows ≡ set_entry_at rows n (f row)
with_at f n rows row e = ap (λ o. elim o [ None ↦ rows | Some r ↦ set_entry_at rows n (f r) ]) e

-- Moving all rows of the source to the target gives the rows of the histories after these moves.
pub rows_moved : (source target number : ℕ) (hs : List History) → map (row_after_move_all source target)
    (map posting_row hs) ≡ map posting_row (histories_after_moves (is_assigned_to source) target number hs)
rows_moved source target number [] = refl
rows_moved source target number (h ∷ hs) = elim (cases_Bool (is_assigned_to source h)) [
  | inl hit ↦ (λ i. (ap (λ b. cond b (row_at_place target (posting_row h)) (posting_row h)) hit
      ∙ ap (λ (p : ℕ). record (posting_row h) { place = p }) (sym (place_moved number target h))) i
      ∷ rows_moved source target (number + 1) hs i) ∙ sym (ap (map posting_row)
      (ap (λ b. cond b (history_after_move number target h ∷ histories_after_moves (is_assigned_to source) target
      (number + 1) hs) (h ∷ histories_after_moves (is_assigned_to source) target number hs)) hit))
  | inr miss ↦ (λ i. ap (λ b. cond b (row_at_place target (posting_row h)) (posting_row h)) miss i
      ∷ rows_moved source target number hs i) ∙ sym (ap (map posting_row)
      (ap (λ b. cond b (history_after_move number target h ∷ histories_after_moves (is_assigned_to source) target
      (number + 1) hs) (h ∷ histories_after_moves (is_assigned_to source) target number hs)) miss))
]

abbrev pub placed_all : List MoveRow → List PostingRow → List PostingRow
placed_all [] rows = rows
placed_all (m ∷ ms) rows = placed_all ms (with_posting (row_at_place m.target) m.posting rows)

pub get_at : {A : Type 0} (pre : List A) (x : A) (rest : List A) → slice_get (pre ++ x ∷ rest) (length pre) ≡ Some x
get_at [] x rest = refl
get_at (y ∷ pre) x rest = get_at pre x rest

set_at : {A : Type 0} (pre : List A) (x y : A) (rest : List A) → slice_set (pre ++ x ∷ rest) (length pre) y ≡ pre ++ y
    ∷ rest
set_at [] x y rest = refl
set_at (z ∷ pre) x y rest = ap (λ l. z ∷ l) (set_at pre x y rest)

with_here : (f : PostingRow → PostingRow) (n : ℕ) (pre : List PostingRow) (row : PostingRow) (rest : List PostingRow)
    → n ≡ length pre + 1 → with_posting f n (pre ++ row ∷ rest) ≡ pre ++ f row ∷ rest
with_here f n pre row rest e = grind (arith, common_steps, with_at, get_at pre row rest, set_at pre row (f row) rest)

module _ (passes : History → Bool) (target : ℕ) where
  -- Setting the places of the postings that pass the test gives the rows of the histories after these postings have
  -- moved.
  pub rows_placed : (number : ℕ) (pre : List PostingRow) (hs : List History) → NumberedFrom (length pre + 1) hs
      → placed_all (new_moves passes target number hs) (pre ++ map posting_row hs) ≡ pre
      ++ map posting_row (histories_after_moves passes target number hs)
  rows_placed number pre [] from = refl
  rows_placed number pre (h ∷ hs) from = grind (
    arith,
    common_steps,
    rows_yes,
    with_here,
    append_assoc,
    rows_placed (number + 1) (pre ++ row_at_place target (posting_row h) ∷ []) hs,
    rows_placed number (pre ++ posting_row h ∷ []) hs,
    place_moved,
    rows_no,
    length-append,
  )
