-- Proves that look-ups in the database return the postings and moves of the tables.
use Rattle.std.proofs.lemmas.Grind.{common_steps}
use Rattle.std.proofs.Common.{◌≡◌, inl, inr, ℕ, List, [], ◌∷◌, ◌++◌, ◌<◌, length, map, filter, take, suc, Bool, true}
use Rattle.std.proofs.Common.{cond, None, Some, slice_get, get_or, refl, sym, ap, subst, ◌∙◌, arith, zero, ◌+◌}
use Rattle.std.proofs.Common.{◌-◌, ◌≤◌, ◌==◌}
use Rattle.std.proofs.Math.Seq.{take-suc}
use Rattle.std.proofs.lemmas.List.{map-append}
use Rattle.std.proofs.lemmas.Option.{slice_get_past, same_Some}
use Rattle.std.proofs.lemmas.Map.Text.{is_eq-slice_cmp}
use Rattle.std.proofs.lemmas.Slice.Eq.{bytes_eq-Decides}
use Rattle.std.proofs.lemmas.Bool.{eqb-true}
use Rattle.std.specs.Ordering.{nat_cmp, eq_by_cmp}
use Rattle.std.specs.Cmp.Lexicographic.{slice_cmp}
use Rattle.sqlite.specs.declared.types.Value.{Value}
use Rattle.sqlite.specs.declared.types.Value.TheVariants.{Null, Int, Text, Blob, Real}
use Rattle.sqlite.specs.Order.{Row, column}
use Rattle.sqlite_rules.specs.Lists.{Has}
use Rattle.thes_tables.specs.declared.cells.Cell.{Cell}
use Rattle.thes_tables.specs.declared.cells.Cell.TheVariants as cells
use Rattle.thes_tables.specs.declared.rows.PostingRow.{PostingRow}
use Rattle.thes_base.specs.declared.data.Move.{Move}
use Rattle.thes_base.specs.Resources.{entry_at}
use Rattle.thes_base.proofs.NumberedLemmas.{numbered_at}
use Rattle.thes_tables.specs.declared.rows.MoveRow.{MoveRow}
use Rattle.thes_tables.specs.Tables.{Tables, IsIn, recorded_move}
use Rattle.thes_tables.specs.Cells.{posting_cells, move_cells}
use Rattle.thes_tables.proofs.CellLemmas.{map_one, posting_one, move_one}
use Rattle.thes_sql.specs.StoredRows.{value_of, values, ArePostingsNumbered}
use Rattle.thes_sql.specs.Reads.{cells_with_number, cells_of_moves}
use Rattle.thes_sql.proofs.TableRowLemmas.{filter_has, has_filter, num_same}
use Rattle.thes_sql.proofs.InsertLemmas.{in_has}
use Rattle.thes_store.specs.Reading.{IsPostingOfKey, IsPostingOfNumber}
use Rattle.thes_store.proofs.IndexPositionLemmas.{take_one}

-- The cells read so far and the cell of the next value are the cells of a prefix longer by one
-- value.
pub one_more : (row : List Value) (n : ℕ) (cs : List Cell) (c : Cell) → values cs ≡ take n row → n < length row
    → value_of c ≡ column row n → values (cs ++ c ∷ []) ≡ take (suc n) row
one_more row n cs c so_far low is = map-append value_of cs (c ∷ []) ∙ (λ i. so_far i ++ is i ∷ [])
    ∙ sym (take-suc row n Null low)

abbrev cell_of_value : Value → Cell
cell_of_value Null = cells.Null
cell_of_value (Int n) = cells.Int n
cell_of_value (Text t) = cells.Text t
cell_of_value (Blob b) = cells.Bytes b
cell_of_value (Real x) = cells.Null

value_back : (c : Cell) → cell_of_value (value_of c) ≡ c
value_back c = grind (arith, common_steps)

pub posting_of_values : (x y : PostingRow) → values (posting_cells x) ≡ values (posting_cells y) → x ≡ y
posting_of_values x y e = posting_one x y (map_one value_of (λ a b same. sym (value_back a) ∙ ap cell_of_value same
    ∙ value_back b) (posting_cells x) (posting_cells y) e)

abbrev has_key : List ℕ → PostingRow → Bool
has_key key x = eq_by_cmp (slice_cmp nat_cmp) x.key key

key_same : (key : List ℕ) (x : PostingRow) → has_key key x ≡ true → x.key ≡ key
key_same key x e = (bytes_eq-Decides x.key key).0 (sym (is_eq-slice_cmp x.key key) ∙ e)

key_test : (key : List ℕ) (x : PostingRow) → x.key ≡ key → has_key key x ≡ true
key_test key x e = is_eq-slice_cmp x.key key ∙ (bytes_eq-Decides x.key key).1 e

has_in : {A : Type 0} (xs : List A) (x : A) → IsIn x xs → Has xs x
has_in [] x h = absurd h
has_in (y ∷ ys) x (inl e) = inl e
has_in (y ∷ ys) x (inr h) = inr (has_in ys x h)

-- The first row with a key is that of its posting; without such a row there is no posting.
pub found_first : (key : List ℕ) (ps : List PostingRow) (items : List Row) (row : Row) (x : PostingRow)
    → items ≡ map values (map posting_cells (filter (has_key key) ps)) → slice_get items 0 ≡ Some row
    → row ≡ values (posting_cells x) → IsPostingOfKey key ps (Some x)
found_first key ps items row x is first told = go (filter (has_key key) ps) (filter_has (has_key key) ps)
    (sym (ap (λ l. slice_get l 0) is) ∙ first)
  where
    go : (qs : List PostingRow) → ((q : PostingRow) → Has qs q → Has ps q × (has_key key q ≡ true))
        → slice_get (map values (map posting_cells qs)) 0 ≡ Some row → IsPostingOfKey key ps (Some x)
    go [] from e = absurd (cc)
    go (q ∷ qs) from e =
        let head : values (posting_cells q) ≡ row = cc in
        let same : q ≡ x = posting_of_values q x (head ∙ told) in
        let there = from q (inl refl) in
        subst (λ (z : PostingRow). IsIn z ps × (z.key ≡ key)) same (in_has ps q there.0, key_same key q there.1)

pub found_none : (key : List ℕ) (ps : List PostingRow) (items : List Row)
    → items ≡ map values (map posting_cells (filter (has_key key) ps)) → slice_get items 0 ≡ None
    → IsPostingOfKey key ps None
found_none key ps items is none row there same = go (filter (has_key key) ps)
    (has_filter (has_key key) ps row (has_in ps row there) (key_test key row same))
    (sym (ap (λ l. slice_get l 0) is) ∙ none)
  where
    go : (qs : List PostingRow) → Has qs row → slice_get (map values (map posting_cells qs)) 0 ≡ None → ⊥
    go [] h e = h
    go (q ∷ qs) h e = cc

-- If postings are numbered from `k`, the first one with number `n` is at position `n - k`.
numbered_head : (n k : ℕ) (ps : List PostingRow) → ArePostingsNumbered k ps → k ≤ n
    → slice_get (filter (λ (x : PostingRow). x.number == n) ps) 0 ≡ slice_get ps (n - k)
numbered_head n k [] num le = sym (slice_get_past [] (n - k) (omega arith))
numbered_head n k (p ∷ ps) num le = go (numbered_head n (k + 1) ps num.1) (p.number == n) refl
  where
    rest : List PostingRow
    rest = filter (λ (x : PostingRow). x.number == n) ps

    go : (k + 1 ≤ n → slice_get rest 0 ≡ slice_get ps (n - (k + 1))) → (b : Bool) → (p.number == n) ≡ b
        → slice_get (cond b (p ∷ rest) rest) 0 ≡ slice_get (p ∷ ps) (n - k)
    go later b e = grind (arith, common_steps, eqb-true, num_same)

-- No posting has number 0 if the numbers start above it.
none_below : (k : ℕ) (ps : List PostingRow) → ArePostingsNumbered k ps → 0 < k
    → slice_get (filter (λ (x : PostingRow). x.number == 0) ps) 0 ≡ None
none_below k [] num some = refl
none_below k (p ∷ ps) num some = grind (arith, common_steps, none_below (k + 1) ps num.1 (omega arith), eqb-true)

-- If postings are numbered from 1, the first one with a number is the entry at this number.
numbered_first : (n : ℕ) (ps : List PostingRow) → ArePostingsNumbered 1 ps
    → slice_get (filter (λ (x : PostingRow). x.number == n) ps) 0 ≡ entry_at ps n
numbered_first zero ps num = none_below 1 ps num (omega arith)
numbered_first (suc n) ps num = numbered_head (suc n) 1 ps num (omega arith)
    ∙ sym (numbered_at ps (suc n) (omega arith))

none_head : (qs : List PostingRow) (items : List Row) → items ≡ map values (map posting_cells qs)
    → slice_get items 0 ≡ None → slice_get qs 0 ≡ None
none_head [] items is none = refl
none_head (q ∷ qs) items is none = absurd (let no = sym (ap (λ l. slice_get l 0) is) ∙ none in cc)

some_head : (qs : List PostingRow) (items : List Row) (row : Row) (x : PostingRow)
    → items ≡ map values (map posting_cells qs) → slice_get items 0 ≡ Some row → row ≡ values (posting_cells x)
    → slice_get qs 0 ≡ Some x
some_head [] items row x is first told = absurd (let no = sym (ap (λ l. slice_get l 0) is) ∙ first in cc)
some_head (q ∷ qs) items row x is first told = grind (arith, common_steps, posting_of_values, same_Some)

abbrev number_of : ℕ → Tables → List PostingRow
number_of n t = filter (λ (x : PostingRow). x.number == n) t.posting

pub finds_no_row : (n : ℕ) (t : Tables) (rows : List Row) → ArePostingsNumbered 1 t.posting
    → rows ≡ map values (cells_with_number n t) → slice_get rows 0 ≡ None → None ≡ entry_at t.posting n
finds_no_row n t rows num is none = sym (none_head (number_of n t) rows is none) ∙ numbered_first n t.posting num

pub finds_row : (n : ℕ) (t : Tables) (rows : List Row) (row : Row) (x : PostingRow) → ArePostingsNumbered 1 t.posting
    → rows ≡ map values (cells_with_number n t) → slice_get rows 0 ≡ Some row → row ≡ values (posting_cells x)
    → Some x ≡ entry_at t.posting n
finds_row n t rows row x num is first told =
    sym (some_head (number_of n t) rows row x is first told) ∙ numbered_first n t.posting num

pub finds_posting_with_moves : (n : ℕ) (t : Tables) (steps : List Row) (x : PostingRow) (moves : List Move)
    → Some x ≡ entry_at t.posting n → steps ≡ map values (cells_of_moves n t)
    → ((ms : List MoveRow) → steps ≡ map values (map move_cells ms) → moves ≡ map recorded_move ms)
    → IsPostingOfNumber n t (Some (record { row = x; moves = moves }))
finds_posting_with_moves n t steps x moves found shown read =
    (sym found, read (filter (λ (m : MoveRow). m.posting == n) t.move) shown)

-- The values of a move determine it.
move_of_values : (x y : MoveRow) → values (move_cells x) ≡ values (move_cells y) → x ≡ y
move_of_values x y e = move_one x y (map_one value_of (λ a b same. sym (value_back a) ∙ ap cell_of_value same
    ∙ value_back b) (move_cells x) (move_cells y) e)

pub same_length : {A : Type 0} (cells : A → List Cell) (xs : List A) (rows : List Row)
    → rows ≡ map values (map cells xs) → length rows ≡ length xs
same_length cells xs rows is = grind (arith, common_steps)

-- The row at a position is that of the element at this position.
pub row_at : {A : Type 0} (cells : A → List Cell) (xs : List A) (rows : List Row) (i : ℕ) (row : Row)
    → rows ≡ map values (map cells xs) → i < length rows → row ≡ get_or rows i row
    → (x : A) × (i < length xs) × (x ≡ get_or xs i x) × (row ≡ values (cells x))
row_at cells [] rows i row is lt at = absurd (let e = ap length is in omega (arith, e, lt))
row_at cells (x ∷ xs) rows zero row is lt at = (x, omega arith, refl, at ∙ ap (λ rs. get_or rs 0 row) is)
row_at cells (x ∷ xs) rows (suc i) row is lt at =
    let e = ap length is in
    let h = row_at cells xs (map values (map cells xs)) i row refl (omega (arith, e, lt))
    (at ∙ ap (λ rs. get_or rs (suc i) row) is) in
    let l = h.1 in
    (h.0, omega (arith, l), h.2, h.3)

-- The moves read so far and the next one are the moves of a prefix longer by one row.
pub one_step : (steps : List MoveRow) (rows : List Row) (i : ℕ) (row : Row) (x : MoveRow) (moves : List Move)
    → rows ≡ map values (map move_cells steps) → i < length rows → row ≡ get_or rows i row
    → row ≡ values (move_cells x) → moves ≡ map recorded_move (take i steps)
    → moves ++ recorded_move x ∷ [] ≡ map recorded_move (take (i + 1) steps)
one_step steps rows i row x moves is lt at told so_far =
    let h = row_at move_cells steps rows i row is lt at in
    let same = move_of_values x h.0 (sym told ∙ h.3) in
    ap (λ l. l ++ recorded_move x ∷ []) so_far ∙ ap (λ y. map recorded_move (take i steps) ++ recorded_move y ∷ []) same
    ∙ sym (ap (map recorded_move) (take_one steps i h.0 h.1 h.2) ∙ map-append recorded_move (take i steps) (h.0 ∷ []))
