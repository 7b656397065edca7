-- The rows at an index's positions that pass a test are the rows of the list that pass it.
use Rattle.std.proofs.lemmas.Grind.{common_steps}
use Rattle.std.proofs.Common.{◌≡◌, ◌⊎◌, ◌+◌, ◌<◌, ◌≤◌, ◌++◌, ◌∙◌, inl, inr, ℕ, zero, suc, List, [], ◌∷◌, length, Bool}
use Rattle.std.proofs.Common.{true, false, cond, Less, take, get_or, refl, sym, ap, subst, arith, append_assoc}
use Rattle.std.proofs.Common.{append-nil, length-append, map}
use Rattle.std.specs.Prelude.{None, Some, slice_get, filter}
use Rattle.std.specs.Ordering.{MatchOrdering, nat_cmp}
use Rattle.std.specs.List.{AllByRecursion, list_any}
use Rattle.std.specs.List.Sorted.{IsStrictlySortedBy}
use Rattle.std.specs.BTreeMap.{is_at}
use Rattle.std.specs.BTreeSet.{BTreeSet}
use Rattle.std.proofs.lemmas.Bool.{cases_eq}
use Rattle.std.proofs.lemmas.Cmp.{ranked}
use Rattle.std.proofs.lemmas.Map.Keys.{sorted_head, sorted_tail}
use Rattle.std.proofs.lemmas.Option.{slice_get_past}
use Rattle.thes_tables.specs.Tables.{IsIn}
use Rattle.std.proofs.lemmas.List.{map-append, take_more}
use Rattle.thes_tables.proofs.MoveRowLemmas.{get_at}
use Rattle.thes_tables.proofs.RowSetLemmas.{in_append}
use Rattle.thes_store.specs.declared.position_sets.PositionSets.{PositionSets}
use Rattle.thes_store.specs.PositionSets.{ArePositions}
use Rattle.thes_store.specs.RowsAtPositions.{filtered_option, rows_at_positions}

pub in_keys : (ks : List ℕ) (position : ℕ) → list_any (is_at (nat_cmp position)) ks ≡ true → IsIn position ks
in_keys [] position h = absurd (cc)
in_keys (k ∷ ks) position h = grind (arith, common_steps, ranked, in_keys ks position)

sorted_none : IsStrictlySortedBy nat_cmp []
unfolding IsStrictlySortedBy
sorted_none = tt

pub some_positions : (index : PositionSets) (n : ℕ) (set : BTreeSet ℕ) (positions : List ℕ) → slice_get index.sets.items
    n
    ≡ Some set → positions ≡ set.keys → IsStrictlySortedBy nat_cmp set.keys → ArePositions index n positions
some_positions index n set positions found same rises = grind (arith, common_steps, in_keys)

pub no_positions : (index : PositionSets) (n : ℕ) (positions : List ℕ) → slice_get index.sets.items n ≡ None → positions
    ≡ []
    → ArePositions index n positions
no_positions index n positions none same = grind (arith, common_steps, sorted_none)

abbrev PositionsAscendFrom : ℕ → List ℕ → Type 0
PositionsAscendFrom least [] = Unit {0}
PositionsAscendFrom least (n ∷ ns) = (least ≤ n) × PositionsAscendFrom (n + 1) ns

all_above_head : (k : ℕ) (ks : List ℕ) → AllByRecursion (λ y. nat_cmp k y ≡ Less) ks → AllByRecursion (λ y. k + 1 ≤ y)
    ks
all_above_head k [] all = tt
all_above_head k (y ∷ ks) all = (
  let m : MatchOrdering Less (k < y) (k ≡ y) (y < k) = ranked k y Less (sym all.0) in
      omega (arith, m),
  all_above_head k ks all.1,
)

rise_of_sorted : (least : ℕ) (ks : List ℕ) → IsStrictlySortedBy nat_cmp ks → AllByRecursion (λ y. least ≤ y) ks
    → PositionsAscendFrom least ks
rise_of_sorted least [] sorted all = tt
rise_of_sorted least (k ∷ ks) sorted all = (
  all.0,
  rise_of_sorted (k + 1) ks (sorted_tail nat_cmp k ks sorted)
      (all_above_head k ks (sorted_head nat_cmp k ks sorted)),
)

all_from_zero : (ks : List ℕ) → AllByRecursion (λ y. 0 ≤ y) ks
all_from_zero [] = tt
all_from_zero (k ∷ ks) = (omega arith, all_from_zero ks)

rising_above : (least bound : ℕ) (ks : List ℕ) (k : ℕ) → PositionsAscendFrom least ks → IsIn k ks → least ≤ k
rising_above least bound [] k r h = absurd h
rising_above least bound (x ∷ ks) k r (inl same) = let a = r.0 in omega (arith, a, same)
rising_above least bound (x ∷ ks) k r (inr later) = let a = r.0 in let b =
    rising_above (x + 1) bound ks k r.1 later in omega (arith, a, b)

pub take_one : {A : Type 0} (xs : List A) (i : ℕ) (x : A) → i < length xs → x ≡ get_or xs i x → take (i + 1) xs
    ≡ take i xs ++ x ∷ []
take_one xs i x lt e = take_more xs i x lt ∙ ap (λ y. take i xs ++ y ∷ []) (sym e)

pub in_take : {A : Type 0} (xs : List A) (i : ℕ) (x y : A) → i < length xs → x ≡ get_or xs i x
    → IsIn y (take (i + 1) xs) → IsIn y (take i xs) ⊎ (y ≡ x)
in_take xs i x y lt e h = elim (in_append y (take i xs) (x ∷ []) (subst (IsIn y) (take_one xs i x lt e) h))
    [ inl old ↦ inl old | inr new ↦ elim new [ inl same ↦ inr same | inr never ↦ absurd never ] ]

pub split_at : {A : Type 0} (xs : List A) (i : ℕ) (x : A) → i < length xs → x ≡ get_or xs i x → (rest : List A)
    × (xs ≡ take i xs ++ x ∷ rest)
split_at [] i x lt e = absurd (omega arith)
split_at (y ∷ xs) zero x lt e = (xs, ap (λ z. z ∷ xs) (sym e))
split_at (y ∷ xs) (suc i) x lt e = let h = split_at xs i x (omega arith) e in (h.0, ap (λ l. y ∷ l) h.1)

module _ {A : Type 0} (p : A → Bool) where
  -- The rows at the positions of two lists in sequence are those of the first list and then those of the second.
  pub picked_append : (rows : List A) (positions more : List ℕ) → rows_at_positions p rows (positions ++ more)
      ≡ rows_at_positions p rows positions ++ rows_at_positions p rows more
  picked_append rows [] more = refl
  picked_append rows (i ∷ positions) more = grind (arith, common_steps, picked_append rows positions more)

  pub picked_cons : (rows : List A) (i : ℕ) (positions : List ℕ) → rows_at_positions p rows (i ∷ positions)
      ≡ filtered_option p (slice_get rows i) ++ rows_at_positions p rows positions
  picked_cons rows i positions = grind (arith, common_steps)

  -- The image of the row at one more position follows the images of the rows at the positions before it.
  pub picked_mapped : {B : Type 0} (f : A → B) (rows : List A) (positions : List ℕ) (i position : ℕ)
      → i < length positions
      → position ≡ get_or positions i position
      → map f (rows_at_positions p rows (take i positions)) ++ map f (filtered_option p (slice_get rows position))
      ≡ map f (rows_at_positions p rows (take (i + 1) positions))
  picked_mapped f rows positions i position lt is =
      grind (arith, common_steps, picked_cons, picked_append, take_one, map-append)

  picked_at : (rows : List A) (i : ℕ) (row : A) (positions : List ℕ) → slice_get rows i ≡ Some row
      → rows_at_positions p rows (i ∷ positions) ≡ cond (p row) (row ∷ rows_at_positions p rows positions)
      (rows_at_positions p rows positions)
  picked_at rows i row positions e = grind (arith, common_steps)

  picked_past : (rows : List A) (positions : List ℕ) (least : ℕ) → length rows ≤ least → PositionsAscendFrom least
      positions
      → rows_at_positions p rows positions ≡ []
  picked_past rows [] least past r = refl
  picked_past rows (i ∷ positions) least past r =
      grind (arith, common_steps, slice_get_past, picked_past rows positions (i + 1))

  -- The positions include those of all rows from position `least` on that pass the test.
  abbrev CoversFrom : ℕ → List A → List ℕ → Type 0
  CoversFrom least rows positions = (i : ℕ) (row : A) → least ≤ i → slice_get rows i ≡ Some row → p row ≡ true
      → IsIn i positions

  -- The induction hypothesis of `picked_from`, with the next row moved into the prefix.
  abbrev Later : List A → A → List A → Type 0
  Later pre x rest = (positions : List ℕ) → PositionsAscendFrom (length (pre ++ x ∷ [])) positions
      → CoversFrom (length (pre ++ x ∷ [])) ((pre ++ x ∷ []) ++ rest) positions
      → rows_at_positions p ((pre ++ x ∷ []) ++ rest) positions ≡ filter p rest

  -- If ascending positions include that of each passing row after a prefix, the passing rows at them are all passing
  -- rows after the prefix, in order.
  picked_from : (pre rest : List A) (positions : List ℕ) → PositionsAscendFrom (length pre) positions
      → CoversFrom (length pre) (pre ++ rest) positions → rows_at_positions p (pre ++ rest) positions ≡ filter p rest
  picked_from pre [] positions r covers = picked_past (pre ++ []) positions (length pre) (let e : length (pre ++ [])
      ≡ length pre = ap length (append-nil pre) in omega (arith, e)) r
  picked_from pre (x ∷ rest) positions r covers = go (λ ps r' c'. picked_from (pre ++ x ∷ []) rest ps r' c') positions r
      covers
    where
      same : (pre ++ x ∷ []) ++ rest ≡ pre ++ x ∷ rest
      same = append_assoc pre (x ∷ []) rest

      longer : length (pre ++ x ∷ []) ≡ length pre + 1
      longer = length-append pre (x ∷ [])

      here : slice_get (pre ++ x ∷ rest) (length pre) ≡ Some x
      here = get_at pre x rest

      next : Later pre x rest → (positions : List ℕ) → PositionsAscendFrom (length pre + 1) positions
          → CoversFrom (length pre + 1) (pre ++ x ∷ rest) positions → rows_at_positions p (pre ++ x ∷ rest) positions
          ≡ filter p rest
      next step positions r covers =
          subst (λ (rows : List A). rows_at_positions p rows positions ≡ filter p rest) same
          (step positions (subst (λ n. PositionsAscendFrom n positions) (sym longer) r)
          (subst (λ (rows : List A). CoversFrom (length (pre ++ x ∷ [])) rows positions) (sym same)
          (subst (λ n. CoversFrom n (pre ++ x ∷ rest) positions) (sym longer) covers)))

      skip : Later pre x rest → (positions : List ℕ) → PositionsAscendFrom (length pre + 1) positions
          → CoversFrom (length pre)
          (pre ++ x ∷ rest) positions → rows_at_positions p (pre ++ x ∷ rest) positions ≡ filter p (x ∷ rest)
      skip step positions r covers =
          miss (p x) refl (next step positions r (λ i row least e passes. covers i row (omega (arith, least)) e passes))
        where
          miss : (b : Bool) → p x ≡ b → rows_at_positions p (pre ++ x ∷ rest) positions ≡ filter p rest
              → rows_at_positions p (pre ++ x ∷ rest) positions ≡ cond b (x ∷ filter p rest) (filter p rest)
          miss true passes e =
              absurd (let l = rising_above (length pre + 1) 0 positions (length pre) r
              (covers (length pre) x (omega arith) here passes) in omega (arith, l))
          miss false fails e = e

      go : Later pre x rest → (positions : List ℕ) → PositionsAscendFrom (length pre) positions → CoversFrom
          (length pre)
          (pre ++ x ∷ rest) positions → rows_at_positions p (pre ++ x ∷ rest) positions ≡ filter p (x ∷ rest)
      go step [] r covers = skip step [] tt covers
      go step (i ∷ positions) r covers = elim (cases_eq i (length pre)) [
        | inl at ↦
            let r' = subst (λ n. PositionsAscendFrom (n + 1) positions) at r.1 in
            let c' : CoversFrom (length pre + 1) (pre ++ x ∷ rest) positions = λ j row least e passes.
            elim (covers j row (omega (arith, least)) e passes) [
              | inl eq ↦ absurd (omega (arith, least, eq, at))
              | inr later ↦ later
            ] in
            picked_at (pre ++ x ∷ rest) i x positions (ap (λ n. slice_get (pre ++ x ∷ rest) n) at ∙ here)
            ∙ ap (λ (l : List A). cond (p x) (x ∷ l) l) (next step positions r' c')
        | inr apart ↦ let a = r.0 in skip step (i ∷ positions) (omega (arith, a, apart), r.1) covers
      ]

  -- If ascending positions include that of each row that passes the test, the passing rows at them are all passing
  -- rows, in order.
  pub picked_all : (rows : List A) (positions : List ℕ) → IsStrictlySortedBy nat_cmp positions
      → ((i : ℕ) (row : A) → slice_get rows i ≡ Some row → p row ≡ true → IsIn i positions)
      → rows_at_positions p rows positions ≡ filter p rows
  picked_all rows positions sorted covers =
      picked_from [] rows positions (rise_of_sorted 0 positions sorted (all_from_zero positions))
      (λ i row least e passes. covers i row e passes)
