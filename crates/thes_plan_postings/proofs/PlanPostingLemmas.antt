-- Proves that the postings that a plan has changed, and the rows of the tables, give the rows after the plan so far.
use Rattle.std.proofs.Common.{◌≡◌, ◌≢◌, ◌⊎◌, ◌<◌, ◌≤◌, ◌+◌, ◌-◌, ◌++◌, ◌∷◌, [], ◌∙◌, ℕ, zero, suc, List}
use Rattle.std.proofs.Common.{length, refl, sym, ap, subst, arith, inl, inr, map}
use Rattle.std.specs.Prelude.{Option, None, Some, slice_get, slice_set, option_map}
use Rattle.std.proofs.lemmas.Option.{same_Some}
use Rattle.thes_base.specs.Resources.{entry_at, set_entry_at}
use Rattle.thes_base.proofs.NumberedLemmas.{numbered_bound, push_cases, push_old}
use Rattle.thes_tables.specs.declared.rows.PostingRow.{PostingRow}
use Rattle.thes_tables.specs.Tables.{IsIn}
use Rattle.thes_store.specs.Reading.{IsPostingOfKey}
use Rattle.thes_plan_postings.specs.declared.plan_postings.Placement.{Placement}
use Rattle.thes_plan_postings.specs.declared.plan_postings.PlanPostings.{PlanPostings}
use Rattle.thes_plan_postings.specs.PlanPostings.{ArePlanRows, IsRowOfNumber, placement_of, row_placed}

module _ {A : Type 0} where
  index_of : (x : A) (xs : List A) → IsIn x xs → (i : ℕ) × (slice_get xs i ≡ Some x)
  index_of x [] has = absurd has
  index_of x (y ∷ xs) (inl same) = (0, ap Some (sym same))
  index_of x (y ∷ xs) (inr later) = let r = index_of x xs later in (suc r.0, r.1)

  -- An element at an index is in the list.
  pub in_at : (x : A) (xs : List A) (i : ℕ) → slice_get xs i ≡ Some x → IsIn x xs
  in_at x [] i at = absurd (cc)
  in_at x (y ∷ xs) zero at = inl (same_Some _ _ (sym at))
  in_at x (y ∷ xs) (suc i) at = inr (in_at x xs i at)

  -- An entry of a list is in it.
  pub in_entry : (x : A) (xs : List A) (n : ℕ) → entry_at xs n ≡ Some x → IsIn x xs
  in_entry x xs zero at = absurd (cc)
  in_entry x xs (suc n) at = in_at x xs n at

  -- Each element of a list is its entry with some number.
  pub entry_of : (x : A) (xs : List A) → IsIn x xs → (n : ℕ) × (entry_at xs n ≡ Some x)
  entry_of x xs has = let r = index_of x xs has in (suc r.0, r.1)

  pub in_left : (x : A) (xs ys : List A) → IsIn x xs → IsIn x (xs ++ ys)
  in_left x [] ys has = absurd has
  in_left x (y ∷ xs) ys (inl same) = inl same
  in_left x (y ∷ xs) ys (inr later) = inr (in_left x xs ys later)

  pub in_right : (x : A) (xs ys : List A) → IsIn x ys → IsIn x (xs ++ ys)
  in_right x [] ys has = has
  in_right x (y ∷ xs) ys has = inr (in_right x xs ys has)

  pub in_both : (x : A) (xs ys : List A) → IsIn x (xs ++ ys) → IsIn x xs ⊎ IsIn x ys
  in_both x [] ys has = inr has
  in_both x (y ∷ xs) ys (inl same) = inl (inl same)
  in_both x (y ∷ xs) ys (inr later) = elim (in_both x xs ys later) [ inl front ↦ inl (inr front) | inr back ↦ inr back ]

  at_left : (xs ys : List A) (i : ℕ) (x : A) → slice_get xs i ≡ Some x → slice_get (xs ++ ys) i ≡ Some x
  at_left [] ys i x at = absurd (cc)
  at_left (y ∷ xs) ys zero x at = at
  at_left (y ∷ xs) ys (suc i) x at = at_left xs ys i x at

  -- The entries of a list keep their numbers when others are appended.
  pub entry_left : (xs ys : List A) (n : ℕ) (x : A) → entry_at xs n ≡ Some x → entry_at (xs ++ ys) n ≡ Some x
  entry_left xs ys zero x at = absurd (cc)
  entry_left xs ys (suc n) x at = at_left xs ys n x at

  at_right : (xs ys : List A) (i : ℕ) (x : A) → slice_get (xs ++ ys) i ≡ Some x → slice_get xs i ≡ None → IsIn x ys
  at_right [] ys i x at none = in_at x ys i at
  at_right (y ∷ xs) ys zero x at none = absurd (cc)
  at_right (y ∷ xs) ys (suc i) x at none = at_right xs ys i x at none

  -- An entry of two joined lists that isn't an entry of the first is in the second.
  pub entry_right : (xs ys : List A) (n : ℕ) (x : A) → entry_at (xs ++ ys) n ≡ Some x → entry_at xs n ≡ None → IsIn x ys
  entry_right xs ys zero x at none = absurd (cc)
  entry_right xs ys (suc n) x at none = at_right xs ys n x at none

  at_within : (xs : List A) (i : ℕ) → i < length xs → (x : A) × (slice_get xs i ≡ Some x)
  at_within [] i h = absurd (omega arith)
  at_within (y ∷ xs) zero h = (y, refl)
  at_within (y ∷ xs) (suc i) h = at_within xs i (omega arith)

  -- A list has an entry with each number up to its length.
  pub entry_within : (xs : List A) (n : ℕ) → 1 ≤ n → n ≤ length xs → (x : A) × (entry_at xs n ≡ Some x)
  entry_within xs zero h l = absurd (omega arith)
  entry_within xs (suc n) h l = at_within xs n (omega arith)

  -- Lists of equal length have entries with the same numbers.
  pub entry_like : {B : Type 0} → (xs : List A) (ys : List B) (n : ℕ) (y : B) → length xs ≡ length ys
      → entry_at ys n ≡ Some y → (x : A) × (entry_at xs n ≡ Some x)
  entry_like xs ys n y same at = let b = numbered_bound ys n y at in
      entry_within xs n b.0 (let l = b.1 in omega arith)

  at_other : (xs : List A) (x : A) (i j : ℕ) → j ≢ i → slice_get (slice_set xs i x) j ≡ slice_get xs j
  at_other [] x i j d = refl
  at_other (z ∷ xs) x zero zero d = absurd (d refl)
  at_other (z ∷ xs) x zero (suc j) d = refl
  at_other (z ∷ xs) x (suc i) zero d = refl
  at_other (z ∷ xs) x (suc i) (suc j) d = at_other xs x i j (omega arith)

  -- Replacing an entry leaves the entries with other numbers unchanged.
  pub entry_other : (xs : List A) (x : A) (n m : ℕ) → 1 ≤ n → m ≢ n
      → entry_at (set_entry_at xs n x) m ≡ entry_at xs m
  entry_other xs x n zero h d = refl
  entry_other xs x zero (suc m) h d = absurd (omega arith)
  entry_other xs x (suc n) (suc m) h d = ap (λ k. slice_get (slice_set xs k x) m) (let q : suc n - 1 ≡ n =
      omega arith in q) ∙ at_other xs x n m (omega arith)

  length_set_at : (xs : List A) (i : ℕ) (x : A) → length (slice_set xs i x) ≡ length xs
  length_set_at [] i x = refl
  length_set_at (z ∷ xs) zero x = refl
  length_set_at (z ∷ xs) (suc i) x = ap suc (length_set_at xs i x)

  pub length_set_entry : (xs : List A) (n : ℕ) (x : A) → length (set_entry_at xs n x) ≡ length xs
  length_set_entry xs n x = length_set_at xs (n - 1) x

  -- Appending an element leaves the entries with other numbers unchanged.
  pub push_other : (xs : List A) (x : A) (n : ℕ) → n ≢ length xs + 1 → entry_at (xs ++ x ∷ []) n ≡ entry_at xs n
  push_other xs x n d = go (entry_at xs n) refl (entry_at (xs ++ x ∷ []) n) refl
    where
      go : (a : Option A) → entry_at xs n ≡ a → (b : Option A) → entry_at (xs ++ x ∷ []) n ≡ b
          → entry_at (xs ++ x ∷ []) n ≡ entry_at xs n
      go (Some y) is b at = push_old xs x y n is ∙ sym is
      go None is None at = at ∙ sym is
      go None is (Some y) at = elim (push_cases xs x y n at) [
        | inl old ↦ absurd (let e : None ≡ Some y = sym is ∙ old in cc)
        | inr new ↦ absurd (d new.0)
      ]

pub numbered_map : {A B : Type 0} (f : A → B) (xs : List A) (n : ℕ) → entry_at (map f xs) n
    ≡ option_map f (entry_at xs n)
numbered_map f xs zero = refl
numbered_map f [] (suc n) = refl
numbered_map f (x ∷ xs) (suc zero) = refl
numbered_map f (x ∷ xs) (suc (suc n)) = numbered_map f xs (suc n)

-- A placement changes neither the number nor the key of a row.
pub number_placed : (o : Option Placement) (row : PostingRow) → (row_placed o row).number ≡ row.number
number_placed None row = refl
number_placed (Some x) row = refl

pub key_placed : (o : Option Placement) (row : PostingRow) → (row_placed o row).key ≡ row.key
key_placed None row = refl
key_placed (Some x) row = refl

-- Of two placements of a row, the last one counts.
pub placed_again : (x : Placement) (o : Option Placement) (row : PostingRow) → row_placed (Some x) (row_placed o row)
    ≡ row_placed (Some x) row
placed_again x None row = refl
placed_again x (Some y) row = refl

module _ (olds rows : List PostingRow) (p : PlanPostings) (are : ArePlanRows olds rows p) where
  abbrev bases : List PostingRow
  bases = olds ++ p.added.items

  -- The row of a posting is its row in the tables or the added one, with its placement, if it has one.
  pub row_at_base : (n : ℕ) (b : PostingRow) → entry_at bases n ≡ Some b → entry_at rows n
      ≡ Some (row_placed (placement_of p n) b)
  row_at_base n b at = go (placement_of p n) refl
    where
      by_tables : placement_of p n ≡ None → (a : Option PostingRow) → entry_at olds n ≡ a → entry_at rows n ≡ Some b
      by_tables none (Some c) is =
          let same : Some c ≡ Some b = sym (entry_left olds p.added.items n c is) ∙ at in
          are.others n none ∙ is ∙ same
      by_tables none None is =
          let r = entry_like rows bases n b are.count at in
          absurd (let e : None ≡ Some r.0 = sym is ∙ sym (are.others n none) ∙ r.1 in cc)

      go : (o : Option Placement) → placement_of p n ≡ o → entry_at rows n ≡ Some (row_placed (placement_of p n) b)
      go None none = by_tables none (entry_at olds n) refl ∙ ap (λ (q : Option Placement). Some (row_placed q b))
          (sym none)
      go (Some x) some =
          let is = are.placed n x some in
          let same : is.row ≡ b = same_Some _ _ (sym is.base ∙ at) in
          is.now ∙ ap (λ (c : PostingRow). Some (row_placed (Some x) c)) same
          ∙ ap (λ (q : Option Placement). Some (row_placed q b)) (sym some)

  -- Each row is made from the row with its number in the tables or among the added ones.
  pub base_of_row : (n : ℕ) (r : PostingRow) → entry_at rows n ≡ Some r → (b : PostingRow)
      × (entry_at bases n ≡ Some b) × (r ≡ row_placed (placement_of p n) b)
  base_of_row n r at =
      let b = entry_like bases rows n r (sym are.count) at in
      (b.0, b.1, same_Some _ _ (sym at ∙ row_at_base n b.0 b.1))

  pub base_numbered : (n : ℕ) (b : PostingRow) → entry_at bases n ≡ Some b → b.number ≡ n
  base_numbered n b at = sym (number_placed (placement_of p n) b) ∙ are.numbered n _ (row_at_base n b at)

  pub row_is : (n : ℕ) (found : Option PostingRow) → found ≡ entry_at bases n
      → option_map (row_placed (placement_of p n)) found ≡ entry_at rows n
  row_is n (Some b) is = sym (row_at_base n b (sym is))
  row_is n None is = none (entry_at rows n) refl
    where
      none : (o : Option PostingRow) → entry_at rows n ≡ o → None ≡ entry_at rows n
      none None e = sym e
      none (Some r) e = let b = base_of_row n r e in absurd (let q : None ≡ Some b.0 = is ∙ b.1 in cc)

  -- A row of the tables is found by its number.
  pub base_in_tables : (n : ℕ) (b : PostingRow) (found : Option PostingRow) → found ≡ Some b → found ≡ entry_at olds n
      → Some b ≡ entry_at bases n
  base_in_tables n b found is at = sym (entry_left olds p.added.items n b (sym at ∙ is))

  -- A posting that the tables don't have is an added one, or none has the number.
  pub base_added : (n : ℕ) (found : Option PostingRow) → entry_at olds n ≡ None
      → IsRowOfNumber n p.added.items found → found ≡ entry_at bases n
  base_added n (Some b) none is =
      let r = entry_of b bases (in_right b olds p.added.items is.0) in
      let same : r.0 ≡ n = sym (base_numbered r.0 b r.1) ∙ is.1 in
      sym (subst (λ m. entry_at bases m ≡ Some b) same r.1)
  base_added n None none is = go (entry_at bases n) refl
    where
      go : (o : Option PostingRow) → entry_at bases n ≡ o → None ≡ entry_at bases n
      go None e = sym e
      go (Some b) e = absurd (is b (entry_right olds p.added.items n b e none) (base_numbered n b e))

  -- The row with a key is that of the tables or the added one, with its placement, if it has one.
  pub row_of_key_is : (key : List ℕ) (b : PostingRow) → IsPostingOfKey key bases (Some b)
      → IsPostingOfKey key rows (Some (row_placed (placement_of p b.number) b))
  row_of_key_is key b is =
      let r = entry_of b bases is.0 in
      let same : b.number ≡ r.0 = base_numbered r.0 b r.1 in
      let here = row_at_base r.0 b r.1 in (
        in_entry _ rows r.0 (here ∙ ap (λ m. Some (row_placed (placement_of p m) b)) (sym same)),
        key_placed (placement_of p b.number) b ∙ is.1,
      )

  pub no_row_of_key : (key : List ℕ) → IsPostingOfKey key bases None → IsPostingOfKey key rows None
  no_row_of_key key none row has same =
      let r = entry_of row rows has in
      let b = base_of_row r.0 row r.1 in
      none b.0 (in_entry b.0 bases r.0 b.1)
      (sym (key_placed (placement_of p r.0) b.0) ∙ ap (λ (x : PostingRow). x.key) (sym b.2) ∙ same)

-- A posting with a key that the tables have is also the one with that key when more rows follow.
pub key_in_tables : (key : List ℕ) (olds more : List PostingRow) (found : Option PostingRow) (b : PostingRow)
    → found ≡ Some b → IsPostingOfKey key olds found → IsPostingOfKey key (olds ++ more) (Some b)
key_in_tables key olds more found b some is =
    let here : IsPostingOfKey key olds (Some b) = subst (IsPostingOfKey key olds) some is in
    (in_left b olds more here.0, here.1)

-- If the tables have no posting with a key, the added rows decide which posting has it.
pub key_added : (key : List ℕ) (olds more : List PostingRow) (found : Option PostingRow)
    → IsPostingOfKey key olds None → IsPostingOfKey key more found → IsPostingOfKey key (olds ++ more) found
key_added key olds more (Some b) none is = (in_right b olds more is.0, is.1)
key_added key olds more None none is = λ row has. elim (in_both row olds more has) [
  | inl front ↦ none row front
  | inr back ↦ is row back
]
