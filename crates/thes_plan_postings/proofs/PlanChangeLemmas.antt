-- Proves that recording a change of rows leads to the rows after the change.
use Rattle.std.proofs.lemmas.Grind.{common_steps}
use Rattle.std.proofs.Common.{◌≡◌, ◌≢◌, ◌⊎◌, ◌<◌, ◌≤◌, ◌+◌, ◌++◌, ◌∷◌, [], ◌∙◌, ◌&&◌, ℕ, zero, suc, List, length, refl}
use Rattle.std.proofs.Common.{sym, ap, subst, arith, inl, inr, Bool, true, false, cond, not, map, append_assoc}
use Rattle.std.proofs.Common.{length-append, eqb, get_or, take, Contains}
use Rattle.std.proofs.Common.{◌||◌}
use Rattle.std.specs.Prelude.{Option, None, Some, option_map, nat_eq, Result, Ok, Err, OnOk}
use Rattle.thes_base.specs.declared.fault.Fault.{Fault}
use Rattle.std.specs.declared.cmp.Ordering.{Ordering}
use Rattle.std.specs.declared.cmp.Ordering.TheVariants.{Equal}
use Rattle.std.specs.BTreeMap as tree
use Rattle.std.specs.BTreeMap.{is_at}
use Rattle.std.specs.BTreeSet as sorted
use Rattle.std.specs.BTreeSet.{BTreeSet}
use Rattle.std.specs.Cmp.{nat_cmp_is}
use Rattle.std.specs.List.{list_any}
use Rattle.std.specs.List.Sorted.{IsStrictlySortedBy}
use Rattle.std.specs.Ordering.{is_eq, nat_cmp}
use Rattle.std.proofs.lemmas.Cmp.{nat_cmp_total}
use Rattle.std.proofs.lemmas.List.Folds.{list_any_more}
use Rattle.std.proofs.lemmas.Map.Lookups.{exact_unsigned}
use Rattle.std.proofs.lemmas.Map.Views.{btree_set_contains_iff}
use Rattle.std.proofs.lemmas.Bool.{both_ways}
use Rattle.std.proofs.lemmas.Bool.Decides.{eqb_tells}
use Rattle.std.proofs.lemmas.List.{take_more, take_all}
use Rattle.std.proofs.lemmas.Option.{same_Some, slice_get_read}
use Rattle.thes_base.specs.Resources.{entry_at, set_entry_at}
use Rattle.thes_base.proofs.NumberedLemmas.{numbered_bound, push_cases, push_new, set_same}
use Rattle.thes_tables.specs.declared.change.Change.{Change}
use Rattle.thes_tables.specs.declared.change.Change.TheVariants as change
use Rattle.thes_tables.specs.declared.rows.PostingRow.{PostingRow}
use Rattle.thes_tables.specs.Rows.{ChangeFits, DeltaFits, row_after_move_all, row_at_place, tables_after_change}
use Rattle.thes_tables.specs.Rows.{tables_after_delta, with_posting}
use Rattle.thes_tables.specs.Tables.{IsIn, Tables, is_assigned_row}
use Rattle.thes_tables.proofs.DeltaAppendLemmas.{all_append}
use Rattle.thes_store.specs.Reading.{assigned_row_numbers}
use Rattle.thes_plan_postings.specs.declared.plan_postings.Placement.{Placement}
use Rattle.thes_plan_postings.specs.declared.plan_postings.PlanPostings.{PlanPostings}
use Rattle.thes_plan_postings.specs.PlanPostings.{AddsPosting, AreAssigned, AreNumbered, ArePlanRows, HasPlacement, PlacesAll}
use Rattle.thes_plan_postings.specs.PlanPostings.{has_number, is_assigned_by, is_assigned_candidate, placement_of, row_placed}
use Rattle.thes_plan_postings.proofs.PlanAssignedLemmas.{assigned_has, assigned_of, number_found, number_has}
use Rattle.thes_plan_postings.proofs.PlanPostingLemmas.{base_of_row, entry_left, entry_other, length_set_entry}
use Rattle.thes_plan_postings.proofs.PlanPostingLemmas.{in_at, in_both, numbered_map, placed_again, push_other}

-- Of the new rows, those of the listed postings have this placement, and the others are unchanged.
pub record AreRowsPlaced (rows rows' : List PostingRow) (numbers : List ℕ) (x : Placement) : Type 0 where
  pub count : length rows' ≡ length rows
  pub hit : (n : ℕ) → has_number numbers n ≡ true → (r : PostingRow) × (entry_at rows n ≡ Some r)
      × (entry_at rows' n ≡ Some (row_placed (Some x) r))
  pub miss : (n : ℕ) → has_number numbers n ≡ false → entry_at rows' n ≡ entry_at rows n

-- Assumes that this placement was recorded for each posting of a list.
module _ (olds rows rows' : List PostingRow) (old new : PlanPostings) (numbers : List ℕ) (x : Placement)
    (are : ArePlanRows olds rows old) (places : PlacesAll old new numbers x)
    (placed_rows : AreRowsPlaced rows rows' numbers x) where
  bases_same : olds ++ new.added.items ≡ olds ++ old.added.items
  bases_same = ap (λ (l : List PostingRow). olds ++ l) places.added

  placement_hit : (n : ℕ) → has_number numbers n ≡ true → placement_of new n ≡ Some x
  placement_hit n hit = places.placements n ∙ ap (λ b. cond b (Some x) (placement_of old n)) hit

  placement_miss : (n : ℕ) → has_number numbers n ≡ false → placement_of new n ≡ placement_of old n
  placement_miss n miss = places.placements n ∙ ap (λ b. cond b (Some x) (placement_of old n)) miss

  numbered_after : AreNumbered rows'
  numbered_after n r at = go (has_number numbers n) refl
    where
      go : (b : Bool) → has_number numbers n ≡ b → r.number ≡ n
      go true hit =
          let h = placed_rows.hit n hit in
          ap (λ (y : PostingRow). y.number) (same_Some _ _ (sym at ∙ h.2)) ∙ are.numbered n h.0 h.1
      go false miss = are.numbered n r (sym (placed_rows.miss n miss) ∙ at)

  others_after : (n : ℕ) → placement_of new n ≡ None → entry_at rows' n ≡ entry_at olds n
  others_after n none = go (has_number numbers n) refl
    where
      go : (b : Bool) → has_number numbers n ≡ b → entry_at rows' n ≡ entry_at olds n
      go true hit = absurd (let e : Some x ≡ None = sym (placement_hit n hit) ∙ none in cc)
      go false miss = placed_rows.miss n miss ∙ are.others n (sym (placement_miss n miss) ∙ none)

  placed_after : (n : ℕ) (y : Placement) → placement_of new n ≡ Some y
      → HasPlacement (olds ++ new.added.items) rows' n y
  placed_after n y some = subst (λ (bs : List PostingRow). HasPlacement bs rows' n y) (sym bases_same)
      (go (has_number numbers n) refl)
    where
      go : (b : Bool) → has_number numbers n ≡ b → HasPlacement (olds ++ old.added.items) rows' n y
      go true hit =
          let h = placed_rows.hit n hit in
          let b = base_of_row olds rows old are n h.0 h.1 in
          let same : x ≡ y = same_Some _ _ (sym (placement_hit n hit) ∙ some) in record {
            row = b.0;
            base = b.1;
            now = h.2 ∙ ap (λ (r : PostingRow). Some (row_placed (Some x) r)) b.2
                ∙ ap (λ (r : PostingRow). Some r) (placed_again x (placement_of old n) b.0)
                ∙ ap (λ (z : Placement). Some (row_placed (Some z) b.0)) same;
          }
      go false miss =
          let is = are.placed n y (sym (placement_miss n miss) ∙ some) in
          record { row = is.row; base = is.base; now = placed_rows.miss n miss ∙ is.now }

  pub rows_placed : ArePlanRows olds rows' new
  rows_placed = record {
    count = placed_rows.count ∙ are.count ∙ ap (λ (l : List PostingRow). length l) (sym bases_same);
    numbered = numbered_after;
    others = others_after;
    placed = placed_after;
  }

-- A key of a map is equal to a number exactly if the list of that key alone has the number.
pub key_test : (k n : ℕ) → is_at (nat_cmp k) n ≡ has_number (k ∷ []) n
key_test k n = elim (eqb_tells n k) [
  | inl hit_it ↦
      let hit : is_at (nat_cmp k) n ≡ true = at_hit k n hit_it.1 in
      hit ∙ sym (ap (λ b. b || false) hit_it.0)
  | inr miss_it ↦
      let miss : is_at (nat_cmp k) n ≡ false = at_miss k n miss_it.1 in
      miss ∙ sym (ap (λ b. b || false) miss_it.0)
]
  where
    at_hit : (k n : ℕ) → n ≡ k → is_at (nat_cmp k) n ≡ true
    at_hit k n same = ap (λ (o : Ordering). is_eq o) (sym (nat_cmp_is k n Equal (sym same)))

    at_miss : (k n : ℕ) → (n ≡ k → ⊥) → is_at (nat_cmp k) n ≡ false
    at_miss k n other = go (is_at (nat_cmp k) n) refl
      where
        go : (b : Bool) → is_at (nat_cmp k) n ≡ b → is_at (nat_cmp k) n ≡ false
        go true e = absurd (other (let same : k ≡ n = grind (arith, common_steps, exact_unsigned) in sym same))
        go false e = e

one_number : (m n : ℕ) → has_number (m ∷ []) n ≡ true → n ≡ m
one_number m n e = elim (eqb_tells n m) [
  | inl hit_it ↦ hit_it.1
  | inr miss_it ↦ absurd (let f : false ≡ true = sym (ap (λ b. b || false) miss_it.0) ∙ e in cc)
]

not_number : (m n : ℕ) → has_number (m ∷ []) n ≡ false → n ≢ m
not_number m n e same = absurd (both_ways (has_number (m ∷ []) n) e (number_has (m ∷ []) n (0, omega arith, sym same)))

number_more : (numbers : List ℕ) (i x n : ℕ) → i < length numbers → x ≡ get_or numbers i x
    → has_number (take (i + 1) numbers) n ≡ (has_number (take i numbers) n || nat_eq n x)
number_more numbers i x n within is = list_any_more (nat_eq n) numbers i x within
    ∙ ap (λ y. has_number (take i numbers) n || nat_eq n y) (sym is)

-- If a placement is recorded for the first `i` postings of a list, and then for the next one, it is recorded for the
-- first `i + 1`.
pub places_more : (old mid new : PlanPostings) (numbers : List ℕ) (i k : ℕ) (x : Placement) → i < length numbers
    → k ≡ get_or numbers i k → PlacesAll old mid (take i numbers) x
    → ((n : ℕ) → placement_of new n ≡ cond (is_at (nat_cmp k) n) (Some x) (placement_of mid n))
    → new.added.items ≡ mid.added.items → PlacesAll old new (take (i + 1) numbers) x
places_more old mid new numbers i k x within is places step same = record {
  placements = λ n. step n ∙ ap (λ b. cond b (Some x) (placement_of mid n)) (key_test k n) ∙ choose n
      ∙ ap (λ b. cond b (Some x) (placement_of old n)) (sym (number_more numbers i k n within is));
  added = same ∙ places.added;
}
  where
    choose : (n : ℕ) → cond (has_number (k ∷ []) n) (Some x) (placement_of mid n)
        ≡ cond (has_number (take i numbers) n || nat_eq n k) (Some x) (placement_of old n)
    choose n = ap (λ o. cond (has_number (k ∷ []) n) (Some x) o) (places.placements n)
        ∙ go (has_number (take i numbers) n) (nat_eq n k)
      where
        go : (a b : Bool) → cond (b || false) (Some x) (cond a (Some x) (placement_of old n))
            ≡ cond (a || b) (Some x) (placement_of old n)
        go true true = refl
        go true false = refl
        go false true = refl
        go false false = refl

pub places_none : (p : PlanPostings) (numbers : List ℕ) (x : Placement) → PlacesAll p p (take 0 numbers) x
places_none p numbers x = record { placements = λ n. refl; added = refl }

pub places_all : (old new : PlanPostings) (numbers : List ℕ) (i : ℕ) (x : Placement) → length numbers ≤ i
    → PlacesAll old new (take i numbers) x → PlacesAll old new numbers x
places_all old new numbers i x past places = subst (λ (ns : List ℕ). PlacesAll old new ns x) (take_all i numbers past)
    places

-- Appending a copy of the row and recording its placement records that the plan adds the posting.
pub adds_posting : (old new : PlanPostings) (row copy : PostingRow) (x : Placement) → copy ≡ row
    → new.added.items ≡ old.added.items ++ copy ∷ []
    → ((n : ℕ) → placement_of new n ≡ cond (is_at (nat_cmp row.number) n) (Some x) (placement_of old n))
    → x ≡ record { place = row.place; withdrawn = row.withdrawn } → AddsPosting old new row
adds_posting old new row copy x is pushed step own = record {
  placements = λ n. step n ∙ ap (λ b. cond b (Some x) (placement_of old n)) (key_test row.number n)
      ∙ ap (λ (y : Placement). cond (has_number (row.number ∷ []) n) (Some y) (placement_of old n)) own;
  added = pushed ∙ ap (λ (r : PostingRow). old.added.items ++ r ∷ []) is;
}

-- Assumes a set of numbers into which the assigned candidates are inserted, one after another.
module _ (p : PlanPostings) (candidates : List ℕ) (concept : ℕ) (by_tables : Bool) (before : ℕ → Bool) where
  -- The set has the numbers that it had before, and those of the first `i` candidates that are assigned.
  abbrev pub IsInsertedTo : ℕ → (ℕ → Bool) → Type 0
  IsInsertedTo i now = (n : ℕ) → now n
      ≡ (before n || is_assigned_candidate p (take i candidates) concept by_tables n)

  or_true : (a b : Bool) → (a || ((b || true) && true)) ≡ true
  or_true true true = refl
  or_true true false = refl
  or_true false true = refl
  or_true false false = refl

  or_false : (b : Bool) → (b || false) ≡ b
  or_false true = refl
  or_false false = refl

  and_false : (a b : Bool) → (a && false) ≡ (b && false)
  and_false true true = refl
  and_false true false = refl
  and_false false true = refl
  and_false false false = refl

  -- Whether the posting with the number is assigned to the concept after the plan's changes so far.
  abbrev stands_now : ℕ → Bool
  stands_now n = is_assigned_by concept by_tables (placement_of p n)

  more : (i x n : ℕ) → i < length candidates → x ≡ get_or candidates i x
      → is_assigned_candidate p (take (i + 1) candidates) concept by_tables n
      ≡ ((has_number (take i candidates) n || nat_eq n x) && stands_now n)
  more i x n within is = ap (λ b. b && stands_now n) (number_more candidates i x n within is)

  -- If the next candidate is assigned and was inserted, the set has the assigned ones up to that one.
  pub candidate_inserted : (i x : ℕ) (now next : ℕ → Bool) → i < length candidates → x ≡ get_or candidates i x
      → is_assigned_by concept by_tables (placement_of p x) ≡ true
      → ((n : ℕ) → next n ≡ cond (is_at (nat_cmp x) n) true (now n)) → IsInsertedTo i now → IsInsertedTo (i + 1) next
  candidate_inserted i x now next within is assigned step so_far n = elim (eqb_tells n x) [
    | inl hit_it ↦
        let stands : stands_now n ≡ true = ap stands_now hit_it.1 ∙ assigned in
        let hit : is_at (nat_cmp x) n ≡ true = key_test x n ∙ ap (λ b. b || false) hit_it.0 in
        step n ∙ ap (λ b. cond b true (now n)) hit ∙ sym (or_true (before n) (has_number (take i candidates) n))
        ∙ sym (ap (λ b. before n || b) (more i x n within is
        ∙ (λ j. (has_number (take i candidates) n || hit_it.0 j) && stands j)))
    | inr miss_it ↦
        let miss : is_at (nat_cmp x) n ≡ false = key_test x n ∙ ap (λ b. b || false) miss_it.0 in
        step n ∙ ap (λ b. cond b true (now n)) miss ∙ so_far n ∙ sym (ap (λ b. before n || b) (more i x n within is
        ∙ ap (λ b. (has_number (take i candidates) n || b) && stands_now n) miss_it.0
        ∙ ap (λ b. b && stands_now n) (or_false (has_number (take i candidates) n))))
  ]

  -- If the next candidate isn't assigned, the unchanged set has the assigned ones up to that one.
  pub candidate_left : (i x : ℕ) (now next : ℕ → Bool) → i < length candidates → x ≡ get_or candidates i x
      → is_assigned_by concept by_tables (placement_of p x) ≡ false → ((n : ℕ) → next n ≡ now n)
      → IsInsertedTo i now → IsInsertedTo (i + 1) next
  candidate_left i x now next within is elsewhere step so_far n = elim (eqb_tells n x) [
    | inl hit_it ↦
        let apart : stands_now n ≡ false = ap stands_now hit_it.1 ∙ elsewhere in
        step n ∙ so_far n ∙ ap (λ b. before n || b) (ap (λ b. has_number (take i candidates) n && b) apart
        ∙ and_false (has_number (take i candidates) n) (has_number (take i candidates) n || nat_eq n x)
        ∙ ap (λ b. (has_number (take i candidates) n || nat_eq n x) && b) (sym apart)
        ∙ sym (more i x n within is))
    | inr miss_it ↦
        step n ∙ so_far n ∙ sym (ap (λ b. before n || b) (more i x n within is
        ∙ ap (λ b. (has_number (take i candidates) n || b) && stands_now n) miss_it.0
        ∙ ap (λ b. b && stands_now n) (or_false (has_number (take i candidates) n))))
  ]

-- The collected numbers are those of the postings assigned to the concept after the plan's changes so far.
pub assigned_collected : (p : PlanPostings) (concept : ℕ) (standing changed numbers : List ℕ)
    (empty first last : BTreeSet ℕ) → empty.keys ≡ [] → changed ≡ tree.keys p.placements
    → ((n : ℕ) → sorted.contains nat_cmp first n ≡ (sorted.contains nat_cmp empty n
    || is_assigned_candidate p standing concept true n))
    → ((n : ℕ) → sorted.contains nat_cmp last n ≡ (sorted.contains nat_cmp first n
    || is_assigned_candidate p changed concept false n))
    → numbers ≡ last.keys → IsStrictlySortedBy nat_cmp last.keys → AreAssigned p concept standing numbers
assigned_collected p concept standing changed numbers empty first last none is one two collected rises = record {
  rises = subst (IsStrictlySortedBy nat_cmp) (sym collected) rises;
  has = λ n. let iff = btree_set_contains_iff nat_cmp_total exact_unsigned last n in (
    (λ has. sym (both n) ∙ iff.1 (subst (λ (ns : List ℕ). Contains ns n) collected has)),
    λ e. subst (λ (ns : List ℕ). Contains ns n) (sym collected) (iff.0 (both n ∙ e)),
  );
}
  where
    both : (n : ℕ) → sorted.contains nat_cmp last n ≡ (is_assigned_candidate p standing concept true n
        || is_assigned_candidate p (tree.keys p.placements) concept false n)
    both n = two n ∙ (λ j. (one n ∙ ap (λ (ks : List ℕ). list_any (is_at (nat_cmp n)) ks
        || is_assigned_candidate p standing concept true n) none) j || is_assigned_candidate p (is j) concept false n)

with_posting_some : (f : PostingRow → PostingRow) (n : ℕ) (rows : List PostingRow) (r : PostingRow)
    → entry_at rows n ≡ Some r → with_posting f n rows ≡ set_entry_at rows n (f r)
with_posting_some f n rows r at =
    ap (λ (o : Option PostingRow). elim o [ None ↦ rows | Some row ↦ set_entry_at rows n (f row) ]) at

with_posting_none : (f : PostingRow → PostingRow) (n : ℕ) (rows : List PostingRow) → entry_at rows n ≡ None
    → with_posting f n rows ≡ rows
with_posting_none f n rows at =
    ap (λ (o : Option PostingRow). elim o [ None ↦ rows | Some row ↦ set_entry_at rows n (f row) ]) at

-- Recording a placement for one posting changes exactly the row of that posting.
pub one_placed : (olds rows : List PostingRow) (old new : PlanPostings) (n : ℕ) (x : Placement) (r : PostingRow)
    (found : Option PostingRow) (f : PostingRow → PostingRow) → ArePlanRows olds rows old
    → PlacesAll old new (n ∷ []) x → found ≡ Some r → found ≡ entry_at rows n → f r ≡ row_placed (Some x) r
    → ArePlanRows olds (with_posting f n rows) new
one_placed olds rows old new n x r found f are places some is made =
    subst (λ (l : List PostingRow). ArePlanRows olds l new) (sym (with_posting_some f n rows r at))
    (rows_placed olds rows (set_entry_at rows n (f r)) old new (n ∷ []) x are places record {
      count = length_set_entry rows n (f r);
      hit = λ m hit. let same = one_number n m hit in
          subst (λ k. (y : PostingRow) × (entry_at rows k ≡ Some y)
          × (entry_at (set_entry_at rows n (f r)) k ≡ Some (row_placed (Some x) y))) (sym same)
          (r, at, set_same rows (f r) r n at ∙ ap (λ (y : PostingRow). Some y) made);
      miss = λ m miss. entry_other rows (f r) n m (numbered_bound rows n r at).0 (not_number n m miss);
    })
  where
    at : entry_at rows n ≡ Some r
    at = sym is ∙ some

-- A change of a posting that doesn't exist changes nothing.
pub none_placed : (olds rows : List PostingRow) (p : PlanPostings) (n : ℕ) (found : Option PostingRow)
    (f : PostingRow → PostingRow) → ArePlanRows olds rows p → found ≡ None → found ≡ entry_at rows n
    → ArePlanRows olds (with_posting f n rows) p
none_placed olds rows p n found f are none is =
    subst (λ (l : List PostingRow). ArePlanRows olds l p) (sym (with_posting_none f n rows (sym is ∙ none))) are

-- Assumes the numbers of all postings assigned to the source, for which the target is recorded as the place.
module _ (olds rows : List PostingRow) (old new : PlanPostings) (source target : ℕ) (numbers : List ℕ)
    (are : ArePlanRows olds rows old) (is : numbers ≡ assigned_row_numbers source rows) where
  abbrev placement : Placement
  placement = record { place = target; withdrawn = false }

  moved : List PostingRow
  moved = map (row_after_move_all source target) rows

  stands : (r : PostingRow) → is_assigned_row source r ≡ true → r.withdrawn ≡ false
  stands r e = go r.withdrawn refl
    where
      go : (b : Bool) → r.withdrawn ≡ b → b ≡ false
      go true w = absurd (let f : false ≡ true = ap (λ b. not b && eqb r.place source) (sym w) ∙ e in cc)
      go false w = refl

  row_hit : (r : PostingRow) → is_assigned_row source r ≡ true → row_after_move_all source target r
      ≡ row_placed (Some placement) r
  row_hit r e = ap (λ b. cond b (row_at_place target r) r) e
      ∙ ap (λ (w : Bool). record r { place = target; withdrawn = w }) (stands r e)

  row_miss : (r : PostingRow) → is_assigned_row source r ≡ false → row_after_move_all source target r ≡ r
  row_miss r e = ap (λ b. cond b (row_at_place target r) r) e

  all_hit : (n : ℕ) → has_number numbers n ≡ true → (r : PostingRow) × (entry_at rows n ≡ Some r)
      × (entry_at moved n ≡ Some (row_placed (Some placement) r))
  unfolding moved
  all_hit n hit =
      let r = assigned_has rows are.numbered source n (subst (λ (ns : List ℕ). Contains ns n) is
      (number_found numbers n hit)) in (
        r.0,
        r.1,
        numbered_map (row_after_move_all source target) rows n
            ∙ ap (option_map (row_after_move_all source target)) r.1
            ∙ ap (λ (y : PostingRow). Some y) (row_hit r.0 r.2),
      )

  all_miss : (n : ℕ) → has_number numbers n ≡ false → entry_at moved n ≡ entry_at rows n
  unfolding moved
  all_miss n miss = numbered_map (row_after_move_all source target) rows n ∙ go (entry_at rows n) refl
    where
      go : (o : Option PostingRow) → entry_at rows n ≡ o → option_map (row_after_move_all source target)
          (entry_at rows n) ≡ entry_at rows n
      go None at = ap (option_map (row_after_move_all source target)) at ∙ sym at
      go (Some r) at = test (is_assigned_row source r) refl
        where
          test : (b : Bool) → is_assigned_row source r ≡ b → option_map (row_after_move_all source target)
              (entry_at rows n) ≡ entry_at rows n
          test true e = absurd (both_ways (has_number numbers n) miss (number_has numbers n
              (subst (λ (ns : List ℕ). Contains ns n) (sym is) (assigned_of rows are.numbered source n r at e))))
          test false e = ap (option_map (row_after_move_all source target)) at
              ∙ ap (λ (y : PostingRow). Some y) (row_miss r e) ∙ sym at

  moved_count : (f : PostingRow → PostingRow) (xs : List PostingRow) → length (map f xs) ≡ length xs
  moved_count f [] = refl
  moved_count f (y ∷ ys) = ap suc (moved_count f ys)

  pub all_moved : PlacesAll old new numbers placement
      → ArePlanRows olds (map (row_after_move_all source target) rows) new
  unfolding moved
  all_moved places = rows_placed olds rows moved old new numbers placement are places record {
    count = moved_count (row_after_move_all source target) rows;
    hit = all_hit;
    miss = all_miss;
  }

-- Assumes that a posting is added, with the next number.
module _ (olds rows : List PostingRow) (old new : PlanPostings) (row : PostingRow) (are : ArePlanRows olds rows old)
    (adds : AddsPosting old new row) (next : row.number ≡ length rows + 1) where
  abbrev own : Placement
  own = record { place = row.place; withdrawn = row.withdrawn }

  bases_more : olds ++ new.added.items ≡ (olds ++ old.added.items) ++ row ∷ []
  bases_more = ap (λ (l : List PostingRow). olds ++ l) adds.added ∙ sym (append_assoc olds old.added.items (row ∷ []))

  own_hit : (n : ℕ) → has_number (row.number ∷ []) n ≡ true → placement_of new n ≡ Some own
  own_hit n hit = adds.placements n ∙ ap (λ b. cond b (Some own) (placement_of old n)) hit

  own_miss : (n : ℕ) → has_number (row.number ∷ []) n ≡ false → placement_of new n ≡ placement_of old n
  own_miss n miss = adds.placements n ∙ ap (λ b. cond b (Some own) (placement_of old n)) miss

  others_then : (n : ℕ) → placement_of new n ≡ None → entry_at (rows ++ row ∷ []) n ≡ entry_at olds n
  others_then n none = go (has_number (row.number ∷ []) n) refl
    where
      go : (b : Bool) → has_number (row.number ∷ []) n ≡ b → entry_at (rows ++ row ∷ []) n ≡ entry_at olds n
      go true hit = absurd (let e : Some own ≡ None = sym (own_hit n hit) ∙ none in cc)
      go false miss =
          push_other rows row n (λ same. not_number row.number n miss (same ∙ sym next))
          ∙ are.others n (sym (own_miss n miss) ∙ none)

  placed_then : (n : ℕ) (y : Placement) → placement_of new n ≡ Some y
      → HasPlacement (olds ++ new.added.items) (rows ++ row ∷ []) n y
  placed_then n y some = subst (λ (bs : List PostingRow). HasPlacement bs (rows ++ row ∷ []) n y) (sym bases_more)
      (go (has_number (row.number ∷ []) n) refl)
    where
      go : (b : Bool) → has_number (row.number ∷ []) n ≡ b
          → HasPlacement ((olds ++ old.added.items) ++ row ∷ []) (rows ++ row ∷ []) n y
      go true hit =
          let n_is : n ≡ length rows + 1 = one_number row.number n hit ∙ next in
          let b_is : n ≡ length (olds ++ old.added.items) + 1 = n_is ∙ ap (λ k. k + 1) are.count in
          let same : own ≡ y = same_Some _ _ (sym (own_hit n hit) ∙ some) in record {
            row = row;
            base = subst (λ k. entry_at ((olds ++ old.added.items) ++ row ∷ []) k ≡ Some row) (sym b_is)
                (push_new (olds ++ old.added.items) row);
            now = subst (λ k. entry_at (rows ++ row ∷ []) k ≡ Some row) (sym n_is) (push_new rows row)
                ∙ ap (λ (z : Placement). Some (row_placed (Some z) row)) same;
          }
      go false miss =
          let is = are.placed n y (sym (own_miss n miss) ∙ some) in record {
            row = is.row;
            base = entry_left (olds ++ old.added.items) (row ∷ []) n is.row is.base;
            now = entry_left rows (row ∷ []) n _ is.now;
          }

  numbered_then : AreNumbered (rows ++ row ∷ [])
  numbered_then n r at = elim (push_cases rows row r n at) [
    | inl before ↦ are.numbered n r before
    | inr last ↦ ap (λ (y : PostingRow). y.number) last.1 ∙ next ∙ sym last.0
  ]

  pub row_added : ArePlanRows olds (rows ++ row ∷ []) new
  row_added = record {
    count = length-append rows (row ∷ []) ∙ ap (λ k. k + 1) are.count
        ∙ sym (length-append (olds ++ old.added.items) (row ∷ []))
        ∙ ap (λ (l : List PostingRow). length l) (sym bases_more);
    numbered = numbered_then;
    others = others_then;
    placed = placed_then;
  }

-- A plan that has added and placed no posting leaves the rows unchanged.
pub rows_unchanged : (rows : List PostingRow) (p : PlanPostings) → AreNumbered rows
    → ((n : ℕ) → placement_of p n ≡ None) → p.added.items ≡ [] → ArePlanRows rows rows p
rows_unchanged rows p numbered none empty = record {
  count = ap (λ (l : List PostingRow). length l) (same rows) ∙ ap (λ (l : List PostingRow). length (rows ++ l))
      (sym empty);
  numbered = numbered;
  others = λ n is. refl;
  placed = λ n x some. absurd (let e : None ≡ Some x = sym (none n) ∙ some in cc);
}
  where
    same : (xs : List PostingRow) → xs ≡ xs ++ []
    same [] = refl
    same (y ∷ ys) = ap (λ (l : List PostingRow). y ∷ l) (same ys)

-- A change other than AddPosting, Withdraw, SetPlace and MoveAll leaves table posting unchanged.
pub other_change : (c : Change) (t : Tables) → ((row : PostingRow) → c ≡ change.AddPosting row → ⊥)
    → ((n : ℕ) → c ≡ change.Withdraw n → ⊥) → ((n place : ℕ) → c ≡ change.SetPlace n place → ⊥)
    → ((source target : ℕ) → c ≡ change.MoveAll source target → ⊥) → (tables_after_change c t).posting ≡ t.posting
other_change (change.AddPosting row) t add withdraw place move = absurd (add row refl)
other_change (change.Withdraw n) t add withdraw place move = absurd (withdraw n refl)
other_change (change.SetPlace n at) t add withdraw place move = absurd (place n at refl)
other_change (change.MoveAll source target) t add withdraw place move = absurd (move source target refl)
other_change _ t add withdraw place move = refl

-- If a list of changes fits the tables, each change fits the tables after the changes before it.
pub fits_at : (changes : List Change) (i : ℕ) (c : Change) (t : Tables) → i < length changes → c ≡ get_or changes i c
    → DeltaFits changes t → ChangeFits c (tables_after_delta (take i changes) t)
fits_at [] i c t within is fits = absurd (omega arith)
fits_at (d ∷ changes) zero c t within is fits = subst (λ (e : Change). ChangeFits e t) (sym is) fits.0
fits_at (d ∷ changes) (suc i) c t within is fits =
    fits_at changes i c (tables_after_change d t) (omega arith) is fits.1

-- The tables after one more change of a list are those after the changes before it, with that change applied.
pub one_more_change : (changes : List Change) (i : ℕ) (c : Change) (t : Tables) → i < length changes
    → c ≡ get_or changes i c → tables_after_delta (take (i + 1) changes) t
    ≡ tables_after_change c (tables_after_delta (take i changes) t)
one_more_change changes i c t within is =
    ap (λ (l : List Change). tables_after_delta l t) (take_more changes i c within
    ∙ ap (λ (d : Change). take i changes ++ d ∷ []) (sym is))
    ∙ all_append (take i changes) (c ∷ []) t

-- A row among the first `i + 1` rows is among the first `i`, or is the row at index `i`.
pub in_take_more : (rows : List PostingRow) (i : ℕ) (x row : PostingRow) → i < length rows → x ≡ get_or rows i x
    → IsIn row (take (i + 1) rows) → IsIn row (take i rows) ⊎ (row ≡ x)
in_take_more rows i x row within is has =
    elim (in_both row (take i rows) (x ∷ []) (subst (IsIn row) (take_more rows i x within
    ∙ ap (λ (y : PostingRow). take i rows ++ y ∷ []) (sym is)) has)) [
      | inl before ↦ inl before
      | inr last ↦ elim last [ inl same ↦ inr same | inr never ↦ absurd never ]
    ]

-- The row at an index is in the list.
pub in_list : (rows : List PostingRow) (i : ℕ) (x : PostingRow) → i < length rows → x ≡ get_or rows i x → IsIn x rows
in_list rows i x within is = in_at x rows i (slice_get_read rows (length rows) i x refl within is)

-- If a success of a call implies `P`, and `P` implies `Q`, the success implies `Q`.
pub on_ok : {A : Type 0} (r : Result A Fault) {P Q : Type 0} → (P → Q) → OnOk r P → OnOk r Q
on_ok (Ok x) f p = f p
on_ok (Err e) f p = p
