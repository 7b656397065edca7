-- Proves which postings are assigned to a concept after a plan's changes so far.
use Rattle.std.proofs.Common.{◌≡◌, ◌≤◌, ◌+◌, ◌∷◌, [], ◌∙◌, ◌&&◌, ◌||◌, ℕ, zero, suc, List}
use Rattle.std.proofs.Common.{length, refl, sym, ap, subst, arith, inl, inr, Bool, true, false, cond, map, Contains}
use Rattle.std.specs.Prelude.{is_some, Option, None, Some, slice_get, filter}
use Rattle.std.specs.declared.cmp.Ordering.TheVariants.{Less}
use Rattle.std.specs.BTreeMap as tree
use Rattle.std.specs.Cmp.{nat_cmp_is}
use Rattle.std.specs.List.{AllByRecursion}
use Rattle.std.specs.List.Sorted.{IsStrictlySortedBy}
use Rattle.std.specs.Ordering.{nat_cmp}
use Rattle.std.proofs.lemmas.Bool.{and_parts, or_cases, or_left, or_right}
use Rattle.std.proofs.lemmas.Cmp.{nat_cmp_total, nat_eq_equiv}
use Rattle.std.proofs.lemmas.Map.Lookups.{exact_unsigned}
use Rattle.std.proofs.lemmas.Map.Views.{Contains-from_any, btree_map_contains_key_iff, exact_unsigned_eq, list_any-from_Contains}
use Rattle.std.proofs.lemmas.Option.{slice_get_read, slice_get_within, get_or_from_slice_get}
use Rattle.thes_base.specs.Resources.{entry_at}
use Rattle.thes_base.proofs.ListMemberLemmas.{Contains-filter, Contains-from_filter, Contains-from_map, Contains-map}
use Rattle.thes_base.proofs.UniqueListingLemmas.{one_listing}
use Rattle.thes_tables.specs.declared.rows.PostingRow.{PostingRow}
use Rattle.thes_tables.specs.Tables.{is_assigned_row}
use Rattle.thes_store.specs.Reading.{assigned_row_numbers, row_number}
use Rattle.thes_plan_postings.specs.declared.plan_postings.Placement.{Placement}
use Rattle.thes_plan_postings.specs.declared.plan_postings.PlanPostings.{PlanPostings}
use Rattle.thes_plan_postings.specs.PlanPostings.{AreAssigned, AreNumbered, ArePlanRows, has_number, is_assigned_by}
use Rattle.thes_plan_postings.specs.PlanPostings.{is_assigned_candidate, placement_of, row_placed}
use Rattle.thes_plan_postings.proofs.PlanPostingLemmas.{base_numbered, base_of_row, entry_left}

-- A list has the number exactly if the test finds it.
pub number_found : (numbers : List ℕ) (n : ℕ) → has_number numbers n ≡ true → Contains numbers n
number_found numbers n found = Contains-from_any exact_unsigned_eq n numbers found

pub number_has : (numbers : List ℕ) (n : ℕ) → Contains numbers n → has_number numbers n ≡ true
number_has numbers n has = list_any-from_Contains nat_eq_equiv n numbers has

-- The rows are numbered from `k` on without gaps.
abbrev NumbersFrom : ℕ → List PostingRow → Type 0
NumbersFrom k [] = Unit {0}
NumbersFrom k (r ∷ rows) = (r.number ≡ k) × NumbersFrom (suc k) rows

numbers_from : (k : ℕ) (rows : List PostingRow) → ((i : ℕ) (r : PostingRow) → slice_get rows i ≡ Some r → r.number
    ≡ i + k) → NumbersFrom k rows
numbers_from k [] each = tt
numbers_from k (r ∷ rows) each = (
  (let e = each 0 r refl in omega (arith, e)),
  numbers_from (suc k) rows (λ i x at. (let e = each (suc i) x at in omega (arith, e))),
)

at_least_more : (k : ℕ) (ns : List ℕ) → AllByRecursion (λ y. suc k ≤ y) ns → AllByRecursion (λ y. k ≤ y) ns
at_least_more k [] all = tt
at_least_more k (n ∷ ns) all = ((let a = all.0 in omega (arith, a)), at_least_more k ns all.1)

module _ (p : PostingRow → Bool) where
  at_least : (k : ℕ) (rows : List PostingRow) → NumbersFrom k rows → AllByRecursion (λ y. k ≤ y)
      (map row_number (filter p rows))
  at_least k [] from = tt
  at_least k (r ∷ rows) from =
      go (p r) (at_least_more k (map row_number (filter p rows)) (at_least (suc k) rows from.1))
    where
      go : (b : Bool) → AllByRecursion (λ y. k ≤ y) (map row_number (filter p rows))
          → AllByRecursion (λ y. k ≤ y) (map row_number (cond b (r ∷ filter p rows) (filter p rows)))
      go true all = ((let e = from.0 in omega (arith, e)), all)
      go false all = all

  all_less : (k : ℕ) (ns : List ℕ) → AllByRecursion (λ y. suc k ≤ y) ns → AllByRecursion (λ y. nat_cmp k y ≡ Less) ns
  all_less k [] all = tt
  all_less k (n ∷ ns) all = ((let a = all.0 in sym (nat_cmp_is k n Less (omega (arith, a)))), all_less k ns all.1)

  numbers_rise : (k : ℕ) (rows : List PostingRow) → NumbersFrom k rows
      → IsStrictlySortedBy nat_cmp (map row_number (filter p rows))
  unfolding IsStrictlySortedBy
  numbers_rise k [] from = tt
  numbers_rise k (r ∷ rows) from = go (p r) (numbers_rise (suc k) rows from.1)
    where
      go : (b : Bool) → IsStrictlySortedBy nat_cmp (map row_number (filter p rows))
          → IsStrictlySortedBy nat_cmp (map row_number (cond b (r ∷ filter p rows) (filter p rows)))
      go true rest = (
        subst (λ k. AllByRecursion (λ y. nat_cmp k y ≡ Less) (map row_number (filter p rows))) (sym from.0)
            (all_less k (map row_number (filter p rows)) (at_least (suc k) rows from.1)),
        rest,
      )
      go false rest = rest

module _ (rows : List PostingRow) (numbered : AreNumbered rows) (concept : ℕ) where
  -- The numbers of the rows assigned to a concept are strictly increasing.
  assigned_rise : IsStrictlySortedBy nat_cmp (assigned_row_numbers concept rows)
  assigned_rise = numbers_rise (is_assigned_row concept) 1 rows
      (numbers_from 1 rows (λ i r at. (let e = numbered (suc i) r at in omega (arith, e))))

  -- Each number in the list of assigned numbers is that of a row assigned to the concept.
  pub assigned_has : (n : ℕ) → Contains (assigned_row_numbers concept rows) n → (r : PostingRow)
      × (entry_at rows n ≡ Some r) × (is_assigned_row concept r ≡ true)
  assigned_has n has =
      let m = Contains-from_map row_number (filter (is_assigned_row concept) rows) n has in
      let f = Contains-from_filter (is_assigned_row concept) rows m.0 m.1 in
      let at = slice_get_read rows (length rows) f.0.0 m.0 refl f.0.1 (sym f.0.2) in
      let number : suc f.0.0 ≡ n = sym (numbered (suc f.0.0) m.0 at) ∙ m.2 in
      (m.0, subst (λ k. entry_at rows k ≡ Some m.0) number at, f.1)

  entry_in : (n : ℕ) (r : PostingRow) → entry_at rows n ≡ Some r → Contains rows r
  entry_in zero r at = absurd (cc)
  entry_in (suc i) r at = (i, slice_get_within rows i r at, get_or_from_slice_get rows i r r at)

  -- The number of each row assigned to the concept is in the list of assigned numbers.
  pub assigned_of : (n : ℕ) (r : PostingRow) → entry_at rows n ≡ Some r → is_assigned_row concept r ≡ true
      → Contains (assigned_row_numbers concept rows) n
  assigned_of n r at is =
      subst (Contains (assigned_row_numbers concept rows)) (numbered n r at)
      (Contains-map row_number (filter (is_assigned_row concept) rows) r
      (Contains-filter (is_assigned_row concept) rows r (entry_in n r at) is))

module _ (olds rows : List PostingRow) (p : PlanPostings) (are : ArePlanRows olds rows p) (concept : ℕ) where
  olds_numbered : AreNumbered olds
  olds_numbered n r at = base_numbered olds rows p are n r (entry_left olds p.added.items n r at)

  abbrev IsAssigned : ℕ → Type 0
  IsAssigned n = (r : PostingRow) × (entry_at rows n ≡ Some r) × (is_assigned_row concept r ≡ true)

  module _ (standing : List ℕ) (is : standing ≡ assigned_row_numbers concept olds) where
    by_tables : ℕ → Bool
    by_tables n = is_assigned_candidate p standing concept true n

    by_placement : ℕ → Bool
    by_placement n = is_assigned_candidate p (tree.keys p.placements) concept false n

    unplaced : (n : ℕ) → placement_of p n ≡ None → (by_tables n || by_placement n) ≡ true → IsAssigned n
    unfolding by_tables by_placement
    unplaced n none e = elim (or_cases (by_tables n) (by_placement n) e) [
      | inl here ↦
          let h = and_parts (has_number standing n) (is_assigned_by concept true (placement_of p n)) here in
          let r = assigned_has olds olds_numbered concept n (subst (λ (ns : List ℕ). Contains ns n) is
          (number_found standing n h.0)) in
          (r.0, are.others n none ∙ r.1, r.2)
      | inr there ↦
          let h = and_parts (has_number (tree.keys p.placements) n) (is_assigned_by concept false (placement_of p n))
          there in
          absurd (let q : false ≡ true = ap (is_assigned_by concept false) (sym none) ∙ h.1 in cc)
    ]

    placed : (n : ℕ) (x : Placement) → placement_of p n ≡ Some x → (by_tables n || by_placement n) ≡ true → IsAssigned n
    unfolding by_tables by_placement
    placed n x some e =
        let at = are.placed n x some in (
          row_placed (Some x) at.row,
          at.now,
          elim (or_cases (by_tables n) (by_placement n) e) [
            | inl here ↦ ap (is_assigned_by concept true) (sym some)
                ∙ (and_parts (has_number standing n) (is_assigned_by concept true (placement_of p n)) here).1
            | inr there ↦ ap (is_assigned_by concept false) (sym some)
                ∙ (and_parts (has_number (tree.keys p.placements) n) (is_assigned_by concept false (placement_of p n))
                there).1
          ],
        )

    sound : (n : ℕ) → (by_tables n || by_placement n) ≡ true → IsAssigned n
    sound n e = go (placement_of p n) refl
      where
        go : (o : Option Placement) → placement_of p n ≡ o → IsAssigned n
        go None none = unplaced n none e
        go (Some x) some = placed n x some e

    complete : (n : ℕ) → IsAssigned n → (by_tables n || by_placement n) ≡ true
    unfolding by_tables by_placement
    complete n (r, at, assigned) = go (placement_of p n) refl
      where
        go : (o : Option Placement) → placement_of p n ≡ o → (by_tables n || by_placement n) ≡ true
        go None none =
            let has = number_has standing n (subst (λ (ns : List ℕ). Contains ns n) (sym is)
            (assigned_of olds olds_numbered concept n r (sym (are.others n none) ∙ at) assigned)) in
            or_left (by_tables n) (by_placement n)
            (λ i. has i && ap (is_assigned_by concept true) none i)
        go (Some x) some =
            let key = (btree_map_contains_key_iff nat_cmp_total exact_unsigned p.placements n).0
            (ap is_some some) in
            let has = number_has (tree.keys p.placements) n key in
            let b = base_of_row olds rows p are n r at in
            let row : r ≡ row_placed (Some x) b.0 = b.2 ∙ ap (λ (o : Option Placement). row_placed o b.0) some in
            let test : is_assigned_by concept false (Some x) ≡ true = ap (is_assigned_row concept) (sym row)
            ∙ assigned in
            or_right (by_tables n) (by_placement n)
            (λ i. has i && (ap (is_assigned_by concept false) some ∙ test) i)

    -- The numbers of the postings that are assigned to a concept after the plan's changes are those of the rows after
    -- these changes.
    pub assigned_is : (numbers : List ℕ) → AreAssigned p concept standing numbers → numbers
        ≡ assigned_row_numbers concept rows
    unfolding by_tables by_placement
    assigned_is numbers a = one_listing nat_cmp_total {P = IsAssigned} numbers (assigned_row_numbers concept rows)
        record {
          rises = a.rises;
          sound = λ n has. sound n ((a.has n).0 has);
          complete = λ n assigned. (a.has n).1 (complete n assigned);
        } record {
          rises = assigned_rise rows are.numbered concept;
          sound = λ n has. assigned_has rows are.numbered concept n has;
          complete = λ n assigned. assigned_of rows are.numbered concept n assigned.0 assigned.1 assigned.2;
        }
