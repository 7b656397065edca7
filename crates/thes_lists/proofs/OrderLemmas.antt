-- Sorted lists after an insertion and a removal, and the place at which a binary search ends.
use Rattle.std.proofs.Common.{◌≡◌, ◌+◌, ◌<◌, ◌≤◌, ◌⊎◌, inl, inr, ℕ, zero, suc, List, [], ◌∷◌, Bool, true, false, cond}
use Rattle.std.proofs.Common.{length, get_or, Ordering, Less, Equal, Greater, refl, sym, ap, subst, ◌∙◌, arith}
use Rattle.std.specs.List.{HoldsAt, insert, remove}
use Rattle.std.specs.List.Sorted.{IsStrictlySortedBy, IsPartitionPoint, IsNonDecreasingBy}
use Rattle.std.specs.Ordering.{is_eq, is_lt, match_ordering, ordering_reverse, ordering_index}
use Rattle.std.specs.Cmp.{IsTotalOrder, tied_itself}
use Rattle.std.specs.BTreeMap.{is_at}
use Rattle.std.specs.BTreeSet.{insert_key}
use Rattle.std.specs.Set.{remove_key}
use Rattle.std.proofs.lemmas.Map.Keys.{sorted_head, sorted_tail, Less-from_sorted}
use Rattle.std.proofs.lemmas.List.Sorted.{searchable_from_sorted}
use Rattle.std.proofs.lemmas.List.{get_or_default}
use Rattle.thes_lists.proofs.MemberLemmas.{Has, Has-from, all_from_has, has_from_all}

module _ {A : Type 0} (c : A → A → Ordering) where
  pub sorted_cons : (k : A) (ks : List A) → ((x : A) → Has ks x → c k x ≡ Less) → IsStrictlySortedBy c ks
      → IsStrictlySortedBy c (k ∷ ks)
  unfolding IsStrictlySortedBy
  sorted_cons k ks above rest = (all_from_has (λ y. c k y ≡ Less) ks above, rest)

  pub sorted_none : IsStrictlySortedBy c []
  unfolding IsStrictlySortedBy
  sorted_none = tt

  pub above_head : (k : A) (ks : List A) (x : A) → IsStrictlySortedBy c (k ∷ ks) → Has ks x → c k x ≡ Less
  above_head k ks x sorted has = has_from_all (λ y. c k y ≡ Less) ks x (sorted_head c k ks sorted) has

  -- The members after an insertion are the inserted value and the old ones.
  pub insert_cases : (ks : List A) (x m : A) → Has (insert_key c ks x) m → (x ≡ m) ⊎ Has ks m
  insert_cases [] x m (inl same) = inl same
  insert_cases [] x m (inr none) = absurd none
  insert_cases (y ∷ ys) x m has = go (c x y) has (insert_cases ys x m)
    where
      go : (r : Ordering) → Has (match_ordering r (x ∷ y ∷ ys) (y ∷ ys) (y ∷ insert_key c ys x)) m
          → (Has (insert_key c ys x) m → (x ≡ m) ⊎ Has ys m) → (x ≡ m) ⊎ Has (y ∷ ys) m
      go Less (inl same) later = inl same
      go Less (inr has) later = inr has
      go Equal has later = inr has
      go Greater (inl same) later = inr (inl same)
      go Greater (inr has) later = elim (later has) [ inl same ↦ inl same | inr old ↦ inr (inr old) ]

  pub insert_keeps : (ks : List A) (x m : A) → Has ks m → Has (insert_key c ks x) m
  insert_keeps [] x m has = absurd has
  insert_keeps (y ∷ ys) x m has = go (c x y) has (insert_keeps ys x m)
    where
      go : (r : Ordering) → Has (y ∷ ys) m → (Has ys m → Has (insert_key c ys x) m)
          → Has (match_ordering r (x ∷ y ∷ ys) (y ∷ ys) (y ∷ insert_key c ys x)) m
      go Less has later = inr has
      go Equal has later = has
      go Greater (inl same) later = inl same
      go Greater (inr has) later = inr (later has)

  -- The members after a removal were members before it.
  pub remove_had : (ks : List A) (test : A → Bool) (m : A) → Has (remove_key test ks) m → Has ks m
  remove_had [] test m has = absurd has
  remove_had (y ∷ ys) test m has = go (test y) has (remove_had ys test m)
    where
      go : (b : Bool) → Has (cond b ys (y ∷ remove_key test ys)) m → (Has (remove_key test ys) m → Has ys m)
          → Has (y ∷ ys) m
      go true has later = inr has
      go false (inl same) later = inl same
      go false (inr has) later = inr (later has)

module _ {A : Type 0} (c : A → A → Ordering) (o : IsTotalOrder c) where
  turn : (x y : A) (r : Ordering) → c x y ≡ r → c y x ≡ ordering_reverse r
  turn x y r e = o.antisymm y x ∙ ap ordering_reverse e

  pub never_below_itself : (x : A) → c x x ≡ Less → ⊥
  never_below_itself x e = let tied = tied_itself o x in cc

  -- A sorted list is still sorted after an insertion.
  pub insert_sorted : (ks : List A) (x : A) → IsStrictlySortedBy c ks → IsStrictlySortedBy c (insert_key c ks x)
  insert_sorted [] x sorted = sorted_cons c x [] (λ y none. absurd none) (sorted_none c)
  insert_sorted (y ∷ ys) x sorted = go (c x y) refl (insert_sorted ys x (sorted_tail c y ys sorted))
    where
      go : (r : Ordering) → c x y ≡ r → IsStrictlySortedBy c (insert_key c ys x)
          → IsStrictlySortedBy c (match_ordering r (x ∷ y ∷ ys) (y ∷ ys) (y ∷ insert_key c ys x))
      go Less below rest = sorted_cons c x (y ∷ ys) (λ z has. elim has [
        | inl same ↦ subst (λ w. c x w ≡ Less) same below
        | inr later ↦ o.trans x y z below (above_head c y ys z sorted later)
      ]) sorted
      go Equal tied rest = sorted
      go Greater above rest = sorted_cons c y (insert_key c ys x) (λ z has. elim (insert_cases c ys x z has) [
        | inl same ↦ subst (λ w. c y w ≡ Less) same (turn x y Greater above)
        | inr old ↦ above_head c y ys z sorted old
      ]) rest

  pub remove_sorted : (ks : List A) (test : A → Bool) → IsStrictlySortedBy c ks
      → IsStrictlySortedBy c (remove_key test ks)
  remove_sorted [] test sorted = sorted
  remove_sorted (y ∷ ys) test sorted = go (test y) (remove_sorted ys test (sorted_tail c y ys sorted))
    where
      go : (b : Bool) → IsStrictlySortedBy c (remove_key test ys)
          → IsStrictlySortedBy c (cond b ys (y ∷ remove_key test ys))
      go true rest = sorted_tail c y ys sorted
      go false rest = sorted_cons c y (remove_key test ys)
          (λ z has. above_head c y ys z sorted (remove_had c ys test z has)) rest

  pub sorted_by_index : (ks : List A) (x : A) → IsStrictlySortedBy c ks
      → IsNonDecreasingBy (λ y. ordering_index (c y x)) ks
  sorted_by_index ks x sorted =
      searchable_from_sorted o (λ (y : A). y) ks x
      (λ k d low below.
      ap is_lt (turn (get_or ks k d) (get_or ks (k + 1) d) Less
      (Less-from_sorted c ks k (k + 1) d sorted (omega arith) below)))

  abbrev IsInsertionPoint : List A → A → ℕ → Type 0
  IsInsertionPoint ks x i = IsPartitionPoint (λ y. c y x ≡ Less) (λ y. c y x ≡ Greater) ks i

  place_later : (y : A) (ys : List A) (x : A) (i : ℕ) → IsInsertionPoint (y ∷ ys) x (suc i) → IsInsertionPoint ys x i
  place_later y ys x i (below, above) = (
    λ k d low lt. below (suc k) d (omega arith) (omega arith),
    λ k d low lt. above (suc k) d (omega arith) (omega arith),
  )

  -- If a list doesn't have a value, inserting it where a binary search ended gives the same list as inserting it in
  -- order.
  pub insert_missing : (ks : List A) (i : ℕ) (x : A) → i ≤ length ks → IsInsertionPoint ks x i → insert ks i x
      ≡ insert_key c ks x
  insert_missing [] zero x within is = refl
  insert_missing [] (suc i) x within is = absurd (omega arith)
  insert_missing (y ∷ ys) zero x within is =
      sym (ap (λ r. match_ordering r (x ∷ y ∷ ys) (y ∷ ys) (y ∷ insert_key c ys x))
      (turn y x Greater (is.1 0 y (omega arith) (omega arith))))
  insert_missing (y ∷ ys) (suc i) x within is =
      ap (λ zs. y ∷ zs) (insert_missing ys i x (omega arith) (place_later y ys x i is))
      ∙ sym (ap (λ r. match_ordering r (x ∷ y ∷ ys) (y ∷ ys) (y ∷ insert_key c ys x))
      (turn y x Less (is.0 0 y (omega arith) (omega arith))))

  -- A value that compares equal to a later entry of a sorted list is greater than the first entry.
  before_found : (y : A) (ys : List A) (i : ℕ) (x : A) → i < length ys → IsStrictlySortedBy c (y ∷ ys)
      → HoldsAt (λ z. c z x ≡ Equal) ys i → c x y ≡ Greater
  before_found y ys i x within sorted is =
      sym (o.congr (get_or ys i y) x y (is y))
      ∙ turn y (get_or ys i y) Less
      (above_head c y ys (get_or ys i y) sorted
      (Has-from ys (get_or ys i y) (i, within, get_or_default ys i (get_or ys i y) y within)))

  pub insert_found : (ks : List A) (i : ℕ) (x : A) → i < length ks → IsStrictlySortedBy c ks
      → HoldsAt (λ y. c y x ≡ Equal) ks i → insert_key c ks x ≡ ks
  insert_found [] i x within sorted is = absurd (omega arith)
  insert_found (y ∷ ys) zero x within sorted is =
      ap (λ r. match_ordering r (x ∷ y ∷ ys) (y ∷ ys) (y ∷ insert_key c ys x)) (turn y x Equal (is y))
  insert_found (y ∷ ys) (suc i) x within sorted is =
      ap (λ r. match_ordering r (x ∷ y ∷ ys) (y ∷ ys) (y ∷ insert_key c ys x))
      (before_found y ys i x (omega arith) sorted (λ d. is d))
      ∙ ap (λ zs. y ∷ zs) (insert_found ys i x (omega arith) (sorted_tail c y ys sorted) (λ d. is d))

  pub remove_found : (ks : List A) (i : ℕ) (x : A) → i < length ks → IsStrictlySortedBy c ks
      → HoldsAt (λ y. c y x ≡ Equal) ks i → remove ks i ≡ remove_key (is_at (c x)) ks
  remove_found [] i x within sorted is = absurd (omega arith)
  remove_found (y ∷ ys) zero x within sorted is =
      sym (ap (λ r. cond (is_eq r) ys (y ∷ remove_key (is_at (c x)) ys)) (turn y x Equal (is y)))
  remove_found (y ∷ ys) (suc i) x within sorted is =
      ap (λ zs. y ∷ zs) (remove_found ys i x (omega arith) (sorted_tail c y ys sorted) (λ d. is d))
      ∙ sym (ap (λ r. cond (is_eq r) ys (y ∷ remove_key (is_at (c x)) ys))
      (before_found y ys i x (omega arith) sorted (λ d. is d)))

  pub remove_missing : (ks : List A) (i : ℕ) (x : A) → IsInsertionPoint ks x i → remove_key (is_at (c x)) ks ≡ ks
  remove_missing [] i x is = refl
  remove_missing (y ∷ ys) zero x is =
      ap (λ r. cond (is_eq r) ys (y ∷ remove_key (is_at (c x)) ys))
      (turn y x Greater (is.1 0 y (omega arith) (omega arith)))
      ∙ ap (λ zs. y ∷ zs)
      (remove_missing ys zero x (
        λ k d low lt. absurd (omega arith),
        λ k d low lt. is.1 (suc k) d (omega arith)
            (omega arith),
      ))
  remove_missing (y ∷ ys) (suc i) x is =
      ap (λ r. cond (is_eq r) ys (y ∷ remove_key (is_at (c x)) ys))
      (turn y x Less (is.0 0 y (omega arith) (omega arith)))
      ∙ ap (λ zs. y ∷ zs) (remove_missing ys i x (place_later y ys x i is))
