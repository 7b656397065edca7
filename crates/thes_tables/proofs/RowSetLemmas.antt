-- Unsorted listings of a property after an insertion, a deletion or a filtering, and the sets that they encode.
use Rattle.std.proofs.lemmas.Grind.{common_steps}
use Rattle.std.proofs.Common.{arith, ◌≡◌, ◌⊎◌, List, [], ◌∷◌, ◌++◌, map, refl, sym, ap, ◌∙◌, subst, inl, inr, Bool}
use Rattle.std.proofs.Common.{true, cond}
use Rattle.std.proofs.Common.{false, not, append_assoc}
use Rattle.std.proofs.lemmas.Bool.{cases_Bool, or_cases, or_left, or_right, not-true, not_from_false}
use Rattle.std.proofs.lemmas.List.{append-nil}
use Rattle.std.specs.Prelude.{filter}
use Rattle.std.specs.List.{list_any}
use Rattle.std.specs.declared.cmp.Ordering.{Ordering}
use Rattle.std.specs.Ordering.{eq_by_cmp, is_eq}
use Rattle.std.specs.Cmp.{IsTotalOrder, tied_itself, Equal-is, both_ways}
use Rattle.std.specs.FinMap.{IsAntisymmetric}
use Rattle.std.specs.FinSet as set
use Rattle.std.specs.FinSet.{FinSet}
use Rattle.thes_base.proofs.SetMemberLemmas.{inserted_cases, inserted_kept, inserted_new, removed_cases, removed_kept}
use Rattle.thes_tables.specs.Tables.{IsIn, AreDistinct, IsUnsortedListing}
use Rattle.thes_tables.specs.Rows.{without_row}
use Rattle.thes_tables.specs.Changes.{missing_items, without_elements}

pub clash : {A : Type 0} (b : Bool) → b ≡ true → b ≡ false → A
clash b e f = absurd (cc)

pub in_filter : {A : Type 0} (test : A → Bool) (x : A) (xs : List A) → IsIn x (filter test xs) → IsIn x xs
    × (test x ≡ true)
in_filter test x [] h = absurd h
in_filter {A} test x (y ∷ xs) h = grind (arith, common_steps, in_filter test x xs)

pub filter_in : {A : Type 0} (test : A → Bool) (x : A) (xs : List A) → IsIn x xs → test x ≡ true
    → IsIn x (filter test xs)
filter_in test x [] h t = absurd h
filter_in {A} test x (y ∷ xs) h t = grind (arith, common_steps, filter_in test x xs, clash)

pub in_append : {A : Type 0} (x : A) (xs ys : List A) → IsIn x (xs ++ ys) → IsIn x xs ⊎ IsIn x ys
in_append x [] ys h = inr h
in_append x (y ∷ xs) ys (inl e) = inl (inl e)
in_append x (y ∷ xs) ys (inr h) = elim (in_append x xs ys h) [ inl l ↦ inl (inr l) | inr r ↦ inr r ]

pub append_left : {A : Type 0} (x : A) (xs ys : List A) → IsIn x xs → IsIn x (xs ++ ys)
append_left x [] ys h = absurd h
append_left x (y ∷ xs) ys (inl e) = inl e
append_left x (y ∷ xs) ys (inr h) = inr (append_left x xs ys h)

pub append_right : {A : Type 0} (x : A) (xs ys : List A) → IsIn x ys → IsIn x (xs ++ ys)
append_right x [] ys h = h
append_right x (y ∷ xs) ys h = inr (append_right x xs ys h)

pub in_map : {A B : Type 0} (f : A → B) (y : B) (xs : List A) → IsIn y (map f xs) → (x : A) × IsIn x xs × (y ≡ f x)
in_map f y [] h = absurd h
in_map f y (x ∷ xs) (inl e) = (x, inl refl, e)
in_map f y (x ∷ xs) (inr h) = let later = in_map f y xs h in (later.0, inr later.1, later.2)

-- The image of a list without duplicates under a map that is injective on the list has no duplicates.
pub once_map : {A B : Type 0} (f : A → B) (xs : List A)
    → ((x y : A) → IsIn x xs → IsIn y xs → f x ≡ f y → x ≡ y) → AreDistinct xs → AreDistinct (map f xs)
once_map f [] one once = tt
once_map f (x ∷ xs) one once = (
  λ h. let at = in_map f (f x) xs h in
      once.0 (subst (λ y. IsIn y xs) (sym (one x at.0 (inl refl) (inr at.1) at.2)) at.1),
  once_map f xs (λ y z hy hz. one y z (inr hy) (inr hz)) once.1,
)

pub map_in : {A B : Type 0} (f : A → B) (x : A) (xs : List A) → IsIn x xs → IsIn (f x) (map f xs)
map_in f x [] h = absurd h
map_in f x (y ∷ xs) (inl e) = inl (ap f e)
map_in f x (y ∷ xs) (inr h) = inr (map_in f x xs h)

once_filter : {A : Type 0} (test : A → Bool) (xs : List A) → AreDistinct xs → AreDistinct (filter test xs)
once_filter test [] once = tt
once_filter {A} test (x ∷ xs) once = grind (arith, common_steps, once_filter test xs once.1, in_filter)

pub once_push : {A : Type 0} (xs : List A) (x : A) → (IsIn x xs → ⊥) → AreDistinct xs → AreDistinct (xs ++ x ∷ [])
once_push [] x new once = (λ n. n, tt)
once_push (y ∷ xs) x new once = (
  λ h. grind (arith, common_steps, in_append y xs (x ∷ []) h),
  once_push xs x (λ h. new (inr h)) once.1,
)

-- If the rows are a listing of `Has`, the rows with an element appended are a listing of `More`, which holds of exactly
-- this element and those with `Has`.
pub lists_push : {K : Type 0} {Has More : K → Type 0} (rows : List K) (k : K) → (Has k → ⊥)
    → ((q : K) → More q → (q ≡ k) ⊎ Has q) → More k → ((q : K) → Has q → More q) → IsUnsortedListing Has rows
    → IsUnsortedListing More (rows ++ k ∷ [])
lists_push {More = More} rows k new cases last kept are = record {
  sound = λ q h. elim (in_append q rows (k ∷ []) h) [
    | inl old ↦ kept q (are.sound q old)
    | inr at ↦ elim at [ inl e ↦ subst More (sym e) last | inr n ↦ absurd n ]
  ];
  complete = λ q h. grind (arith, common_steps, append_right, append_left);
  once = once_push rows k (λ h. new (are.sound k h)) are.once;
}

-- If the rows are a listing of `Has`, those that pass a test are a listing of `Less`, which holds of the elements that
-- have `Has` and pass the test.
pub lists_filter : {K : Type 0} {Has Less : K → Type 0} (test : K → Bool) (rows : List K)
    → ((q : K) → Less q → Has q × (test q ≡ true)) → ((q : K) → Has q → test q ≡ true → Less q)
    → IsUnsortedListing Has rows → IsUnsortedListing Less (filter test rows)
lists_filter test rows less more are = grind (arith, common_steps, in_filter, filter_in, once_filter)

-- A listing of a property is also a listing of every equivalent property.
pub lists_same : {K : Type 0} {Has Other : K → Type 0} (rows : List K) → ((q : K) → Has q → Other q)
    → ((q : K) → Other q → Has q) → IsUnsortedListing Has rows → IsUnsortedListing Other rows
lists_same rows to from are = grind (arith, common_steps)

-- Assumes a total order in which elements that compare equal are the same.
module _ {K : Type 0} {R : K → K → Ordering} (o : IsTotalOrder R) (exact : IsAntisymmetric R) where
  pub equal_of_tie : (x y : K) → eq_by_cmp R x y ≡ true → x ≡ y
  equal_of_tie x y e = exact x y ((Equal-is (R x y)).0 e)

  tie_itself : (x : K) → eq_by_cmp R x x ≡ true
  tie_itself x = ap is_eq (tied_itself o x)

  pub in_any : (q : K) (ks : List K) → list_any (eq_by_cmp R q) ks ≡ true → IsIn q ks
  in_any q [] e = absurd (cc)
  in_any q (k ∷ ks) e = grind (arith, common_steps, or_cases, equal_of_tie, in_any q ks)

  pub any_in : (q : K) (ks : List K) → IsIn q ks → list_any (eq_by_cmp R q) ks ≡ true
  any_in q [] h = absurd h
  any_in q (k ∷ ks) (inl same) = or_left _ _ (ap (eq_by_cmp R q) (sym same) ∙ tie_itself q)
  any_in q (k ∷ ks) (inr rest) = or_right _ _ (any_in q ks rest)

  pub held_item : (s : FinSet R) (q : K) → IsIn q (set.items s) → set.contains s q ≡ true
  held_item s q h = set.contains-items s q ∙ any_in q (set.items s) h

  pub item_held : (s : FinSet R) (q : K) → set.contains s q ≡ true → IsIn q (set.items s)
  item_held s q h = in_any q (set.items s) (sym (set.contains-items s q) ∙ h)

  -- If it is contradictory that a set has an element, the test for the element gives false.
  pub absent_of_never : (s : FinSet R) (q : K) → (set.contains s q ≡ true → ⊥) → set.contains s q ≡ false
  absent_of_never s q never = elim (cases_Bool (set.contains s q)) [ inl h ↦ absurd (never h) | inr h ↦ h ]

  -- The set after all elements of a list are inserted.
  abbrev pub set_with_list : List K → FinSet R → FinSet R
  set_with_list [] s = s
  set_with_list (k ∷ ks) s = set_with_list ks (set.insert s k)

  all_kept : (ks : List K) (s : FinSet R) (q : K) → set.contains s q ≡ true → set.contains (set_with_list ks s) q ≡ true
  all_kept [] s q h = h
  all_kept (k ∷ ks) s q h = all_kept ks (set.insert s k) q (inserted_kept o exact s k q h)

  all_new : (ks : List K) (s : FinSet R) (q : K) → IsIn q ks → set.contains (set_with_list ks s) q ≡ true
  all_new [] s q h = absurd h
  all_new (k ∷ ks) s q (inl e) = all_kept ks (set.insert s k) q (ap (set.contains (set.insert s k)) e
      ∙ inserted_new o exact s k)
  all_new (k ∷ ks) s q (inr h) = all_new ks (set.insert s k) q h

  all_cases : (ks : List K) (s : FinSet R) (q : K) → set.contains (set_with_list ks s) q ≡ true → IsIn q ks
      ⊎ (set.contains s q ≡ true)
  all_cases [] s q h = inr h
  all_cases (k ∷ ks) s q h = grind (arith, common_steps, all_cases ks (set.insert s k) q h, inserted_cases)

  gone_cases : (ks : List K) (s : FinSet R) (q : K) → set.contains (without_elements ks s) q ≡ true → (IsIn q ks → ⊥)
      × (set.contains s q ≡ true)
  gone_cases [] s q h = (λ n. n, h)
  gone_cases (k ∷ ks) s q h = grind (arith, common_steps, gone_cases ks (set.remove s k) q h, removed_cases)

  gone_kept : (ks : List K) (s : FinSet R) (q : K) → (IsIn q ks → ⊥) → set.contains s q ≡ true
      → set.contains (without_elements ks s) q ≡ true
  gone_kept [] s q out h = h
  gone_kept (k ∷ ks) s q out h = gone_kept ks (set.remove s k) q (λ m. out (inr m))
      (removed_kept o exact s k q (λ e. out (inl e)) h)

  -- Inserting all elements of another set gives the union.
  pub inserted_union : (s t : FinSet R) → set_with_list (set.items t) s ≡ set.union s t
  inserted_union s t = set.same_set o exact _ _ (λ q. both_ways _ _
      (λ h. set.contains-union o s t q ∙ elim (all_cases (set.items t) s q h)
      [ inl new ↦ or_right _ _ (held_item t q new) | inr old ↦ or_left _ _ old ])
      (λ h. elim (or_cases _ _ (sym (set.contains-union o s t q) ∙ h)) [
        | inl old ↦ all_kept (set.items t) s q old
        | inr new ↦ all_new (set.items t) s q (item_held t q new)
      ]))

  -- An element of a list is among the missing ones if the set lacks it.
  missing_in : (ks : List K) (s : FinSet R) (q : K) → IsIn q ks → set.contains s q ≡ false → IsIn q (missing_items s ks)
  missing_in [] s q h out = absurd h
  missing_in (k ∷ ks) s q h out = go (set.contains s k) refl (missing_in ks s q) (missing_in ks (set.insert s k) q)
    where
      go : (b : Bool) → set.contains s k ≡ b → (IsIn q ks → set.contains s q ≡ false → IsIn q (missing_items s ks))
          → (IsIn q ks → set.contains (set.insert s k) q ≡ false → IsIn q (missing_items (set.insert s k) ks))
          → IsIn q (cond b (missing_items s ks) (k ∷ missing_items (set.insert s k) ks))
      go true is same more = elim h [
        | inl e ↦ clash (set.contains s k) is (ap (set.contains s) (sym e) ∙ out)
        | inr rest ↦ same rest out
      ]
      go false is same more = elim h [
        | inl e ↦ inl e
        | inr rest ↦ elim (cases_Bool (set.contains (set.insert s k) q)) [
          | inl here ↦ elim (inserted_cases o exact s k q here) [
            | inl e ↦ inl e
            | inr old ↦ clash (set.contains s q) old out
          ]
          | inr lacks ↦ inr (more rest lacks)
        ]
      ]

  -- Removing from one set what another lacks, and then inserting all elements of the other, gives the other set.
  pub turn_into : (s t : FinSet R) → set_with_list (set.items t)
      (without_elements (missing_items t (set.items s)) s) ≡ t
  turn_into s t = set.same_set o exact _ _ (λ q. both_ways _ _
      (grind (arith, common_steps, all_cases, held_item, gone_cases, missing_in, item_held))
      (λ h. all_new (set.items t) _ q (item_held t q h)))

  insert_held : (s : FinSet R) (k : K) → set.contains s k ≡ true → set.insert s k ≡ s
  insert_held s k h =
      set.same_set o exact _ _ (λ q. both_ways _ _ (λ m. elim (inserted_cases o exact s k q m) [
        | inl e ↦ ap (set.contains s) e ∙ h
        | inr old ↦ old
      ]) (inserted_kept o exact s k q))

  -- Inserting only the missing elements of a list gives the same set as inserting all.
  pub coming_same : (ks : List K) (s : FinSet R) → set_with_list (missing_items s ks) s ≡ set_with_list ks s
  coming_same [] s = refl
  coming_same (k ∷ ks) s = grind (arith, common_steps, coming_same ks s, coming_same ks (set.insert s k), insert_held)

  -- Each element of the list is new at its insertion.
  abbrev pub Absent : List K → FinSet R → Type 0
  Absent [] s = Unit {0}
  Absent (k ∷ ks) s = (set.contains s k ≡ false) × Absent ks (set.insert s k)

  -- Elements that the set lacks, each listed once, are new at their insertion.
  pub absent_of : (ks : List K) (s : FinSet R) → ((q : K) → IsIn q ks → set.contains s q ≡ true → ⊥) → AreDistinct ks
      → Absent ks s
  absent_of [] s new once = tt
  absent_of (k ∷ ks) s new once = (
    absent_of_never s k (new k (inl refl)),
    absent_of ks (set.insert s k) (λ q h m. elim (inserted_cases o exact s k q m)
        [ inl e ↦ once.0 (let Q : K → Type 0 = λ x. IsIn x ks in subst Q e h) | inr old ↦ new q (inr h) old ]) once.1,
  )

  -- Each element of the list is there when it is removed.
  abbrev pub Present : List K → FinSet R → Type 0
  Present [] s = Unit {0}
  Present (k ∷ ks) s = (set.contains s k ≡ true) × Present ks (set.remove s k)

  -- Elements that the set has, each listed once, are there when they are removed.
  present_of : (ks : List K) (s : FinSet R) → ((q : K) → IsIn q ks → set.contains s q ≡ true) → AreDistinct ks
      → Present ks s
  present_of [] s held once = tt
  present_of (k ∷ ks) s held once = (
    held k (inl refl),
    present_of ks (set.remove s k) (λ q h. removed_kept o exact s k q
        (λ e. once.0 (let Q : K → Type 0 = λ x. IsIn x ks in subst Q e h)) (held q (inr h))) once.1,
  )

  -- The elements of a list that one set lacks are there when they are removed from another set that has them.
  pub leaving_present : (ks : List K) (s t : FinSet R)
      → ((q : K) → IsIn q ks → set.contains t q ≡ false → set.contains s q ≡ true) → Present (missing_items t ks) s
  leaving_present [] s t held = tt
  leaving_present (k ∷ ks) s t held = go (set.contains t k) refl (leaving_present ks s t)
      (leaving_present ks (set.remove s k) (set.insert t k))
    where
      go : (b : Bool) → set.contains t k ≡ b
          → (((q : K) → IsIn q ks → set.contains t q ≡ false → set.contains s q ≡ true)
          → Present (missing_items t ks) s)
          → (((q : K) → IsIn q ks → set.contains (set.insert t k) q ≡ false → set.contains (set.remove s k) q ≡ true)
          → Present (missing_items (set.insert t k) ks) (set.remove s k))
          → Present (cond b (missing_items t ks) (k ∷ missing_items (set.insert t k) ks)) s
      go true is same more = same (λ q h out. held q (inr h) out)
      go false is same more = (
        held k (inl refl) is,
        more (λ q h out. removed_kept o exact s k q
            (λ e. clash (set.contains (set.insert t k) q)
            (ap (set.contains (set.insert t k)) e ∙ inserted_new o exact t k) out)
            (held q (inr h) (absent_of_never t q (λ there. clash (set.contains (set.insert t k) q)
            (inserted_kept o exact t k q there) out)))),
      )

  -- Removing one list from a set and inserting another gives a second set, if the lists are the differences of the two
  -- sets.
  pub turn_into_by : (s t : FinSet R) (go come : List K)
      → IsUnsortedListing (λ q. (set.contains s q ≡ true) × (set.contains t q ≡ true → ⊥)) go
      → IsUnsortedListing (λ q. (set.contains t q ≡ true) × (set.contains s q ≡ true → ⊥)) come
      → set_with_list come (without_elements go s) ≡ t
  turn_into_by s t go come goes comes = set.same_set o exact _ _ (λ q. both_ways _ _
      (grind (arith, common_steps, all_cases, gone_cases, clash)) (λ h. elim (cases_Bool (set.contains s q)) [
        | inl old ↦ all_kept come _ q (gone_kept go s q (λ m. (goes.sound q m).1 h) old)
        | inr out ↦ all_new come _ q (comes.complete q (h, λ old. clash (set.contains s q) old out))
      ]))

  pub absent_by : (s t : FinSet R) (go come : List K)
      → IsUnsortedListing (λ q. (set.contains t q ≡ true) × (set.contains s q ≡ true → ⊥)) come
      → Absent come (without_elements go s)
  absent_by s t go come comes =
      absent_of come (without_elements go s) (λ q h m. (comes.sound q h).1 (gone_cases go s q m).1) comes.once

  pub present_by : (s t : FinSet R) (go : List K)
      → IsUnsortedListing (λ q. (set.contains s q ≡ true) × (set.contains t q ≡ true → ⊥)) go → Present go s
  present_by s t go goes = present_of go s (λ q h. (goes.sound q h).0) goes.once

  pub coming_absent : (ks : List K) (s : FinSet R) → Absent (missing_items s ks) s
  coming_absent [] s = tt
  coming_absent (k ∷ ks) s = grind (arith, common_steps, coming_absent ks s, coming_absent ks (set.insert s k))

  -- If the rows are a listing of `Has`, the rows without an element are a listing of `Less`, which holds of all other
  -- elements with `Has`.
  pub lists_drop : {Has Less : K → Type 0} (rows : List K) (k : K) → ((q : K) → Less q → (q ≡ k → ⊥) × Has q)
      → ((q : K) → (q ≡ k → ⊥) → Has q → Less q) → IsUnsortedListing Has rows
      → IsUnsortedListing Less (without_row R k rows)
  lists_drop rows k less more are = lists_filter (λ x. not (eq_by_cmp R x k)) rows
      (grind (arith, common_steps, not_from_false, equal_of_tie))
      (λ q h passes. more q (λ e. clash (eq_by_cmp R q k) (ap (eq_by_cmp R q) (sym e) ∙ tie_itself q)
      (not-true _ passes)) h) are

  abbrev pub IsMember : FinSet R → K → Type 0
  IsMember s q = set.contains s q ≡ true

  pub row_new : (s : FinSet R) (rows : List K) (q : K) → IsUnsortedListing (IsMember s) rows → set.contains s q ≡ false
      → IsIn q rows → ⊥
  row_new s rows q are new h = clash (set.contains s q) (are.sound q h) new

  pub listed_push : (s : FinSet R) (rows : List K) (k : K) → IsUnsortedListing (IsMember s) rows
      → set.contains s k ≡ false → IsUnsortedListing (IsMember (set.insert s k)) (rows ++ k ∷ [])
  listed_push s rows k are new = lists_push rows k (λ h. clash (set.contains s k) h new)
      (λ q h. inserted_cases o exact s k q h) (inserted_new o exact s k) (λ q h. inserted_kept o exact s k q h) are

  pub listed_drop : (s : FinSet R) (rows : List K) (k : K) → IsUnsortedListing (IsMember s) rows
      → IsUnsortedListing (IsMember (set.remove s k)) (without_row R k rows)
  listed_drop s rows k are = lists_drop rows k (λ q h. removed_cases o exact s k q h)
      (λ q ne h. removed_kept o exact s k q ne h) are

  pub listed_all : (ks : List K) (s : FinSet R) (rows : List K) → IsUnsortedListing (IsMember s) rows → Absent ks s
      → IsUnsortedListing (IsMember (set_with_list ks s)) (rows ++ ks)
  listed_all [] s rows are a = subst (IsUnsortedListing (IsMember s)) (sym (append-nil rows)) are
  listed_all (k ∷ ks) s rows are a = subst (IsUnsortedListing (IsMember (set_with_list (k ∷ ks) s)))
      (append_assoc rows (k ∷ []) ks) (listed_all ks (set.insert s k) (rows ++ k ∷ []) (listed_push s rows k are a.0)
      a.1)
