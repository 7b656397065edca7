-- Proves that extending a listing, concatenating two, selecting from one and mapping one give listings again.
use Rattle.std.proofs.lemmas.Grind.{common_steps}
use Rattle.std.proofs.Common.{◌≡◌, ◌∙◌, ◌⊎◌, ◌≤◌, ◌+◌, refl, sym, ap, subst, ℕ, zero, suc, List, [], ◌∷◌, ◌++◌, map}
use Rattle.std.proofs.Common.{take, take_all, length, Ordering, Less, ⊎_elim, inl, inr, arith}
use Rattle.std.specs.List.{AllByRecursion}
use Rattle.std.specs.List.Sorted.{IsStrictlySortedBy}
use Rattle.thes_base.specs.Listing.{IsListing}
use Rattle.thes_display.proofs.ListLemmas.{IsOneOf, among_from, contains_of, among_append, among_left, among_right}
use Rattle.thes_display.proofs.ListLemmas.{all_of, among_map, each_of, map_among, rises_none, rises_more, rises_append}

-- A listing of one property is a listing of an equivalent one.
pub listing_as : {X : Type 0} (cmp : X → X → Ordering) (P Q : X → Type 0) (xs : List X) → ((x : X) → P x → Q x)
    → ((x : X) → Q x → P x) → IsListing cmp P xs → IsListing cmp Q xs
listing_as cmp P Q xs to from l = grind (arith, common_steps)

-- The empty list lists a property that nothing has.
pub listing_none : {X : Type 0} (cmp : X → X → Ordering) (P : X → Type 0) (xs : List X) → xs ≡ []
    → ((x : X) → P x → ⊥) → IsListing cmp P xs
listing_none cmp P xs e none = grind (arith, common_steps, among_from, rises_none)

-- A listing extended by a greater element is a listing.
pub listing_more : {X : Type 0} (cmp : X → X → Ordering) (P Q : X → Type 0) (xs new : List X) (z : X)
    → IsListing cmp P xs → new ≡ xs ++ z ∷ [] → ((w : X) → P w → cmp w z ≡ Less) → ((x : X) → Q x → P x ⊎ (x ≡ z))
    → ((x : X) → P x → Q x) → Q z → IsListing cmp Q new
listing_more cmp P Q xs new z l e less split keep last = subst (IsListing cmp Q) (sym e) (record {
  rises = rises_more cmp xs z l.rises (λ w a. less w (l.sound w (contains_of w xs a)));
  sound = λ x c. ⊎_elim (λ old. keep x (l.sound x (contains_of x xs old)))
      (λ new. ⊎_elim (λ same. subst Q (sym same) last) (λ n. absurd n) new)
      (among_append x xs (z ∷ []) (among_from x (xs ++ z ∷ []) c));
  complete = λ x q. contains_of x (xs ++ z ∷ [])
      (⊎_elim (λ p. among_left x xs (z ∷ []) (among_from x xs (l.complete x p)))
      (λ same. among_right x xs (z ∷ []) (inl same)) (split x q));
})

-- The concatenation of two listings, of which each element of the first is less than each of the second, is a listing.
pub listing_joined : {X : Type 0} (cmp : X → X → Ordering) (P R Q : X → Type 0) (xs ys new : List X)
    → IsListing cmp P xs → IsListing cmp R ys → new ≡ xs ++ ys → ((x y : X) → P x → R y → cmp x y ≡ Less)
    → ((x : X) → Q x → P x ⊎ R x) → ((x : X) → P x → Q x) → ((x : X) → R x → Q x) → IsListing cmp Q new
listing_joined cmp P R Q xs ys new l m e less split keep come = subst (IsListing cmp Q) (sym e) (record {
  rises = rises_append cmp xs ys l.rises m.rises (λ x y a b. less x y (l.sound x (contains_of x xs a))
      (m.sound y (contains_of y ys b)));
  sound = λ x c. ⊎_elim (λ a. keep x (l.sound x (contains_of x xs a))) (λ b. come x (m.sound x (contains_of x ys b)))
      (among_append x xs ys (among_from x (xs ++ ys) c));
  complete = λ x q. contains_of x (xs ++ ys) (⊎_elim (λ p. among_left x xs ys (among_from x xs (l.complete x p)))
      (λ r. among_right x xs ys (among_from x ys (m.complete x r))) (split x q));
})

rises_mapped : {X Y : Type 0} (f : X → Y) (cmp : X → X → Ordering) (order : Y → Y → Ordering) (xs : List X)
    → ((x y : X) → IsOneOf x xs → IsOneOf y xs → cmp x y ≡ Less → order (f x) (f y) ≡ Less)
    → IsStrictlySortedBy cmp xs → IsStrictlySortedBy order (map f xs)
unfolding IsStrictlySortedBy
rises_mapped f cmp order [] less s = tt
rises_mapped f cmp order (x ∷ xs) less s = (
  all_of _ (map f xs) (λ z a.
      let y = among_map f z xs a in
      subst (λ w. order (f x) w ≡ Less) (sym y.2)
      (less x y.0 (inl refl) (inr y.1) (each_of _ xs y.0 s.0 y.1))),
  rises_mapped f cmp order xs (λ y z a b. less y z (inr a) (inr b)) s.1,
)

-- The values of a function at the elements of a listing are a listing, if the function keeps the order.
pub listing_mapped : {X Y : Type 0} (f : X → Y) (cmp : X → X → Ordering) (order : Y → Y → Ordering) (P : X → Type 0)
    (Q : Y → Type 0) (xs : List X) → IsListing cmp P xs
    → ((x y : X) → P x → P y → cmp x y ≡ Less → order (f x) (f y) ≡ Less) → ((x : X) → P x → Q (f x))
    → ((y : Y) → Q y → (x : X) × P x × (y ≡ f x)) → IsListing order Q (map f xs)
listing_mapped f cmp order P Q xs l less to from = record {
  rises = rises_mapped f cmp order xs (λ x y a b e. less x y (l.sound x (contains_of x xs a))
      (l.sound y (contains_of y xs b)) e) l.rises;
  sound = λ y c. let x = among_map f y xs (among_from y (map f xs) c) in
      subst Q (sym x.2) (to x.0 (l.sound x.0 (contains_of x.0 xs x.1)));
  complete = λ y q. let x = from y q in
      contains_of y (map f xs) (subst (λ z. IsOneOf z (map f xs)) (sym x.2)
      (map_among f x.0 xs (among_from x.0 xs (l.complete x.0 x.1))));
}

-- Each element of a sorted list is less than each one after it.
pub before_rest : {X : Type 0} (cmp : X → X → Ordering) (xs rest : List X) (z w : X) → IsStrictlySortedBy cmp
    (xs ++ z ∷ rest) → IsOneOf w xs → cmp w z ≡ Less
unfolding IsStrictlySortedBy
before_rest cmp [] rest z w s a = absurd a
before_rest cmp (x ∷ xs) rest z w s (inl e) = ap (λ v. cmp v z) e ∙ each_of _ (xs ++ z ∷ rest) z s.0
    (among_right z xs (z ∷ rest) (inl refl))
before_rest cmp (x ∷ xs) rest z w s (inr a) = before_rest cmp xs rest z w s.1 a

all_taken : {X : Type 0} (P : X → Type 0) (i : ℕ) (xs : List X) → AllByRecursion P xs → AllByRecursion P (take i xs)
all_taken P i xs all = grind (arith, common_steps)

rises_taken : {X : Type 0} (cmp : X → X → Ordering) (i : ℕ) (xs : List X) → IsStrictlySortedBy cmp xs
    → IsStrictlySortedBy cmp (take i xs)
unfolding IsStrictlySortedBy
rises_taken cmp zero xs s = tt
rises_taken cmp (suc i) [] s = tt
rises_taken cmp (suc i) (x ∷ xs) s = (all_taken _ i xs s.0, rises_taken cmp i xs s.1)

pub before_taken : {X : Type 0} (cmp : X → X → Ordering) (all : List X) (i : ℕ) (z w : X) → IsStrictlySortedBy cmp all
    → take (i + 1) all ≡ take i all ++ z ∷ [] → IsOneOf w (take i all) → cmp w z ≡ Less
before_taken cmp all i z w s e a =
    before_rest cmp (take i all) [] z w (subst (IsStrictlySortedBy cmp) e (rises_taken cmp (i + 1) all s)) a

-- The list has, in order, those of the first `i` elements of a sorted list that have a property.
abbrev pub IsChosen : {X : Type 0} → (X → X → Ordering) → List X → (X → Type 0) → ℕ → List X → Type 0
IsChosen cmp all Q i found = IsListing cmp (λ x. IsOneOf x (take i all) × Q x) found

module _ {X : Type 0} (cmp : X → X → Ordering) (all : List X) (rises : IsStrictlySortedBy cmp all)
    (Q : X → Type 0) where
  abbrev IsChosenUpTo : ℕ → List X → Type 0
  IsChosenUpTo = IsChosen cmp all Q

  pub chosen_none : (found : List X) → found ≡ [] → IsChosenUpTo 0 found
  chosen_none found e = listing_none cmp _ found e (λ x p. absurd p.0)

  pub chosen_more : (i : ℕ) (z : X) (found new : List X) → take (i + 1) all ≡ take i all ++ z ∷ [] → Q z
      → IsChosenUpTo i found → new ≡ found ++ z ∷ [] → IsChosenUpTo (i + 1) new
  chosen_more i z found new t q l e =
      listing_more cmp _ _ found new z l e (λ w p. before_taken cmp all i z w rises t p.0)
      (λ x p. ⊎_elim (λ old. inl (old, p.1)) (λ last. ⊎_elim (λ same. inr same) (λ n. absurd n) last)
      (among_append x (take i all) (z ∷ []) (subst (IsOneOf x) t p.0)))
      (λ x p. (subst (IsOneOf x) (sym t) (among_left x (take i all) (z ∷ []) p.0), p.1))
      (subst (IsOneOf z) (sym t) (among_right z (take i all) (z ∷ []) (inl refl)), q)

  pub chosen_skip : (i : ℕ) (z : X) (found new : List X) → take (i + 1) all ≡ take i all ++ z ∷ [] → (Q z → ⊥)
      → IsChosenUpTo i found → new ≡ found → IsChosenUpTo (i + 1) new
  chosen_skip i z found new t none l e =
      subst (IsChosenUpTo (i + 1)) (sym e) (listing_as cmp _ _ found
      (λ x p. (subst (IsOneOf x) (sym t) (among_left x (take i all) (z ∷ []) p.0), p.1))
      (λ x p. ⊎_elim (λ old. (old, p.1)) (λ last. ⊎_elim (λ same. absurd (none (subst Q same p.1))) (λ n. absurd n)
      last) (among_append x (take i all) (z ∷ []) (subst (IsOneOf x) t p.0))) l)

  pub chosen_whole : (P : X → Type 0) (i : ℕ) (found : List X) → IsListing cmp P all → length all ≤ i
      → ((x : X) → Q x → P x) → IsChosenUpTo i found → IsListing cmp Q found
  chosen_whole P i found listed long has l = grind (arith, common_steps, among_from, listing_as, take_all)
