-- Proves which elements appended and mapped lists have, and when a list that is extended is sorted.
use Rattle.std.proofs.Common.{◌≡◌, ◌⊎◌, ◌<◌, sym, ap, refl, subst, ℕ, zero, suc, List, [], ◌∷◌, ◌++◌}
use Rattle.std.proofs.Common.{map, length, arith, ⊎_elim, inl, inr, Ordering, Less}
use Rattle.std.specs.Prelude.{Contains}
use Rattle.std.specs.List.{AllByRecursion, slice_index_or}
use Rattle.std.specs.List.Sorted.{IsStrictlySortedBy}

abbrev pub IsOneOf : {X : Type 0} → X → List X → Type 0
IsOneOf x [] = ⊥
IsOneOf x (y ∷ ys) = (x ≡ y) ⊎ IsOneOf x ys

in_cases : {X : Type 0} (x z : X) (xs : List X) (k : ℕ) → k < length (x ∷ xs) → slice_index_or (x ∷ xs) k z ≡ z
    → (z ≡ x) ⊎ Contains xs z
in_cases x z xs zero l e = inl (sym e)
in_cases x z xs (suc k) l e = inr (k, omega arith, e)

pub among_from : {X : Type 0} (z : X) (xs : List X) → Contains xs z → IsOneOf z xs
among_from z [] c = let l = c.1 in absurd (omega arith)
among_from z (x ∷ xs) c = ⊎_elim (λ e. inl e) (λ more. inr (among_from z xs more)) (in_cases x z xs c.0 c.1 c.2)

pub contains_of : {X : Type 0} (z : X) (xs : List X) → IsOneOf z xs → Contains xs z
contains_of z [] c = absurd c
contains_of z (x ∷ xs) (inl e) = (0, omega arith, sym e)
contains_of z (x ∷ xs) (inr c) = let r = contains_of z xs c in (suc r.0, omega (arith, r.1), r.2)

pub among_append : {X : Type 0} (z : X) (xs ys : List X) → IsOneOf z (xs ++ ys) → IsOneOf z xs ⊎ IsOneOf z ys
among_append z [] ys a = inr a
among_append z (x ∷ xs) ys (inl e) = inl (inl e)
among_append z (x ∷ xs) ys (inr a) = ⊎_elim (λ l. inl (inr l)) (λ r. inr r) (among_append z xs ys a)

pub among_left : {X : Type 0} (z : X) (xs ys : List X) → IsOneOf z xs → IsOneOf z (xs ++ ys)
among_left z [] ys a = absurd a
among_left z (x ∷ xs) ys (inl e) = inl e
among_left z (x ∷ xs) ys (inr a) = inr (among_left z xs ys a)

pub among_right : {X : Type 0} (z : X) (xs ys : List X) → IsOneOf z ys → IsOneOf z (xs ++ ys)
among_right z [] ys a = a
among_right z (x ∷ xs) ys a = inr (among_right z xs ys a)

pub among_map : {X Y : Type 0} (f : X → Y) (z : Y) (xs : List X) → IsOneOf z (map f xs) → (x : X) × IsOneOf x xs
    × (z ≡ f x)
among_map f z [] a = absurd a
among_map f z (x ∷ xs) (inl e) = (x, inl refl, e)
among_map f z (x ∷ xs) (inr a) = let r = among_map f z xs a in (r.0, inr r.1, r.2)

pub map_among : {X Y : Type 0} (f : X → Y) (x : X) (xs : List X) → IsOneOf x xs → IsOneOf (f x) (map f xs)
map_among f x [] a = absurd a
map_among f x (y ∷ xs) (inl e) = inl (ap f e)
map_among f x (y ∷ xs) (inr a) = inr (map_among f x xs a)

pub all_of : {X : Type 0} (P : X → Type 0) (xs : List X) → ((z : X) → IsOneOf z xs → P z) → AllByRecursion P xs
all_of P [] f = tt
all_of P (x ∷ xs) f = (f x (inl refl), all_of P xs (λ z a. f z (inr a)))

pub each_of : {X : Type 0} (P : X → Type 0) (xs : List X) (z : X) → AllByRecursion P xs → IsOneOf z xs → P z
each_of P [] z all a = absurd a
each_of P (x ∷ xs) z all (inl e) = subst P (sym e) all.0
each_of P (x ∷ xs) z all (inr a) = each_of P xs z all.1 a

pub rises_none : {X : Type 0} (cmp : X → X → Ordering) → IsStrictlySortedBy cmp []
unfolding IsStrictlySortedBy
rises_none cmp = tt

pub rises_append : {X : Type 0} (cmp : X → X → Ordering) (xs ys : List X) → IsStrictlySortedBy cmp xs
    → IsStrictlySortedBy cmp ys → ((x y : X) → IsOneOf x xs → IsOneOf y ys → cmp x y ≡ Less) → IsStrictlySortedBy cmp
    (xs ++ ys)
unfolding IsStrictlySortedBy
rises_append cmp [] ys s t f = t
rises_append cmp (x ∷ xs) ys s t f = (
  all_of _ (xs ++ ys) (λ z a. ⊎_elim (λ l. each_of _ xs z s.0 l) (λ r. f x z (inl refl) r) (among_append z xs ys a)),
  rises_append cmp xs ys s.1 t (λ z y a b. f z y (inr a) b),
)

-- A sorted list extended by a greater element is sorted.
pub rises_more : {X : Type 0} (cmp : X → X → Ordering) (xs : List X) (z : X) → IsStrictlySortedBy cmp xs
    → ((w : X) → IsOneOf w xs → cmp w z ≡ Less) → IsStrictlySortedBy cmp (xs ++ z ∷ [])
unfolding IsStrictlySortedBy
rises_more cmp xs z s f = rises_append cmp xs (z ∷ []) s (tt, tt)
    (λ x y a b. ⊎_elim (λ e. subst (λ q. cmp x q ≡ Less) (sym e) (f x a)) (λ n. absurd n) b)
