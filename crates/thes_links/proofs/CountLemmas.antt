-- Of a list of distinct nodes at most two are ends of a given link: one its first end, and one its second.
use Rattle.std.proofs.lemmas.Grind.{common_steps}
use Rattle.std.proofs.Common.{◌≡◌, ◌==◌, ◌+◌, ◌*◌, ◌≤◌, ℕ, List, [], ◌∷◌, length, ap, ◌∙◌, arith, refl}
use Rattle.std.proofs.Common.{sum_by, true, false, nat_eq, if◌then◌else◌}
use Rattle.std.specs.List.{IsDistinct, AllByRecursion}
use Rattle.std.proofs.lemmas.List.Sums.{sum_by-cons, sum_by-le}
use Rattle.thes_base.specs.declared.data.Link.{Link}
use Rattle.thes_base.proofs.AssignedCountLemmas.{sums_same}
use Rattle.thes_links.specs.declared.edit.LinkEdit.{LinkEdit}
use Rattle.thes_links.specs.LinkEdit.{node_after, ends_at_node}
use Rattle.thes_links.proofs.ReadLemmas.{one_at}

module _ {X : Type 0} where
  pub sum_by-plus : (f g : X → ℕ) (xs : List X) → sum_by (λ x. f x + g x) xs ≡ sum_by f xs + sum_by g xs
  sum_by-plus f g [] = omega arith
  sum_by-plus f g (x ∷ xs) =
      omega (arith, sum_by-plus f g xs, sum_by-cons f x xs, sum_by-cons g x xs, sum_by-cons (λ x. f x + g x) x xs)

  pub sum_by-zero : (f : X → ℕ) (xs : List X) → AllByRecursion (λ x. f x ≡ 0) xs → sum_by f xs ≡ 0
  sum_by-zero f [] none = refl
  sum_by-zero f (x ∷ xs) none = omega (arith, none.0, sum_by-zero f xs none.1, sum_by-cons f x xs)

  sum_by-none : (xs : List X) → sum_by (λ _. 0) xs ≡ 0
  sum_by-none [] = refl
  sum_by-none (x ∷ xs) = omega (arith, sum_by-none xs, sum_by-cons (λ (_ : X). 0) x xs)

-- A number isn't in the rest of a list of distinct numbers if it is the first.
absent : (p x : ℕ) (xs : List ℕ) → (p == x) ≡ true → AllByRecursion (λ y. nat_eq x y ≡ false) xs
    → AllByRecursion (λ y. one_at p y ≡ 0) xs
absent p x [] here apart = tt
absent p x (y ∷ ys) here apart = ((let h : nat_eq x y ≡ false = apart.0 in grind arith), absent p x ys here apart.1)

at_most_one : (p x s : ℕ) → one_at p x ≤ 1
at_most_one p x s = grind arith

pub sum_by-one_at : (p : ℕ) (xs : List ℕ) → IsDistinct nat_eq xs → sum_by (one_at p) xs ≤ 1
unfolding IsDistinct
sum_by-one_at p [] distinct = omega arith
sum_by-one_at p (x ∷ xs) distinct =
    elim (p == x) as (λ b. (p == x) ≡ b → sum_by (one_at p) (x ∷ xs) ≤ 1) [
      | true ↦ λ here. omega (
        arith,
        sum_by-cons (one_at p) x xs,
        at_most_one p x 0,
        sum_by-zero (one_at p) xs
            (absent p x xs here distinct.0),
      )
      | false ↦ λ off. omega (arith, sum_by-cons (one_at p) x xs, off_zero off, sum_by-one_at p xs distinct.1)
    ] refl
  where
    off_zero : (p == x) ≡ false → one_at p x ≡ 0
    off_zero off = ap (λ b. if b then 1 else 0) off

module _ (nodes : List ℕ) (weight : ℕ → Link → ℕ) where
  -- The sum over nodes and links doesn't depend on the order of summation.
  swapped : (ns : List Link) → sum_by (λ n. sum_by (weight n) ns) nodes ≡ sum_by (λ l. sum_by (λ n. weight n l) nodes)
      ns
  swapped [] = sum_by-none nodes
  swapped (l ∷ ns) = omega (arith, split, swapped ns, sum_by-cons (λ l. sum_by (λ n. weight n l) nodes) l ns)
    where
      split : sum_by (λ n. sum_by (weight n) (l ∷ ns)) nodes ≡ sum_by (λ n. weight n l) nodes
          + sum_by (λ n. sum_by (weight n) ns) nodes
      split = sums_same (λ n. sum_by (weight n) (l ∷ ns)) (λ n. weight n l + sum_by (weight n) ns)
          (λ n. sum_by-cons (weight n) l ns) nodes
          ∙ sum_by-plus (λ n. weight n l) (λ n. sum_by (weight n) ns) nodes

  -- A bound for each link bounds the sum over all links.
  pub met_at_most : (most : ℕ) → ((l : Link) → sum_by (λ n. weight n l) nodes ≤ most) → (ns : List Link)
      → sum_by (λ n. sum_by (weight n) ns) nodes ≤ length ns * most
  met_at_most most each ns = grind (arith, common_steps, sum_by-le, swapped)

module _ (edit : LinkEdit) (nodes : List ℕ) (distinct : IsDistinct nat_eq nodes) where
  link_twice : (l : Link) → sum_by (λ n. ends_at_node edit n l) nodes ≤ 2
  link_twice l =
      omega (
        arith,
        sum_by-plus (one_at (node_after edit l.a)) (one_at (node_after edit l.b)) nodes,
        sum_by-one_at (node_after edit l.a) nodes distinct,
        sum_by-one_at (node_after edit l.b) nodes distinct,
      )

  -- Distinct nodes have at most two ends of each link in all.
  pub met_twice : (ns : List Link) → sum_by (λ n. sum_by (ends_at_node edit n) ns) nodes ≤ 2 * length ns
  met_twice ns = omega (arith, met_at_most nodes (ends_at_node edit) 2 link_twice ns)
