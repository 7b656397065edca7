-- Proves that a depth-first walk from the top concepts writes the lines in the order of their paths.
use Rattle.std.proofs.lemmas.Grind.{common_steps}
use Rattle.std.proofs.Common.{◌≡◌, ◌⊎◌, ◌∙◌, sym, ap, refl, subst, ℕ, List, [], ◌∷◌, ◌++◌, reverse}
use Rattle.std.proofs.Common.{map, arith, ⊎_elim, inl, inr, append_assoc, append-nil, Ordering, Less, Equal}
use mathlib.Core.List.{reverse-cons}
use Rattle.std.specs.Ordering.{ordering_then, nat_cmp}
use Rattle.std.specs.Cmp.{tied_itself, nat_cmp_total}
use Rattle.std.specs.Cmp.Lexicographic.{slice_cmp}
use Rattle.std.specs.List.{AllByRecursion}
use Rattle.std.specs.List.Sorted.{IsStrictlySortedBy}
use Rattle.thes_base.specs.Listing.{IsListing}
use Rattle.thes_display.specs.declared.walk.Child.{Child}
use Rattle.thes_display.specs.Lines.{TreeLine, path, line_cmp}
use Rattle.thes_display.specs.ChildLists.{child_cmp}
use Rattle.thes_display.proofs.ListLemmas.{IsOneOf, among_from, contains_of, among_append, among_left, among_right}
use Rattle.thes_display.proofs.ListLemmas.{all_of, each_of, rises_more}

-- The ranks from a line's concept up to its top concept.
abbrev pub path_up : TreeLine → List ℕ
path_up l = l.rank ∷ l.above

-- The path `u`, continued downwards by these ranks.
abbrev pub path_onto : List ℕ → List ℕ → List ℕ
path_onto [] u = u
path_onto (x ∷ r) u = path_onto r (x ∷ u)

reverse_onto : (r u : List ℕ) → reverse (path_onto r u) ≡ reverse u ++ r
reverse_onto [] u = sym (append-nil (reverse u))
reverse_onto (x ∷ r) u = grind (arith, common_steps, append_assoc, reverse-cons, reverse_onto r (x ∷ u))

-- The path of the second line extends that of the first, or equals it.
abbrev pub Extends : TreeLine → TreeLine → Type 0
Extends p l = (r : List ℕ) × (path_up l ≡ path_onto r (path_up p))

then_same : (c : Ordering) (d : Ordering) → c ≡ Equal → ordering_then c d ≡ d
then_same c d e = ap (λ r. ordering_then r d) e

then_less : (c : Ordering) (d : Ordering) → c ≡ Less → ordering_then c d ≡ Less
then_less c d e = ap (λ r. ordering_then r d) e

-- Two lists with a common prefix compare as their next ranks do.
less_behind : (front : List ℕ) (x y : ℕ) (a b : List ℕ) → nat_cmp x y ≡ Less → slice_cmp nat_cmp (front ++ x ∷ a)
    (front ++ y ∷ b) ≡ Less
less_behind [] x y a b e = then_less _ _ e
less_behind (c ∷ front) x y a b e = then_same _ _ (tied_itself nat_cmp_total c) ∙ less_behind front x y a b e

-- A list is less than each of its extensions.
less_longer : (front : List ℕ) (x : ℕ) (a : List ℕ) → slice_cmp nat_cmp front (front ++ x ∷ a) ≡ Less
less_longer [] x a = refl
less_longer (c ∷ front) x a = then_same _ _ (tied_itself nat_cmp_total c) ∙ less_longer front x a

pub less_itself : (front : List ℕ) → slice_cmp nat_cmp front front ≡ Equal
less_itself [] = refl
less_itself (c ∷ front) = then_same _ _ (tied_itself nat_cmp_total c) ∙ less_itself front

-- The path of a line below `u` begins with the ranks of `u` from the top down, and continues with the ranks below.
path_is : (l : TreeLine) (r u : List ℕ) (x : ℕ) → path_up l ≡ path_onto r (x ∷ u) → path l ≡ reverse u ++ x ∷ r
path_is l r u x e = ap reverse e ∙ reverse_onto (x ∷ r) u

-- Lines below different children of `u` compare as the ranks of these children do.
apart_below : (u : List ℕ) (x y : ℕ) (l m : TreeLine) (a b : List ℕ) → nat_cmp x y ≡ Less → path_up l
    ≡ path_onto a (x ∷ u) → path_up m ≡ path_onto b (y ∷ u) → line_cmp l m ≡ Less
apart_below u x y l m a b e f g =
    subst (λ z. slice_cmp nat_cmp z (path m) ≡ Less) (sym (path_is l a u x f))
    (subst (λ z. slice_cmp nat_cmp (reverse u ++ x ∷ a) z ≡ Less) (sym (path_is m b u y g))
    (less_behind (reverse u) x y a b e))

-- Each line at or below `p` comes before each at or below `q`.
pub record IsLineBefore (p q : TreeLine) : Type 0 where
  pub less : (l m : TreeLine) → Extends p l → Extends q m → line_cmp l m ≡ Less

abbrev pub PairwiseBefore : List TreeLine → Type 0
PairwiseBefore [] = Unit {0}
PairwiseBefore (p ∷ ps) = AllByRecursion (IsLineBefore p) ps × PairwiseBefore ps

-- The line of a child below these ranks.
abbrev pub child_line : List ℕ → Child → TreeLine
child_line u c = record { rank = c.rank; above = u; types = c.types; at_home = c.at_home }

placed_before : (u : List ℕ) (c d : Child) → child_cmp c d ≡ Less → IsLineBefore (child_line u c) (child_line u d)
placed_before u c d e = record { less = λ l m a b. apart_below u c.rank d.rank l m a.0 b.0 e a.1 b.1 }

all_before : (u : List ℕ) (c : Child) (ds : List Child) → AllByRecursion (λ d. child_cmp c d ≡ Less) ds
    → AllByRecursion (IsLineBefore (child_line u c)) (map (child_line u) ds)
all_before u c [] s = tt
all_before u c (d ∷ ds) s = (placed_before u c d s.0, all_before u c ds s.1)

pub placed_apart : (u : List ℕ) (cs : List Child) → IsStrictlySortedBy child_cmp cs
    → PairwiseBefore (map (child_line u) cs)
unfolding IsStrictlySortedBy
placed_apart u [] s = tt
placed_apart u (c ∷ cs) s = (all_before u c cs s.0, placed_apart u cs s.1)

apart_append : (xs ys : List TreeLine) → PairwiseBefore xs → PairwiseBefore ys
    → ((x y : TreeLine) → IsOneOf x xs → IsOneOf y ys → IsLineBefore x y) → PairwiseBefore (xs ++ ys)
apart_append [] ys p q f = q
apart_append (x ∷ xs) ys p q f = (
  all_of _ (xs ++ ys) (λ z a. ⊎_elim (λ l. each_of _ xs z p.0 l) (λ r. f x z (inl refl) r) (among_append z xs ys a)),
  apart_append xs ys p.1 q (λ z y a b. f z y (inr a) b),
)

-- The invariant of the walk: the lines are written or waiting, the next one first, and each line not yet written is at
-- or below a waiting one.
pub record IsWalk (IsIt : TreeLine → Type 0) (written waiting : List TreeLine) : Type 0 where
  pub written_lines : (l : TreeLine) → IsOneOf l written → IsIt l
  pub waiting_lines : (l : TreeLine) → IsOneOf l waiting → IsIt l
  pub rises : IsStrictlySortedBy line_cmp written
  pub earlier : (w p l : TreeLine) → IsOneOf w written → IsOneOf p waiting → Extends p l → line_cmp w l ≡ Less
  pub apart : PairwiseBefore waiting
  pub rest : (l : TreeLine) → IsIt l → IsOneOf l written ⊎ ((p : TreeLine) × IsOneOf p waiting × Extends p l)

-- A walk without a waiting line has written all lines, in order.
pub walk_done : (IsIt : TreeLine → Type 0) (written : List TreeLine) → IsWalk IsIt written []
    → IsListing line_cmp IsIt written
walk_done IsIt written h = grind (arith, common_steps, among_from, contains_of)

-- A step of the walk writes the first waiting line, and its children become the first waiting ones.
module _ (IsIt : TreeLine → Type 0) (written : List TreeLine) (p : TreeLine) (ps kids : List TreeLine)
    (h : IsWalk IsIt written (p ∷ ps))
    (below : (k : TreeLine) → IsOneOf k kids → IsIt k × ((x : ℕ) × (path_up k ≡ x ∷ path_up p)))
    (apart : PairwiseBefore kids)
    (all : (l : TreeLine) → IsIt l → Extends p l → (l ≡ p) ⊎ ((k : TreeLine) × IsOneOf k kids × Extends k l)) where
  child_extends : (k l : TreeLine) → IsOneOf k kids → Extends k l → Extends p l
  child_extends k l a e = let b = (below k a).1 in (b.0 ∷ e.0, e.1 ∙ ap (path_onto e.0) b.1)

  child_after : (k l : TreeLine) → IsOneOf k kids → Extends k l → line_cmp p l ≡ Less
  child_after k l a e =
      let b = (below k a).1 in
      let f : path l ≡ reverse (path_up p) ++ b.0 ∷ e.0 =
      path_is l e.0 (path_up p) b.0 (e.1 ∙ ap (path_onto e.0) b.1) in
      subst (λ z. slice_cmp nat_cmp (path p) z ≡ Less) (sym f) (less_longer (path p) b.0 e.0)

  earlier : (w q l : TreeLine) → IsOneOf w (written ++ p ∷ []) → IsOneOf q (kids ++ ps) → Extends q l
      → line_cmp w l ≡ Less
  earlier w q l a b e =
      ⊎_elim
      (λ old. ⊎_elim (λ kid. h.earlier w p l old (inl refl) (child_extends q l kid e))
      (λ other. h.earlier w q l old (inr other) e) (among_append q kids ps b))
      (λ new. ⊎_elim (λ same. subst (λ z. line_cmp z l ≡ Less) (sym same)
      (⊎_elim (λ kid. child_after q l kid e) (λ other. (each_of _ ps q h.apart.0 other).less p l ([], refl) e)
      (among_append q kids ps b))) (λ n. absurd n) new)
      (among_append w written (p ∷ []) a)

  rest : (l : TreeLine) → IsIt l → IsOneOf l (written ++ p ∷ []) ⊎ ((q : TreeLine) × IsOneOf q (kids ++ ps)
      × Extends q l)
  rest l i =
      ⊎_elim (λ old. inl (among_left l written (p ∷ []) old))
      (λ (w : (q : TreeLine) × IsOneOf q (p ∷ ps) × Extends q l).
      ⊎_elim
      (λ (same : w.0 ≡ p). ⊎_elim (λ e. inl (among_right l written (p ∷ []) (inl e)))
      (λ k. inr (k.0, among_left k.0 kids ps k.1, k.2)) (all l i (subst (λ q. Extends q l) same w.2)))
      (λ other. inr (w.0, among_right w.0 kids ps other, w.2))
      w.1)
      (h.rest l i)

  pub walk_step : IsWalk IsIt (written ++ p ∷ []) (kids ++ ps)
  walk_step = record {
    written_lines = λ l a. ⊎_elim (λ old. h.written_lines l old)
        (λ new. ⊎_elim (λ e. subst IsIt (sym e) (h.waiting_lines p (inl refl))) (λ n. absurd n) new)
        (among_append l written (p ∷ []) a);
    waiting_lines = λ l a. ⊎_elim (λ kid. (below l kid).0) (λ other. h.waiting_lines l (inr other))
        (among_append l kids ps a);
    rises = rises_more line_cmp written p h.rises (λ w a. h.earlier w p p a (inl refl) ([], refl));
    earlier = earlier;
    apart = apart_append kids ps apart h.apart.1
        (λ k q a b. record { less = λ l m e f. (each_of _ ps q h.apart.0 b).less l m (child_extends k l a e) f });
    rest = rest;
  }
