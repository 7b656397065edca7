-- Proves which lines of a hierarchy, given as lists, have paths through a given line.
use Rattle.std.proofs.lemmas.Grind.{common_steps}
use Rattle.std.proofs.Common.{◌≡◌, ◌⊎◌, ◌∙◌, ◌<◌, sym, ap, refl, subst, ℕ, Bool, true, false, List, [], ◌∷◌, map, inl}
use Rattle.std.proofs.Common.{inr, Less, true≢false, arith}
use Rattle.std.specs.Ordering.{nat_cmp}
use Rattle.std.specs.Cmp.{tied_itself, nat_cmp_total}
use Rattle.std.specs.List.Sorted.{IsStrictlySortedBy}
use Rattle.thes_display.specs.declared.walk.Child.{Child}
use Rattle.thes_display.specs.declared.walk.Types.{Types}
use Rattle.thes_display.specs.Lines.{TreeLine, IsHomeward, IsPlaced, HasTypes, untyped}
use Rattle.thes_display.specs.ChildLists.{children_at, child, child_cmp, IsTopRank, IsChildOf, IsTypedUnder}
use Rattle.thes_display.specs.ChildLists.{IsLineOfLists, AreHierarchyLists}
use Rattle.thes_display.proofs.ListLemmas.{IsOneOf, among_from, contains_of, among_map, map_among, each_of}
use Rattle.thes_display.proofs.WalkLemmas.{path_up, path_onto, Extends, child_line}

not_below_itself : (x : ℕ) → nat_cmp x x ≡ Less → ⊥
not_below_itself x e = let t = tied_itself nat_cmp_total x in cc

-- A sorted list of children has each rank at most once.
one_child : (cs : List Child) → IsStrictlySortedBy child_cmp cs → (k : ℕ) (x y : Child) → x.rank ≡ k → y.rank ≡ k
    → IsOneOf x cs → IsOneOf y cs → x ≡ y
unfolding IsStrictlySortedBy
one_child [] s k x y p q a b = absurd a
one_child (c ∷ cs) s k x y p q (inl e) (inl f) = e ∙ sym f
one_child (c ∷ cs) s k x y p q (inl e) (inr b) =
    absurd (not_below_itself k (subst (λ z. nat_cmp z k ≡ Less) (sym (ap (λ (x : Child). x.rank) e) ∙ p)
    (subst (λ z. nat_cmp c.rank z ≡ Less) q (each_of _ cs y s.0 b))))
one_child (c ∷ cs) s k x y p q (inr a) (inl f) =
    absurd (not_below_itself k (subst (λ z. nat_cmp z k ≡ Less) (sym (ap (λ (x : Child). x.rank) f) ∙ q)
    (subst (λ z. nat_cmp c.rank z ≡ Less) p (each_of _ cs x s.0 a))))
one_child (c ∷ cs) s k x y p q (inr a) (inr b) = one_child cs s.1 k x y p q a b

module _ (tops : List Child) (below : List (List Child)) (n : ℕ) (o : AreHierarchyLists tops below n) where
  abbrev pub Homeward : List ℕ → Type 0
  Homeward = IsHomeward (IsTopRank tops below) (IsChildOf tops below true) (IsChildOf tops below false)
      (IsTypedUnder tops below)

  abbrev pub IsPlacedHere : Bool → List ℕ → Type 0
  IsPlacedHere = IsPlaced (IsTopRank tops below) (IsChildOf tops below true) (IsChildOf tops below false)
      (IsTypedUnder tops below)

  abbrev HasTypesHere : Types → List ℕ → Type 0
  HasTypesHere = HasTypes (IsTopRank tops below) (IsChildOf tops below true) (IsChildOf tops below false)
      (IsTypedUnder tops below)

  kinds : (k b : ℕ) (g h : Bool) → IsChildOf tops below g k b → IsChildOf tops below h k b → g ≡ h
  kinds k b g h p q = ap (λ (c : Child). c.at_home) (one_child (children_at below b) (o.rises b) k (child k p.0 g)
      (child k q.0 h) refl refl (among_from _ _ p.1) (among_from _ _ q.1))

  -- The path of a line determines its types.
  same_types : (u : List ℕ) (s t : Types) → HasTypesHere s u → HasTypesHere t u → s ≡ t
  same_types [] s t p q = absurd p
  same_types (k ∷ []) s t p q = p ∙ sym q
  same_types (k ∷ b ∷ above) s t p q =
      ap (λ (c : Child). c.types) (one_child (children_at below b) (o.rises b) k (child k s p.0) (child k t q.0) refl
      refl (among_from _ _ p.1) (among_from _ _ q.1))

  -- The path of a line determines whether the line is at home.
  same_place : (u : List ℕ) (g h : Bool) → IsPlacedHere g u → IsPlacedHere h u → g ≡ h
  same_place u true true p q = refl
  same_place u false false p q = refl
  same_place [] true false p q = absurd q
  same_place (k ∷ []) true false p q = absurd q
  same_place (k ∷ b ∷ above) true false p q = kinds k b true false p.0 q.0
  same_place [] false true p q = absurd p
  same_place (k ∷ []) false true p q = absurd p
  same_place (k ∷ b ∷ above) false true p q = kinds k b false true p.0 q.0

  -- A line below this one is a child of it, or is below a child of it that is at home.
  child_of : (r : List ℕ) (x k : ℕ) (ys : List ℕ) (h : Bool) → IsPlacedHere h (path_onto r (x ∷ k ∷ ys))
      → ((g : Bool) × IsChildOf tops below g x k × ((r ≡ []) → g ≡ h)) × Homeward (k ∷ ys)
  child_of [] x k ys true p = ((true, p.0, λ e. refl), p.1)
  child_of [] x k ys false p = ((false, p.0, λ e. refl), p.1)
  child_of (y ∷ r) x k ys h p = grind (arith, common_steps, child_of r y x (k ∷ ys) h p)

  abbrev pub IsIt : TreeLine → Type 0
  IsIt = IsLineOfLists tops below

  same_line : (l p : TreeLine) → IsIt l → IsIt p → path_up l ≡ path_up p → l ≡ p
  same_line l p i j e =
      let h : l.at_home ≡ p.at_home = same_place (path_up p) l.at_home p.at_home
      (subst (IsPlacedHere l.at_home) e i.0) j.0 in
      let t : l.types ≡ p.types = same_types (path_up p) l.types p.types (subst (HasTypesHere l.types) e i.1) j.1 in
      let a : l.rank ≡ p.rank = cc in
      let b : l.above ≡ p.above = cc in
      λ i. record { rank = a i; above = b i; types = t i; at_home = h i }

  -- No line is below a line that isn't at home.
  pub below_away : (p l : TreeLine) → IsIt p → p.at_home ≡ false → IsIt l → Extends p l → l ≡ p
  below_away p l i away j ([], e) = same_line l p j i e
  below_away p l i away j (x ∷ r, e) =
      let h = (child_of r x p.rank p.above l.at_home (subst (IsPlacedHere l.at_home) e j.0)).1 in
      absurd (true≢false (same_place (path_up p) true p.at_home h i.0 ∙ away))

  -- A line below a line at home is below one of its children, or is the line itself.
  pub below_home : (p l : TreeLine) → IsIt p → p.at_home ≡ true → IsIt l → Extends p l → (l ≡ p)
      ⊎ ((k : TreeLine) × IsOneOf k (map (child_line (path_up p)) (children_at below p.rank)) × Extends k l)
  below_home p l i home j ([], e) = inl (same_line l p j i e)
  below_home p l i home j (x ∷ r, e) =
      let c = (child_of r x p.rank p.above l.at_home (subst (IsPlacedHere l.at_home) e j.0)).0 in
      let kid = child x c.1.0 c.0 in
      inr (
        child_line (path_up p) kid,
        map_among (child_line (path_up p)) kid (children_at below p.rank) (among_from _ _ c.1.1),
        (r, e),
      )

  -- The children of a line at home are lines of the hierarchy.
  placed_line : (p : TreeLine) → Homeward (path_up p) → (c : Child) → IsOneOf c (children_at below p.rank)
      → IsIt (child_line (path_up p) c)
  placed_line p i c a = grind (arith, common_steps, contains_of)

  pub children_below : (p : TreeLine) → IsIt p → p.at_home ≡ true → (k : TreeLine)
      → IsOneOf k (map (child_line (path_up p)) (children_at below p.rank)) → IsIt k
      × ((x : ℕ) × (path_up k ≡ x ∷ path_up p))
  children_below p i home k a =
      let c = among_map (child_line (path_up p)) k (children_at below p.rank) a in (
        subst IsIt (sym c.2) (placed_line p (subst (λ h. IsPlacedHere h (path_up p)) home i.0) c.0 c.1),
        (c.0.rank, ap path_up c.2),
      )

  -- A concept has at most one path of homes up to a top concept.
  one_above : (k : ℕ) (xs ys : List ℕ) → Homeward (k ∷ xs) → Homeward (k ∷ ys) → xs ≡ ys
  one_above k [] [] p q = refl
  one_above k [] (c ∷ ys) p q = absurd (o.top_home k c p q.0)
  one_above k (b ∷ xs) [] p q = absurd (o.top_home k b q p.0)
  one_above k (b ∷ xs) (c ∷ ys) p q =
      let e = o.one_home k b c p.0 q.0 in
      let f = one_above b xs ys p.1 (subst (λ z. Homeward (z ∷ ys)) (sym e) q.1) in
      cc

  pub one_home_line : (l p : TreeLine) → IsIt l → IsIt p → l.at_home ≡ true → p.at_home ≡ true → l.rank ≡ p.rank → l ≡ p
  one_home_line l p i j g h e = grind (arith, common_steps, one_above, same_line)

  -- The ranks of lines are below `n`.
  pub line_known : (l : TreeLine) → IsIt l → l.rank < n
  line_known l i = known_at l.at_home l.rank l.above i.0
    where
      known_at : (h : Bool) (k : ℕ) (above : List ℕ) → IsPlacedHere h (k ∷ above) → k < n
      known_at true k [] p = (o.tops_home (child k untyped true) p).2
      known_at true k (b ∷ above) p = o.ranks_bounded b (child k p.0.0 true) p.0.1
      known_at false k [] p = absurd p
      known_at false k (b ∷ above) p = o.ranks_bounded b (child k p.0.0 false) p.0.1
