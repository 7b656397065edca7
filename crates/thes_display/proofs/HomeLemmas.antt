-- Proves that the first of the broader concepts, in the order of ranks, is the home.
use Rattle.std.proofs.lemmas.Grind.{common_steps}
use Rattle.std.proofs.Common.{◌≡◌, ◌≢◌, ◌⊎◌, ◌∙◌, ◌+◌, ◌≤◌, sym, ap, refl, subst, ℕ, List, [], ◌∷◌, ◌++◌, true, false}
use Rattle.std.proofs.Common.{Option, Some, None, arith, inl, inr, ⊎_elim, true≢false}
use Rattle.std.specs.Prelude.{Contains}
use Rattle.std.specs.List.{filter_map, cons_option}
use Rattle.std.proofs.lemmas.Option.{same_Some}
use Rattle.thes_base.specs.Links.{Links}
use Rattle.thes_base.specs.Listing.{IsListing}
use Rattle.thes_display.specs.declared.walk.Child.{Child}
use Rattle.thes_display.specs.ChildLists.{child, child_cmp}
use Rattle.thes_display.specs.Order.{Term}
use Rattle.thes_display.specs.Hierarchical.{IsHome, IsNarrowerTerm}
use Rattle.thes_display.specs.HierarchyParts.{AreHomes, AreHomesSet, IsChild, IsChildAt, IsHomeBelow, rank_at}
use Rattle.thes_display.proofs.ListLemmas.{IsOneOf, among_append, among_from, among_left, among_right, contains_of}
use Rattle.thes_display.proofs.RankLemmas.{same_or}
use Rattle.thes_display.proofs.HierarchyLemmas.{types_are, types_between}

-- A rank found for a list with one more concept is that concept's rank, or was found before.
from_one : (f : ℕ → Option ℕ) (x k : ℕ) (xs : List ℕ) (o : Option ℕ) → f x ≡ o
    → (IsOneOf k (filter_map f xs) → (y : ℕ) × IsOneOf y xs × (f y ≡ Some k))
    → IsOneOf k (cons_option o (filter_map f xs))
    → (y : ℕ) × IsOneOf y (x ∷ xs) × (f y ≡ Some k)
from_one f x k xs o g rest a = grind (arith, common_steps)

of_found : (f : ℕ → Option ℕ) (xs : List ℕ) (k : ℕ) → IsOneOf k (filter_map f xs) → (x : ℕ) × IsOneOf x xs
    × (f x ≡ Some k)
of_found f [] k a = absurd a
of_found f (x ∷ xs) k a = from_one f x k xs (f x) refl (λ b. of_found f xs k b) a

-- Each rank found is that of a concept in the list.
pub rank_from : (f : ℕ → Option ℕ) (ks xs : List ℕ) (k : ℕ) → ks ≡ filter_map f xs → IsOneOf k ks → (x : ℕ)
    × IsOneOf x xs × (f x ≡ Some k)
rank_from f ks xs k e a = of_found f xs k (subst (IsOneOf k) e a)

with_one : (k : ℕ) (o : Option ℕ) (ks : List ℕ) → IsOneOf k ks → IsOneOf k (cons_option o ks)
with_one k None ks a = a
with_one k (Some j) ks a = inr a

found_of : (f : ℕ → Option ℕ) (xs : List ℕ) (x k : ℕ) → IsOneOf x xs → f x ≡ Some k → IsOneOf k (filter_map f xs)
found_of f [] x k a g = absurd a
found_of f (y ∷ xs) x k (inl same) g = grind (arith, common_steps)
found_of f (y ∷ xs) x k (inr a) g = with_one k (f y) (filter_map f xs) (found_of f xs x k a g)

-- The rank of each concept in the list that has one is found.
pub rank_to : (f : ℕ → Option ℕ) (ks xs : List ℕ) (x k : ℕ) → ks ≡ filter_map f xs → IsOneOf x xs → f x ≡ Some k
    → IsOneOf k ks
rank_to f ks xs x k e a g = subst (IsOneOf k) (sym e) (found_of f xs x k a g)

-- One more child's home is set, if the child is at home.
module _ (rank : ℕ) (seen more : List Child) (c : Child) (e : more ≡ seen ++ c ∷ []) (old mid new : List (Option ℕ))
    (a : AreHomesSet rank seen old mid) where
  in_more : (d : Child) → Contains seen d → Contains more d
  in_more d i = contains_of d more (subst (IsOneOf d) (sym e) (among_left d seen (c ∷ []) (among_from d seen i)))

  last_in : Contains more c
  last_in = contains_of c more (subst (IsOneOf c) (sym e) (among_right c seen (c ∷ []) (inl refl)))

  of_more : (d : Child) → Contains more d → Contains seen d ⊎ (d ≡ c)
  of_more d i = ⊎_elim (λ old. inl (contains_of d seen old)) (λ last. ⊎_elim (λ same. inr same) (λ n. absurd n) last)
      (among_append d seen (c ∷ []) (subst (IsOneOf d) e (among_from d more i)))

  pub home_set : c.at_home ≡ true → rank_at new c.rank ≡ Some rank
      → ((m : ℕ) → m ≢ c.rank → rank_at new m ≡ rank_at mid m) → AreHomesSet rank more old new
  home_set h here other = record {
    set = λ d i at. ⊎_elim (λ same. ap (rank_at new) same ∙ here)
        (λ ne. ⊎_elim (λ old. other d.rank ne ∙ a.set d old at) (λ last. ap (λ (x : Child). rank_at new x.rank) last
        ∙ here) (of_more d i)) (same_or d.rank c.rank);
    same = λ k. ⊎_elim (λ same. inr (c, last_in, h, sym same, ap (rank_at new) same ∙ here))
        (λ ne. ⊎_elim (λ kept. inl (other k ne ∙ kept))
        (λ set. inr (set.0, in_more set.0 set.1, set.2, set.3, other k ne ∙ set.4)) (a.same k)) (same_or k c.rank);
  }

  pub home_kept : c.at_home ≡ false → new ≡ mid → AreHomesSet rank more old new
  home_kept h kept = record {
    set = λ d i at. ⊎_elim (λ old. ap (λ hs. rank_at hs d.rank) kept ∙ a.set d old at)
        (λ last. absurd (true≢false (sym at ∙ ap (λ (x : Child). x.at_home) last ∙ h))) (of_more d i);
    same = λ k. ⊎_elim (λ same. inl (ap (λ hs. rank_at hs k) kept ∙ same))
        (λ set. inr (set.0, in_more set.0 set.1, set.2, set.3, ap (λ hs. rank_at hs k) kept ∙ set.4)) (a.same k);
  }

pub homes_start : (rank : ℕ) (homes : List (Option ℕ)) → AreHomesSet rank [] homes homes
homes_start rank homes = record { set = λ d i at. absurd (among_from d [] i); same = λ k. inl refl }

module _ (links : Links) (terms : List Term) where
  pub homes_none : (homes : List (Option ℕ)) → homes ≡ [] → AreHomes links terms 0 homes
  homes_none homes e k = subst (λ hs. IsHomeBelow links terms 0 k (rank_at hs k)) (sym e) (λ b r. omega arith)

  -- The homes below `m`, with `m` set as the home of its children at home, are the homes below `m + 1`.
  pub homes_more : (m : ℕ) (children : List Child) (old new : List (Option ℕ)) → AreHomes links terms m old
      → IsListing child_cmp (IsChild links terms m) children → AreHomesSet m children old new
      → AreHomes links terms (m + 1) new
  homes_more m children old new are listed set k = at_rank (rank_at new k) refl
    where
      kept : (o : Option ℕ) → rank_at new k ≡ o → rank_at new k ≡ rank_at old k → IsHomeBelow links terms m k o
      kept o e same = subst (IsHomeBelow links terms m k) (sym same ∙ e) (are k)

      home_of_child : (c : Child) → IsChild links terms m c → c.at_home ≡ true → IsHome links terms c.rank m
      home_of_child c i h = subst (λ b. IsChildAt links terms b c.rank m) h i.0

      not_narrower : rank_at new k ≡ None → ((b : ℕ) → IsNarrowerTerm links terms k b → m ≤ b)
          → IsNarrowerTerm links terms k m → ⊥
      not_narrower e least r =
          let c = child k (types_between links r.lower r.upper) true in
          let at = listed.complete c (record { broader = r; least = least }, types_are links terms k m r) in
          none_some (sym e ∙ set.set c at refl)
        where
          none_some : None ≡ Some m → ⊥
          none_some q = cc

      at_rank : (o : Option ℕ) → rank_at new k ≡ o → IsHomeBelow links terms (m + 1) k o
      at_rank None e = ⊎_elim
          (λ same. λ b r.
          let l = kept None e same b r in
          let ne : m ≡ b → ⊥ = λ q. not_narrower e (kept None e same)
          (subst (IsNarrowerTerm links terms k) (sym q) r) in
          omega (arith, l, ne))
          (λ s. absurd (none_some (sym e ∙ s.4))) (set.same k)
        where
          none_some : None ≡ Some m → ⊥
          none_some q = cc
      at_rank (Some b) e = ⊎_elim (λ same. let h = kept (Some b) e same in (h.0, let l = h.1 in omega (arith, l)))
          (λ s.
          let is : m ≡ b = same_Some m b (sym s.4 ∙ e) in
          let h = home_of_child s.0 (listed.sound s.0 s.1) s.2 in
          (subst (IsHome links terms k) is (subst (λ j. IsHome links terms j m) s.3 h), omega (arith, is)))
          (set.same k)
