-- The graph still marks exactly the outside concepts after a resource is added, taken back or marked as dead.
use Rattle.std.proofs.lemmas.Grind.{common_steps}
use Rattle.std.proofs.Common.{◌≡◌, ◌≢◌, ◌⊎◌, ◌+◌, ℕ, length, List, [], ◌∷◌, ◌++◌, refl, sym, ap, ◌∙◌, inl, inr, Bool, true}
use Rattle.std.proofs.Common.{false, arith}
use Rattle.std.specs.Prelude.{Option, None, Some}
use Rattle.std.specs.Option.{option_map_or}
use Rattle.std.specs.Cmp.{both_ways, nat_cmp_total}
use Rattle.std.specs.FinSet as set
use Rattle.std.specs.FinSet.{FinSet}
use Rattle.std.specs.Ordering.{nat_cmp}
use Rattle.std.proofs.lemmas.Map.Lookups.{exact_unsigned}
use Rattle.thes_base.specs.declared.data.Resource.{Resource}
use Rattle.thes_base.specs.Resources.{entry_at, IsOutside, is_outside, is_outside_kind, IsConcept}
use Rattle.thes_base.specs.Changes.{resources_after_death, outside_resource}
use Rattle.thes_base.proofs.NumberedLemmas.{numbered_bound, push_new}
use Rattle.thes_base.proofs.ResourceLemmas.{marked_dead_at, passes_push, passes_pop, passes_dead, passes_before}
use Rattle.thes_base.proofs.SetMemberLemmas.{inserted_cases, inserted_kept, inserted_new, removed_cases, removed_kept}
use Rattle.thes_base.proofs.LegalLinkLemmas.{outside_test}
use Rattle.thes_core.specs.declared.thesaurus.Thesaurus.{Thesaurus}
use Rattle.thes_links.specs.GraphView.{MarksOutside}

abbrev is_out : Resource → Bool
is_out r = is_outside_kind r.kind

abbrev test_of : Option Resource → Bool
test_of o = option_map_or is_out o false

test_passed : (rs : List Resource) (n : ℕ) → is_outside rs n ≡ true → IsOutside rs n
test_passed rs n e = grind (arith, common_steps)

-- A resource of kind Concept isn't an outside concept.
pub concept_inside : (rs : List Resource) (n : ℕ) → IsConcept rs n → is_outside rs n ≡ false
concept_inside rs n (r, at, concept) = grind (arith, common_steps)

pub same_outside : (rs ss : List Resource) (n : ℕ) → (IsOutside rs n → IsOutside ss n)
    → (IsOutside ss n → IsOutside rs n) → is_outside rs n ≡ is_outside ss n
same_outside rs ss n there back = both_ways _ _ (λ e. outside_test ss n (there (test_passed rs n e)))
    (λ e. outside_test rs n (back (test_passed ss n e)))

-- Marking a resource as dead changes no resource's kind.
pub outside_marked_dead : (rs : List Resource) (n : ℕ) (rep : Option ℕ) (m : ℕ)
    → is_outside (resources_after_death n rep rs) m ≡ is_outside rs m
outside_marked_dead rs n rep m = go (entry_at rs n) refl
  where
    go : (o : Option Resource) → entry_at rs n ≡ o → is_outside (resources_after_death n rep rs) m ≡ is_outside rs m
    go None none = grind (arith, common_steps)
    go (Some r) at = ap (λ (xs : List Resource). is_outside xs m) (marked_dead_at rs n rep r at)
        ∙ same_outside _ rs m (passes_before rs n rep r at is_out (λ q. refl) m)
        (passes_dead rs n rep r at is_out (λ q. refl) m)

module _ (t : Thesaurus) (knows : MarksOutside t.vocab.resources t.graph) where
  abbrev rs : List Resource
  rs = t.vocab.resources

  -- The marks are correct after a resource that isn't an outside concept is added.
  pub knows_pushed : (r : Resource) → is_outside_kind r.kind ≡ false → (n : ℕ) → set.contains t.graph.outside n
      ≡ is_outside (rs ++ r ∷ []) n
  knows_pushed r kind n = knows n ∙ same_outside rs (rs ++ r ∷ []) n (passes_push rs r is_out n)
      (λ p. elim (passes_pop rs r is_out n p) [ inl old ↦ old | inr new ↦ absurd (let bad = sym kind ∙ new.1 in cc) ])

  abbrev resources_with_new : List Resource
  resources_with_new = rs ++ outside_resource ∷ []

  -- The marks are correct after an outside concept is added and marked.
  pub knows_marked : (n : ℕ) → set.contains (set.insert t.graph.outside (length rs + 1)) n
      ≡ is_outside resources_with_new n
  knows_marked n =
      both_ways _ _
      (λ e. outside_test resources_with_new n
      (there (inserted_cases nat_cmp_total exact_unsigned t.graph.outside (length rs + 1) n e)))
      (λ e. back (passes_pop rs outside_resource is_out n (test_passed resources_with_new n e)))
    where
      there : (n ≡ length rs + 1) ⊎ (set.contains t.graph.outside n ≡ true) → IsOutside resources_with_new n
      there (inl new) = (outside_resource, ap (entry_at resources_with_new) new ∙ push_new rs outside_resource, refl)
      there (inr old) = passes_push rs outside_resource is_out n (test_passed rs n (sym (knows n) ∙ old))

      back : IsOutside rs n ⊎ ((n ≡ length rs + 1) × (true ≡ true))
          → set.contains (set.insert t.graph.outside (length rs + 1)) n ≡ true
      back (inl old) = grind (arith, common_steps, exact_unsigned, inserted_kept, outside_test)
      back (inr (new, _)) = grind (arith, common_steps, exact_unsigned, inserted_new)

-- Assumes that the marks are correct after an outside concept was added.
module _ (before : List Resource) (marks : FinSet nat_cmp)
    (knows : (n : ℕ) → set.contains marks n ≡ is_outside (before ++ outside_resource ∷ []) n) where
  outside_apart : (n : ℕ) → IsOutside before n → n ≢ length before + 1
  outside_apart n out same = let bound = numbered_bound before n out.0 out.1 in omega (arith, bound.1, same)

  -- The marks are correct after the outside concept is taken back and unmarked.
  pub knows_unmarked : (n : ℕ) → set.contains (set.remove marks (length before + 1)) n ≡ is_outside before n
  knows_unmarked n = both_ways _ _ there (λ e. back (test_passed before n e))
    where
      old_of : n ≢ length before + 1 → IsOutside before n ⊎ ((n ≡ length before + 1) × (true ≡ true))
          → is_outside before n ≡ true
      old_of apart (inl old) = outside_test before n old
      old_of apart (inr new) = absurd (apart new.0)

      there : set.contains (set.remove marks (length before + 1)) n ≡ true → is_outside before n ≡ true
      there e =
          let was = removed_cases nat_cmp_total exact_unsigned marks (length before + 1) n e in
          old_of was.0 (passes_pop before outside_resource is_out n
          (test_passed (before ++ outside_resource ∷ []) n (sym (knows n) ∙ was.1)))

      back : IsOutside before n → set.contains (set.remove marks (length before + 1)) n ≡ true
      back out = removed_kept nat_cmp_total exact_unsigned marks (length before + 1) n (outside_apart n out)
          (knows n ∙ outside_test (before ++ outside_resource ∷ []) n
          (passes_push before outside_resource is_out n out))
