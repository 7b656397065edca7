-- The index of live concepts stays complete when a resource is added, marked as dead, or made live again.
use Rattle.std.proofs.Common.{arith}
use Rattle.std.proofs.lemmas.Grind.{common_steps}
use Rattle.std.proofs.Common.{◌≡◌, ◌≢◌, ◌⊎◌, inl, inr, ℕ, ◌+◌, length, List, [], ◌∷◌, ◌++◌, refl, sym, ◌∙◌}
use Rattle.std.specs.Prelude.{Option, None, Some}
use Rattle.std.specs.Option.{MatchOption}
use Rattle.std.specs.Ordering.{nat_cmp}
use Rattle.std.proofs.lemmas.Cmp.{nat_cmp_total}
use Rattle.std.proofs.lemmas.Map.Lookups.{exact_unsigned}
use Rattle.std.proofs.lemmas.Bool.{cases_eq}
use Rattle.thes_base.specs.declared.data.Resource.{Resource}
use Rattle.thes_base.specs.Resources.{entry_at, set_entry_at, IsLiveConcept}
use Rattle.thes_base.specs.Changes.{resource_after_death}
use Rattle.thes_base.proofs.UniquePreferredLemmas.{live_before}
use Rattle.thes_base.proofs.NumberedLemmas.{push_old, push_new, push_cases, numbered_bound, set_other}
use Rattle.thes_base.proofs.ResourceLemmas.{scheme_at}
use Rattle.thes_lists.specs.declared.lists.Lists.{Lists}
use Rattle.thes_lists.specs.Lists.{AreListings}
use Rattle.thes_lists.proofs.ListingLemmas.{listings_same, listings_insert, listings_remove}
use Rattle.std.proofs.lemmas.Option.{same_Some}
use Rattle.thes_vocab.specs.Vocabulary.{IsConceptIn, IsConceptOf}
use Rattle.thes_vocab.specs.ConceptLists.{ConceptListsAfterInsert, ConceptListsAfterRemove}

-- After a resource is added, each live concept of a scheme is the new resource, or was a live concept of it before.
pub concept_cases : (rs : List Resource) (r : Resource) (scheme n : ℕ) → IsConceptOf (rs ++ r ∷ []) scheme n
    → IsConceptOf rs scheme n ⊎ ((n ≡ length rs + 1) × IsConceptIn scheme r)
concept_cases rs r scheme n c = grind (arith, common_steps, push_cases, scheme_at)

-- Assumes that a resource is added, and, if it is a live concept, its number is inserted in the list of its scheme.
module _ (rs : List Resource) (r : Resource) (old new : Lists ℕ) where
  abbrev resources_with_new : List Resource
  resources_with_new = rs ++ r ∷ []

  concept_stays : (s n : ℕ) → IsConceptOf rs s n → IsConceptOf resources_with_new s n
  concept_stays s n c = let at = push_old rs r c.0.0 n c.0.1 in
      ((c.0.0, at, c.0.2), scheme_at resources_with_new n c.0.0 at ∙ sym (scheme_at rs n c.0.0 c.0.1) ∙ c.1)

  concept_comes : (s : ℕ) → IsConceptIn s r → IsConceptOf resources_with_new s (length rs + 1)
  concept_comes s is = ((r, push_new rs r, is.0), scheme_at resources_with_new (length rs + 1) r (push_new rs r) ∙ is.1)

  pub concept_lists_with_new : (o : Option ℕ) → MatchOption o ((scheme : ℕ) → IsConceptIn scheme r → ⊥)
      (λ scheme. IsConceptIn scheme r) → ConceptListsAfterInsert old new o (length rs + 1)
      → AreListings nat_cmp (IsConceptOf rs) old → AreListings nat_cmp (IsConceptOf resources_with_new) new
  concept_lists_with_new None none same listed =
      listings_same nat_cmp (IsConceptOf rs) (IsConceptOf resources_with_new) old new same concept_stays
      (λ s n c. elim (concept_cases rs r s n c) [ inl was ↦ was | inr is ↦ absurd (none s is.1) ]) listed
  concept_lists_with_new (Some scheme) is changes listed =
      listings_insert nat_cmp nat_cmp_total exact_unsigned (IsConceptOf rs) (IsConceptOf resources_with_new) old new
      scheme (length rs + 1) listed changes (concept_comes scheme is) concept_stays
      (λ s n c. elim (concept_cases rs r s n c)
      [ inl was ↦ inl was | inr made ↦ inr (same_Some _ _ (sym made.1.1 ∙ is.1), made.0) ])

-- Assumes that a concept is marked as dead, and its number is removed from the list of its scheme.
module _ (rs : List Resource) (n : ℕ) (replaced : Option ℕ) (r : Resource) (at : entry_at rs n ≡ Some r)
    (old new : Lists ℕ) where
  abbrev resources_with_dead : List Resource
  resources_with_dead = set_entry_at rs n (resource_after_death replaced r)

  pub concept_before : (s m : ℕ) → IsConceptOf resources_with_dead s m → IsConceptOf rs s m × (m ≢ n)
  concept_before s m c = let was = live_before rs n replaced r at m c.0 in ((was.1, sym was.2 ∙ c.1), was.0)

  -- Each live concept of a scheme before the death is still one after it, or is the concept that died.
  pub concept_after : (s m : ℕ) → IsConceptOf rs s m
      → IsConceptOf resources_with_dead s m ⊎ ((r.scheme ≡ Some s) × (m ≡ n))
  concept_after s m c = grind (arith, common_steps, cases_eq, numbered_bound, scheme_at, set_other)

  pub listed_dead : (o : Option ℕ) → r.scheme ≡ o → ConceptListsAfterRemove old new o n
      → AreListings nat_cmp (IsConceptOf rs) old → AreListings nat_cmp (IsConceptOf resources_with_dead) new
  listed_dead None is same listed =
      listings_same nat_cmp (IsConceptOf rs) (IsConceptOf resources_with_dead) old new same
      (λ s m c. elim (concept_after s m c) [ inl stays ↦ stays | inr here ↦ absurd (let e = sym is ∙ here.0 in cc) ])
      (λ s m c. (concept_before s m c).0) listed
  listed_dead (Some scheme) is changes listed =
      listings_remove nat_cmp nat_cmp_total exact_unsigned (IsConceptOf rs) (IsConceptOf resources_with_dead) old new
      scheme n listed changes (λ c. (concept_before scheme n c).1 refl)
      (λ s m c. elim (concept_after s m c) [
        | inl stays ↦ inl stays
        | inr here ↦ inr (
          same_Some _ _ (sym here.0 ∙ is),
          here.1,
        )
      ])
      (λ s m c. (concept_before s m c).0)

  -- The index is complete if the concept is made live again, and its number is inserted again.
  pub listed_alive : IsLiveConcept rs n → (o : Option ℕ) → r.scheme ≡ o → ConceptListsAfterInsert old new o n
      → AreListings nat_cmp (IsConceptOf resources_with_dead) old → AreListings nat_cmp (IsConceptOf rs) new
  listed_alive live None is same listed =
      listings_same nat_cmp (IsConceptOf resources_with_dead) (IsConceptOf rs) old new same
      (λ s m c. (concept_before s m c).0)
      (λ s m c. elim (concept_after s m c) [ inl stays ↦ stays | inr here ↦ absurd (let e = sym is ∙ here.0 in cc) ])
      listed
  listed_alive live (Some scheme) is changes listed =
      listings_insert nat_cmp nat_cmp_total exact_unsigned (IsConceptOf resources_with_dead) (IsConceptOf rs) old new
      scheme n listed changes (live, scheme_at rs n r at ∙ is) (λ s m c. (concept_before s m c).0)
      (λ s m c. elim (concept_after s m c) [
        | inl stays ↦ inl stays
        | inr here ↦ inr (
          same_Some _ _ (sym here.0 ∙ is),
          here.1,
        )
      ])
