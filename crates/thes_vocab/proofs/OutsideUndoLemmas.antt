-- Taking back the creation of an outside concept restores the vocabulary.
use Rattle.std.proofs.Common.{◌≡◌, inl, inr, ℕ, ◌+◌, length, List, [], ◌∷◌, ◌++◌, refl, sym, ap, ◌∙◌, subst, true, false}
use Rattle.std.proofs.lemmas.List.{same_from_push}
use Rattle.std.specs.Prelude.{Some}
use Rattle.std.specs.Ordering.{nat_cmp}
use Rattle.std.specs.FinMap as dict
use Rattle.thes_base.specs.declared.data.Resource.{Resource}
use Rattle.thes_base.specs.Changes.{outside_resource}
use Rattle.thes_base.specs.Labels.{Labels}
use Rattle.thes_base.specs.Resources.{Iris}
use Rattle.thes_base.proofs.NumberedLemmas.{push_old}
use Rattle.thes_base.proofs.ResourceLemmas.{scheme_at}
use Rattle.thes_lists.specs.declared.lists.Lists.{Lists}
use Rattle.thes_lists.proofs.ListingLemmas.{listings_same}
use Rattle.thes_vocab.specs.declared.names.Names.{Names}
use Rattle.thes_vocab.specs.Consistency.{IsConsistentVocabulary}
use Rattle.thes_vocab.specs.TakingBack.{IsBeforeOutside}
use Rattle.thes_vocab.specs.Vocabulary.{Vocabulary, vocabulary_from, IsConceptOf}
use Rattle.thes_vocab.proofs.ConceptListLemmas.{concept_cases}
use Rattle.thes_vocab.proofs.ConsistencyLemmas.{no_iri}
use Rattle.thes_vocab.proofs.IriLemmas.{inserted_iri, insert_then_remove_iri}

-- Assumes that an outside concept was created.
module _ (iri : List ℕ) (before after : Vocabulary) (was : IsBeforeOutside iri before after) where
  abbrev number_of_outside : ℕ
  number_of_outside = length before.resources + 1

  abbrev with_outside : List Resource
  with_outside = before.resources ++ outside_resource ∷ []

  abbrev iris_with_outside : Iris
  iris_with_outside = dict.insert before.iris number_of_outside iri

  -- A concept before the creation is one after it.
  stays_concept : (scheme n : ℕ) → IsConceptOf before.resources scheme n → IsConceptOf with_outside scheme n
  stays_concept scheme n c =
      let at = push_old before.resources outside_resource c.0.0 n c.0.1 in
      ((c.0.0, at, c.0.2), scheme_at with_outside n c.0.0 at ∙ sym (scheme_at before.resources n c.0.0 c.0.1) ∙ c.1)

  never : false ≡ true → ⊥
  never e = cc

  -- A concept after the creation was one before it.
  was_concept : (scheme n : ℕ) → IsConceptOf with_outside scheme n → IsConceptOf before.resources scheme n
  was_concept scheme n c = elim (concept_cases before.resources outside_resource scheme n c)
      [ inl stays ↦ stays | inr new ↦ absurd (never new.1.0) ]

  -- Assumes the parts of a vocabulary whose last resource is removed.
  module _ (base : List ℕ) (rs left : List Resource) (last : Resource) (iris : Iris) (labels : Labels)
      (seen : vocabulary_from base rs iris labels ≡ after) (popped : rs ≡ left ++ last ∷ []) (n : ℕ)
      (number : n ≡ length left + 1) where
    seen_before : vocabulary_from base rs iris labels
        ≡ record { base = before.base; resources = with_outside; iris = iris_with_outside; labels = before.labels }
    seen_before = seen ∙ was.created

    left_are : left ≡ before.resources
    left_are = (same_from_push left before.resources last outside_resource
        (sym popped ∙ ap (λ (v : Vocabulary). v.resources) seen_before)).0

    number_was : n ≡ number_of_outside
    number_was = number ∙ ap (λ (xs : List Resource). length xs + 1) left_are

    -- The last resource has the IRI.
    pub iri_of_last : dict.get iris n ≡ Some iri
    iri_of_last =
        (λ i. dict.get (ap (λ (v : Vocabulary). v.iris) seen_before i) (number_was i))
        ∙ inserted_iri before.iris number_of_outside iri

    -- Assumes that the IRI of the last resource is removed, too.
    module _ (fewer : Iris) (removed : fewer ≡ dict.remove iris n) where
      fewer_are : fewer ≡ before.iris
      fewer_are =
          removed
          ∙ (λ i. dict.remove (ap (λ (v : Vocabulary). v.iris) seen_before i) (number_was i))
          ∙ insert_then_remove_iri before.iris number_of_outside iri
          (no_iri before.base before.resources before.iris was.legal)

      -- What is left is the vocabulary before the creation.
      pub vocabulary_without_outside : vocabulary_from base left fewer labels ≡ before
      vocabulary_without_outside = λ i. record {
        base = ap (λ (v : Vocabulary). v.base) seen_before i;
        resources = left_are i;
        iris = fewer_are i;
        labels = ap (λ (v : Vocabulary). v.labels) seen_before i;
      }

      -- What is left satisfies the invariant.
      pub kept_without_outside : (names : Names) (concepts : Lists ℕ)
          → IsConsistentVocabulary base rs iris labels names concepts
          → IsConsistentVocabulary base left fewer labels names concepts
      kept_without_outside names concepts kept =
          let was_kept = subst (λ (v : Vocabulary). IsConsistentVocabulary v.base v.resources v.iris v.labels names
          concepts) seen_before kept in
          let now : IsConsistentVocabulary before.base before.resources before.iris before.labels names concepts =
          record {
            legal = was.legal;
            named = was.named;
            found = λ s m t x h. was_kept.found s m t x (stays_concept s m h.0, h.1);
            listed = listings_same nat_cmp (IsConceptOf with_outside) (IsConceptOf before.resources) concepts concepts
                (λ s. refl) was_concept stays_concept was_kept.listed;
          } in
          subst (λ (v : Vocabulary). IsConsistentVocabulary v.base v.resources v.iris v.labels names concepts)
          (sym vocabulary_without_outside) now
