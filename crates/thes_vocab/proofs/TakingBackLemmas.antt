-- Taking back the creation of the last resource restores the vocabulary.
use Rattle.std.proofs.Common.{◌≡◌, ◌≢◌, inl, inr, ℕ, ◌+◌, length, List, [], ◌∷◌, ◌++◌, refl, sym, ap, ◌∙◌, subst}
use Rattle.std.proofs.Common.{arith, true}
use Rattle.std.proofs.lemmas.List.{same_from_push}
use Rattle.std.proofs.lemmas.Option.{same_Some}
use Rattle.std.proofs.lemmas.Cmp.{nat_cmp_total}
use Rattle.std.proofs.lemmas.Map.Lookups.{exact_unsigned}
use Rattle.std.specs.Prelude.{Option, None, Some}
use Rattle.std.specs.Option.{MatchOption}
use Rattle.std.specs.Ordering.{nat_cmp}
use Rattle.std.specs.FinSet as set
use Rattle.thes_base.specs.declared.data.Resource.{Resource}
use Rattle.thes_base.specs.declared.data.LabelKind.TheVariants.{Pref}
use Rattle.thes_base.specs.Changes.{label}
use Rattle.thes_base.specs.Data.{LabelData}
use Rattle.thes_base.specs.Labels.{Label, Labels}
use Rattle.thes_base.specs.Resources.{Iris}
use Rattle.thes_base.proofs.LabelSetLemmas.{labels_total, labels_exact, inserted_kept}
use Rattle.thes_base.proofs.NumberedLemmas.{numbered_bound, push_old}
use Rattle.thes_base.proofs.ResourceLemmas.{scheme_at}
use Rattle.thes_lists.specs.declared.lists.Lists.{Lists}
use Rattle.thes_lists.specs.Lists.{AreListings}
use Rattle.thes_lists.proofs.ListingLemmas.{listings_same, listings_remove}
use Rattle.thes_vocab.specs.declared.names.Names.{Names}
use Rattle.thes_vocab.specs.ConceptLists.{ConceptListsAfterRemove}
use Rattle.thes_vocab.specs.Consistency.{IsConsistentVocabulary}
use Rattle.thes_vocab.specs.NameIndex.{AreHoldersIndexed, KeepsOtherNames}
use Rattle.thes_vocab.specs.TakingBack.{IsBeforeCreation}
use Rattle.thes_vocab.specs.Vocabulary.{Vocabulary, vocabulary_from, IsConceptIn, IsConceptOf}
use Rattle.thes_vocab.proofs.ConceptListLemmas.{concept_cases}
use Rattle.thes_vocab.proofs.LabelCheckLemmas.{owners_bound}
use Rattle.thes_vocab.proofs.SetUndoLemmas.{insert_then_remove}

-- Assumes that a resource was created with a preferred label.
module _ (tag text : List ℕ) (before after : Vocabulary) (was : IsBeforeCreation tag text before after) where
  abbrev pub number_of_last : ℕ
  number_of_last = length before.resources + 1

  abbrev pub label_of_last : Label
  label_of_last = label number_of_last Pref tag text

  abbrev pub with_last : List Resource
  with_last = before.resources ++ was.resource ∷ []

  apart_from_last : (q : Label) → set.contains before.labels q ≡ true → q ≢ label_of_last
  apart_from_last q held same =
      let bound = owners_bound before.resources before.labels was.named q held in
      let owner = ap (λ (l : Label). l.owner) same in
      omega (arith, bound.1, owner)

  number_is_apart : (scheme n : ℕ) → IsConceptOf before.resources scheme n → n ≢ number_of_last
  number_is_apart scheme n c same =
      let bound = numbered_bound before.resources n c.0.0 c.0.1 in
      omega (arith, bound.1, same)

  -- A concept before the creation is one after it.
  stays_concept : (scheme n : ℕ) → IsConceptOf before.resources scheme n → IsConceptOf with_last scheme n
  stays_concept scheme n c =
      let at = push_old before.resources was.resource c.0.0 n c.0.1 in
      ((c.0.0, at, c.0.2), scheme_at with_last n c.0.0 at ∙ sym (scheme_at before.resources n c.0.0 c.0.1) ∙ c.1)

  -- Without the label of the last resource, the labels are those before its creation.
  pub labels_before : set.remove (set.insert before.labels label_of_last) label_of_last ≡ before.labels
  labels_before = insert_then_remove labels_total labels_exact before.labels label_of_last
      (λ held. apart_from_last label_of_last held refl)

  -- After the removal of an entry of the last resource, the index finds all holders that there were before the
  -- creation.
  pub holders_before : (old new : Names) (o : Option ℕ) (own : List LabelData)
      → KeepsOtherNames old new o number_of_last own
      → AreHoldersIndexed with_last (set.insert before.labels label_of_last) old
      → AreHoldersIndexed before.resources before.labels new
  holders_before old new o own keeps found scheme n t x h =
      keeps scheme n t x (λ same. absurd (number_is_apart scheme n h.0 same))
      (found scheme n t x (
        stays_concept scheme n h.0,
        inserted_kept before.labels label_of_last _ h.1,
      ))

  -- After the removal of the last resource's number, the index lists the live concepts that there were before the
  -- creation.
  pub listed_before : (old new : Lists ℕ) (o : Option ℕ) → MatchOption o
      ((scheme : ℕ) → IsConceptIn scheme was.resource → ⊥) (λ scheme. IsConceptIn scheme was.resource)
      → ConceptListsAfterRemove old new o number_of_last → AreListings nat_cmp (IsConceptOf with_last) old
      → AreListings nat_cmp (IsConceptOf before.resources) new
  listed_before old new None none same listed =
      listings_same nat_cmp (IsConceptOf with_last) (IsConceptOf before.resources) old new same
      (λ s n c. elim (concept_cases before.resources was.resource s n c)
      [ inl stays ↦ stays | inr is ↦ absurd (none s is.1) ])
      stays_concept listed
  listed_before old new (Some scheme) is changes listed =
      listings_remove nat_cmp nat_cmp_total exact_unsigned (IsConceptOf with_last) (IsConceptOf before.resources) old
      new scheme number_of_last listed changes (λ c. number_is_apart scheme number_of_last c refl)
      (λ s n c. elim (concept_cases before.resources was.resource s n c) [
        | inl stays ↦ inl stays
        | inr last ↦ inr (same_Some _ _ (sym last.1.1 ∙ is.1), last.0)
      ])
      stays_concept

  -- Assumes the parts of a vocabulary whose last resource is removed.
  module _ (base : List ℕ) (rs left : List Resource) (last : Resource) (iris : Iris) (labels fewer : Labels)
      (seen : vocabulary_from base rs iris labels ≡ after) (popped : rs ≡ left ++ last ∷ []) (n : ℕ)
      (number : n ≡ length left + 1) (removed : fewer ≡ set.remove labels (label n Pref tag text)) where
    seen_before : vocabulary_from base rs iris labels
        ≡ record {
          base = before.base;
          resources = with_last;
          iris = before.iris;
          labels = set.insert before.labels label_of_last;
        }
    seen_before = seen ∙ was.created

    both : (left ≡ before.resources) × (last ≡ was.resource)
    both = same_from_push left before.resources last was.resource
        (sym popped ∙ ap (λ (v : Vocabulary). v.resources) seen_before)

    pub number_was : n ≡ number_of_last
    number_was = number ∙ ap (λ (xs : List Resource). length xs + 1) both.0

    fewer_are : fewer ≡ before.labels
    fewer_are =
        removed
        ∙ (λ i. set.remove (ap (λ (v : Vocabulary). v.labels) seen_before i) (label (number_was i) Pref tag text))
        ∙ labels_before

    -- What is left is the vocabulary before the creation.
    pub vocabulary_is_before : vocabulary_from base left iris fewer ≡ before
    vocabulary_is_before = λ i. record {
      base = ap (λ (v : Vocabulary). v.base) seen_before i;
      resources = both.0 i;
      iris = ap (λ (v : Vocabulary). v.iris) seen_before i;
      labels = fewer_are i;
    }

    -- What is left satisfies the invariant.
    pub kept_before : (names names' : Names) (concepts concepts' : Lists ℕ) (o o' : Option ℕ)
        (own : List LabelData) → IsConsistentVocabulary base rs iris labels names concepts → MatchOption o
        ((scheme : ℕ) → IsConceptIn scheme last → ⊥) (λ scheme. IsConceptIn scheme last)
        → ConceptListsAfterRemove concepts concepts' o n → KeepsOtherNames names names' o' n own
        → IsConsistentVocabulary base left iris fewer names' concepts'
    kept_before names names' concepts concepts' o o' own kept in_scheme removes forgets =
        let was_kept = subst (λ (v : Vocabulary). IsConsistentVocabulary v.base v.resources v.iris v.labels names
        concepts) seen_before kept in
        let now : IsConsistentVocabulary before.base before.resources before.iris before.labels names' concepts' =
        record {
          legal = was.legal;
          named = was.named;
          found = holders_before names names' o' own
              (subst (λ k. KeepsOtherNames names names' o' k own) number_was forgets) was_kept.found;
          listed = listed_before concepts concepts' o
              (subst (λ (r : Resource). MatchOption o ((scheme : ℕ) → IsConceptIn scheme r → ⊥)
              (λ scheme. IsConceptIn scheme r)) both.1 in_scheme)
              (subst (λ k. ConceptListsAfterRemove concepts concepts' o k) number_was removes) was_kept.listed;
        } in
        subst (λ (v : Vocabulary). IsConsistentVocabulary v.base v.resources v.iris v.labels names' concepts')
        (sym vocabulary_is_before) now
