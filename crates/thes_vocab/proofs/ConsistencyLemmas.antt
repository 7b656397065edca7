-- Each change of a vocabulary keeps its invariant.
use Rattle.std.proofs.lemmas.Grind.{common_steps}
use Rattle.std.proofs.Common.{◌≡◌, ◌≢◌, ◌⊎◌, ◌<◌, ◌^◌, inl, inr, ℕ, zero, suc, get_or, ◌+◌, ◌-◌, length, List, []}
use Rattle.std.proofs.Common.{◌∷◌, ◌++◌, refl, sym, ap, ◌∙◌, subst, arith, Bool, true, false}
use Rattle.std.specs.Prelude.{Option, None, Some, slice_get}
use Rattle.std.specs.Option.{MatchOption}
use Rattle.std.specs.Ordering.{nat_cmp}
use Rattle.std.specs.FinSet as set
use Rattle.std.specs.FinMap as dict
use Rattle.thes_base.specs.declared.data.Resource.{Resource}
use Rattle.thes_base.specs.declared.data.LabelKind.TheVariants.{Pref}
use Rattle.thes_base.specs.Resources.{Iris, entry_at, set_entry_at, IsConcept, IsLive, IsLiveConcept, BeginsWith}
use Rattle.thes_base.specs.Resources.{CanOwn, scheme_of, is_concept_kind, is_outside_kind, is_scheme_kind}
use Rattle.thes_base.specs.Labels.{Label, Labels, HasLabel, IsPreferredTaken, S13}
use Rattle.thes_base.specs.Legal.{AreLegalResources, AreLegalLabels}
use Rattle.thes_base.specs.Changes.{label, resource_after_death, replace_preferred, labels_after_relabel}
use Rattle.thes_base.specs.Changes.{outside_resource}
use Rattle.thes_base.specs.Changes.{concept_resource, copied_labels}
use Rattle.thes_base.specs.Data.{LabelData}
use Rattle.thes_base.specs.Machine.{owned_label}
use Rattle.thes_base.specs.RefusalRules.{accepted}
use Rattle.thes_base.specs.RuleParts.{unless_scheme, unless_unique, unless_new_label, unless_droppable}
use Rattle.thes_base.specs.RuleParts.{unless_replaceable_preferred}
use Rattle.thes_base.proofs.RefusalRuleLemmas.{passed_if, passed_unless}
use Rattle.thes_base.proofs.LabelSetLemmas.{inserted_cases, no_label, removed_cases}
use Rattle.thes_base.proofs.ReplacePreferredLemmas.{renamed_cases}
use Rattle.thes_base.proofs.LegalLabelLemmas.{legal_labels_with_new, labels_push, labels_added, labels_dropped}
use Rattle.thes_base.proofs.LegalLabelLemmas.{labels_renamed}
use Rattle.thes_base.proofs.LegalLabelLemmas.{labels_dead, outside_owns_none}
use Rattle.thes_base.proofs.LegalResourceLemmas.{resources_push, resources_push_outside, resources_dead, outside_fit}
use Rattle.thes_base.proofs.UniquePreferredLemmas.{made_unique, taken_breaks, live_before}
use Rattle.thes_base.proofs.MachineLemmas.{sound_empty}
use Rattle.thes_base.proofs.NumberedLemmas.{none_at, numbered_bound}
use Rattle.thes_base.proofs.ResourceLemmas.{one_resource, concept_of_live, live_of_live, scheme_at}
use Rattle.thes_base.proofs.CopiedLabelLemmas.{labels_merged, preferred_before}
use Rattle.thes_base.specs.Listing.{IsListing}
use Rattle.std.proofs.lemmas.Option.{same_Some}
use Rattle.thes_vocab.specs.declared.names.Names.{Names}
use Rattle.thes_lists.specs.declared.lists.Lists.{Lists}
use Rattle.thes_lists.specs.Lists as lists
use Rattle.thes_lists.specs.Lists.{listed_at, AreListings}
use Rattle.thes_lists.proofs.ListingLemmas.{listing_none, listings_same}
use Rattle.thes_vocab.specs.Vocabulary.{Vocabulary, vocabulary_from, IsConceptIn, IsConceptOf, IsReplacement}
use Rattle.thes_vocab.specs.NameIndex.{AreHoldersIndexed, HasEntryInScheme, HasLabelEntry, KeepsNames, KeepsOtherNames}
use Rattle.thes_vocab.specs.OwnLabels.{AreLabelsOf}
use Rattle.thes_vocab.specs.ConceptLists.{ConceptListsAfterInsert, ConceptListsAfterRemove}
use Rattle.thes_vocab.specs.NewResources.{IsNewOwner, IsFreeName}
use Rattle.thes_vocab.specs.Consistency.{IsConsistentVocabulary}
use Rattle.thes_vocab.proofs.ConceptListLemmas.{concept_cases, concept_lists_with_new, listed_dead}
use Rattle.thes_vocab.proofs.LabelTableLemmas.{insert_after_remove}
use Rattle.thes_vocab.proofs.LabelCheckLemmas.{owners_bound, relabelled_is, renamed_breaks_s13}

abbrev pub IsSchemeOf : List Resource → ℕ → Option ℕ → Type 0
IsSchemeOf rs n o = MatchOption o ((scheme : ℕ) → IsConceptOf rs scheme n → ⊥) (λ scheme. IsConceptOf rs scheme n)

-- A concept has only one scheme.
one_scheme : (rs : List Resource) (n s t : ℕ) → IsConceptOf rs s n → scheme_of rs n ≡ Some t → t ≡ s
one_scheme rs n s t at e = same_Some _ _ (sym e ∙ at.1)

scheme_is : (rs : List Resource) (n : ℕ) (o : Option ℕ) → IsSchemeOf rs n o → (s : ℕ) → IsConceptOf rs s n → o ≡ Some s
scheme_is rs n None none s concept = absurd (none s concept)
scheme_is rs n (Some t) at s concept = ap Some (one_scheme rs n s t concept at.1)

-- An index that keeps its entries and gains others still finds all holders (live concepts with a preferred label).
pub finds_more : (rs : List Resource) (labels : Labels) (old new : Names) → KeepsNames old new
    → AreHoldersIndexed rs labels old → AreHoldersIndexed rs labels new
finds_more rs labels old new keeps finds s n t x h = keeps s n t x (finds s n t x h)

-- The index finds all holders after a label and its entry are added.
pub finds_added : (rs : List Resource) (labels : Labels) (l : Label) (old new : Names) → AreHoldersIndexed rs labels old
    → KeepsNames old new → (o : Option ℕ) → IsSchemeOf rs l.owner o
    → HasLabelEntry new o (record { kind = l.kind; tag = l.tag; text = l.text }) l.owner
    → AreHoldersIndexed rs (set.insert labels l) new
finds_added rs labels l old new finds keeps o at noted s n t x h =
    grind (arith, common_steps, inserted_cases, scheme_is)

-- The index finds all holders after a label is removed.
pub finds_less : (rs : List Resource) (labels : Labels) (l : Label) (names : Names) → AreHoldersIndexed rs labels names
    → AreHoldersIndexed rs (set.remove labels l) names
finds_less rs labels l names finds s n t x h = finds s n t x (h.0, (removed_cases labels l _ h.1).1)

-- The index finds all holders after a label replaces its owner's old preferred label, and its entry is added.
pub finds_renamed : (rs : List Resource) (labels : Labels) (owner : ℕ) (tag text was : List ℕ) (keep : Bool)
    (old new : Names) → AreHoldersIndexed rs labels old → KeepsNames old new → (o : Option ℕ) → IsSchemeOf rs owner o
    → HasEntryInScheme new o tag text owner
    → AreHoldersIndexed rs (replace_preferred owner tag text keep was labels) new
finds_renamed rs labels owner tag text was keep old new finds keeps o at noted s n t x h =
    grind (arith, common_steps, renamed_cases, scheme_is)

-- The index finds all holders after the entry of a label that its owner doesn't have is removed.
pub finds_forgotten : (rs : List Resource) (labels : Labels) (owner : ℕ) (own : List LabelData) (o : Option ℕ)
    (old new : Names) → AreLabelsOf labels owner own → IsSchemeOf rs owner o → KeepsOtherNames old new o owner own
    → AreHoldersIndexed rs labels old → AreHoldersIndexed rs labels new
finds_forgotten rs labels owner own o old new are at keeps finds s n t x h = grind (arith, common_steps, scheme_is)

module _ (rs : List Resource) (labels : Labels) (r : Resource) (tag text : List ℕ) (old new : Names)
    (legal : AreLegalLabels rs labels) (finds : AreHoldersIndexed rs labels old) (keeps : KeepsNames old new) where
  abbrev number_of_new : ℕ
  number_of_new = length rs + 1

  abbrev with_name : Labels
  with_name = set.insert labels (label number_of_new Pref tag text)

  not_next : (l : Label) → set.contains labels l ≡ true → l.owner ≢ number_of_new
  not_next l held e = let b = owners_bound rs labels legal l held in omega (arith, b.1, e)

  old_only : (n : ℕ) (t x : List ℕ) → n ≢ number_of_new → HasLabel with_name n Pref t x → HasLabel labels n Pref t x
  old_only n t x apart h = elim (inserted_cases labels (label number_of_new Pref tag text) _ h)
      [ inl is ↦ absurd (apart (ap (λ (l : Label). l.owner) is)) | inr held ↦ held ]

  exists_apart : (scheme n : ℕ) → IsConceptOf rs scheme n → n ≢ number_of_new
  exists_apart scheme n c e = let b = numbered_bound rs n c.0.0 c.0.1 in omega (arith, b.1, e)

  scheme_of_new : (o : Option ℕ) → MatchOption o ((scheme : ℕ) → IsConceptIn scheme r → ⊥)
      (λ scheme. IsConceptIn scheme r) → (s : ℕ) → IsConceptIn s r → o ≡ Some s
  scheme_of_new None none s is = absurd (none s is)
  scheme_of_new (Some t) at s is = sym at.1 ∙ is.1

  -- The index finds all holders after a new resource, its preferred label and its entry are added.
  pub finds_new : (o : Option ℕ) → MatchOption o ((scheme : ℕ) → IsConceptIn scheme r → ⊥)
      (λ scheme. IsConceptIn scheme r) → HasEntryInScheme new o tag text number_of_new
      → AreHoldersIndexed (rs ++ r ∷ []) with_name new
  finds_new o at noted s n t x h =
      grind (arith, common_steps, concept_cases, exists_apart, inserted_cases, not_next, old_only, scheme_of_new)

-- The invariant holds after a resource with a preferred label is added.
pub kept_named : (base : List ℕ) (rs : List Resource) (iris : Iris) (labels : Labels) (names : Names)
    (concepts : Lists ℕ) (r : Resource) (tag text : List ℕ) → AreLegalResources base rs iris → AreLegalLabels rs labels
    → IsNewOwner rs r → IsFreeName rs labels r tag text → length rs + 1 < 2 ^ 32 → AreHoldersIndexed (rs ++ r ∷ [])
    (set.insert labels (label (length rs + 1) Pref tag text)) names
    → AreListings nat_cmp (IsConceptOf (rs ++ r ∷ [])) concepts → IsConsistentVocabulary base (rs ++ r ∷ []) iris
    (set.insert labels (label (length rs + 1) Pref tag text)) names concepts
kept_named base rs iris labels names concepts r tag text legal named is free few finds listed = record {
  legal = resources_push base rs iris r legal
      (record { live = is.live; replaced = is.replaced; scheme = is.scheme; no_scheme = no_scheme }) few inside;
  named = legal_labels_with_new rs labels r tag text named is.owner
      (made_unique rs labels r tag text (owners_bound rs labels named) named.unique
      (λ scheme live e. free scheme (live, e)));
  found = finds;
  listed = listed;
}
  where
    inside : is_outside_kind r.kind ≡ false
    inside = grind (arith, common_steps)

    no_scheme : (is_scheme_kind r.kind ≡ true) ⊎ (is_outside_kind r.kind ≡ true) → r.scheme ≡ None
    no_scheme (inl e) = is.no_scheme e
    no_scheme (inr e) = absurd (let f = inside in cc)

-- The invariant holds after an outside concept is added.
pub kept_outside : (base : List ℕ) (rs : List Resource) (iris : Iris) (labels : Labels) (names : Names)
    (concepts : Lists ℕ) (iri : List ℕ) → IsConsistentVocabulary base rs iris labels names concepts → length rs + 1
    < 2 ^ 32 → (BeginsWith iri base → ⊥) → ((n : ℕ) → dict.get iris n ≢ Some iri)
    → IsConsistentVocabulary base (rs ++ outside_resource ∷ []) (dict.insert iris (length rs + 1) iri) labels names
    concepts
kept_outside base rs iris labels names concepts iri kept few foreign fresh = record {
  legal = resources_push_outside base rs iris outside_resource kept.legal (outside_fit rs) iri few refl foreign fresh;
  named = labels_push rs labels outside_resource outside_owns_none kept.named;
  found = λ s n t x h. elim (concept_cases rs outside_resource s n h.0) [
    | inl was ↦ kept.found s n t x (was, h.1)
    | inr new ↦ absurd (never new.1.0)
  ];
  listed = concept_lists_with_new rs outside_resource concepts concepts None (λ s is. never is.0)
      (λ s. refl) kept.listed;
}
  where
    never : false ≡ true → ⊥
    never e = cc

-- The next number has no IRI yet.
pub no_iri : (base : List ℕ) (rs : List Resource) (iris : Iris) → AreLegalResources base rs iris
    → dict.get iris (length rs + 1) ≡ None
no_iri base rs iris legal = grind (arith, common_steps, numbered_bound)

-- The invariant holds after a concept is marked as dead.
pub kept_dead : (base : List ℕ) (rs : List Resource) (iris : Iris) (labels : Labels) (names : Names)
    (old new : Lists ℕ) (n : ℕ) (replaced : Option ℕ) (r : Resource) → IsConsistentVocabulary base rs iris labels
    names old → entry_at rs n ≡ Some r → IsLiveConcept rs n → IsReplacement rs n replaced
    → ConceptListsAfterRemove old new r.scheme n
    → IsConsistentVocabulary base (set_entry_at rs n (resource_after_death replaced r))
    iris labels names new
kept_dead base rs iris labels names old new n replaced r kept at live fit removed = record {
  legal = resources_dead base rs iris n replaced r at kept.legal concept (fits replaced fit);
  named = labels_dead rs n replaced r at labels kept.named;
  found = λ s m t x h. let was = live_before rs n replaced r at m h.0.0 in
      kept.found s m t x ((was.1, sym was.2 ∙ h.0.1), h.1);
  listed = listed_dead rs n replaced r at old new r.scheme refl removed kept.listed;
}
  where
    concept : is_concept_kind r.kind ≡ true
    concept = let c = concept_of_live rs n live in subst (λ (x : Resource). is_concept_kind x.kind ≡ true)
        (one_resource rs n c.0 r c.1 at) c.2

    fits : (o : Option ℕ) → IsReplacement rs n o → (m : ℕ) → o ≡ Some m → (m ≢ n) × IsConcept rs m × IsLive rs m
        × (scheme_of rs m ≡ r.scheme)
    fits o h m e = grind (arith, common_steps, concept_of_live, live_of_live, same_Some, scheme_at)

module _ (base : List ℕ) (rs : List Resource) (iris : Iris) (labels : Labels) (old new : Names) (concepts : Lists ℕ)
    (kept : IsConsistentVocabulary base rs iris labels old concepts) where
  kept_finding : AreHoldersIndexed rs labels new → IsConsistentVocabulary base rs iris labels new concepts
  kept_finding finds = record { legal = kept.legal; named = kept.named; found = finds; listed = kept.listed }

  -- The invariant holds after entries are added to the index of preferred labels.
  pub kept_more : KeepsNames old new → IsConsistentVocabulary base rs iris labels new concepts
  kept_more keeps = kept_finding (finds_more rs labels old new keeps kept.found)

  module _ (owner : ℕ) (o : Option ℕ) (at : IsSchemeOf rs owner o) where
    -- The invariant holds after the entry of a label that its owner doesn't have is removed.
    pub kept_forgotten : (own : List LabelData) → AreLabelsOf labels owner own → KeepsOtherNames old new o owner own
        → IsConsistentVocabulary base rs iris labels new concepts
    kept_forgotten own are keeps = kept_finding (finds_forgotten rs labels owner own o old new are at keeps kept.found)

    module _ (keeps : KeepsNames old new) where
      pub kept_added : (d : LabelData) → CanOwn rs owner
          → unless_new_label labels rs (set.insert labels (owned_label owner d)) (owned_label owner d) accepted None
          → HasLabelEntry new o d owner
          → IsConsistentVocabulary base rs iris (set.insert labels (owned_label owner d)) new concepts
      kept_added d can row noted =
          let s13 = passed_unless (passed_if row).1 in
          let s14 = passed_unless s13.1 in
          record {
            legal = kept.legal;
            named = labels_added rs labels (owned_label owner d) can s13.0 s14.0 (passed_unless s14.1).0 kept.named;
            found = finds_added rs labels (owned_label owner d) old new kept.found keeps o at noted;
            listed = kept.listed;
          }

      pub kept_renamed : (tag text was : List ℕ) (keep : Bool) → HasLabel labels owner Pref tag was
          → unless_replaceable_preferred labels rs (labels_after_relabel owner tag text keep labels) owner tag accepted
          None → HasEntryInScheme new o tag text owner → CanOwn rs owner
          → IsConsistentVocabulary base rs iris (replace_preferred owner tag text keep was labels) new concepts
      kept_renamed tag text was keep has row noted can =
          let here = subst (λ (after : Labels). unless_replaceable_preferred labels rs after owner tag accepted None)
          (relabelled_is labels owner tag text was keep kept.named.one_preferred has) row in
          let s13 = passed_unless (passed_unless here).1 in
          record {
            legal = kept.legal;
            named = labels_renamed rs labels owner tag text keep was kept.named has can s13.0 (passed_unless s13.1).0;
            found = finds_renamed rs labels owner tag text was keep old new kept.found keeps o at noted;
            listed = kept.listed;
          }

  pub kept_new : KeepsNames old new → (r : Resource) (tag text : List ℕ) → IsNewOwner rs r
      → IsFreeName rs labels r tag text
      → (o : Option ℕ) → MatchOption o ((scheme : ℕ) → IsConceptIn scheme r → ⊥) (λ scheme. IsConceptIn scheme r)
      → HasEntryInScheme new o tag text (length rs + 1) → length rs + 1 < 2 ^ 32 → (with_new : Lists ℕ)
      → ConceptListsAfterInsert concepts with_new o (length rs + 1) → IsConsistentVocabulary base (rs ++ r ∷ []) iris
      (set.insert labels (label (length rs + 1) Pref tag text)) new with_new
  kept_new keeps r tag text is free o at noted few with_new added =
      kept_named base rs iris labels new with_new r tag text kept.legal kept.named is free few
      (finds_new rs labels r tag text old new kept.named kept.found keeps o at noted)
      (concept_lists_with_new rs r concepts with_new o at added kept.listed)

-- The invariant holds after a label is removed.
pub kept_dropped : (base : List ℕ) (rs : List Resource) (iris : Iris) (labels : Labels) (names : Names)
    (concepts : Lists ℕ) → IsConsistentVocabulary base rs iris labels names concepts → (l : Label)
    → unless_droppable labels l accepted None
    → IsConsistentVocabulary base rs iris (set.remove labels l) names concepts
kept_dropped base rs iris labels names concepts kept l row = record {
  legal = kept.legal;
  named = labels_dropped rs labels l (passed_unless (passed_unless row).1).0 kept.named;
  found = finds_less rs labels l names kept.found;
  listed = kept.listed;
}

-- The invariant holds if the index of live concepts has the same entries as before.
pub kept_same : (base : List ℕ) (rs : List Resource) (iris : Iris) (labels : Labels) (names : Names)
    (was is : Lists ℕ) → IsConsistentVocabulary base rs iris labels names was
    → lists.HaveSameValues was is → IsConsistentVocabulary base rs iris labels names is
kept_same base rs iris labels names was is kept listed = grind (arith, common_steps, listings_same)

-- If a new concept passes its check, no live concept of its scheme has its preferred label.
pub free_concept : (rs : List Resource) (labels : Labels) (scheme : ℕ) (tag text : List ℕ) → unless_scheme rs scheme
    (unless_unique (rs ++ concept_resource (Some scheme) ∷ [])
    (set.insert labels (label (length rs + 1) Pref tag text)) accepted) None
    → IsFreeName rs labels (concept_resource (Some scheme)) tag text
free_concept rs labels scheme tag text row s is taken =
    taken_breaks rs labels scheme (concept_resource (Some scheme)) tag text refl refl
    (subst (λ k. IsPreferredTaken rs labels k tag text) (sym (same_Some _ _ is.1)) taken)
    (passed_unless (passed_unless (passed_unless row).1).1).0

-- The invariant holds of the empty vocabulary.
pub kept_empty : (base : List ℕ) (names : Names) (concepts : Lists ℕ) → ((s : ℕ) → listed_at concepts s ≡ [])
    → IsConsistentVocabulary base [] dict.empty set.empty names concepts
kept_empty base names concepts bare = record {
  legal = (sound_empty base).resources;
  named = (sound_empty base).labels;
  found = λ s n t x h. absurd (no_label _ h.1);
  listed = λ s. subst (IsListing nat_cmp (IsConceptOf [] s)) (sym (bare s))
      (listing_none nat_cmp (IsConceptOf [] s) (λ n c. none_at n c.0.0 c.0.1));
}

-- The item of a list at index `n - 1` is its entry with number `n`.
pub numbered_at : {A : Type 0} (xs : List A) (n : ℕ) (x y : A) → entry_at xs n ≡ Some y → x ≡ get_or xs (n - 1) x
    → entry_at xs n ≡ Some x
numbered_at {A = A} xs zero x y e f = absurd (cc)
numbered_at {A = A} xs (suc n) x y e f =
    go xs n e (f ∙ ap (λ k. get_or xs k x) (let q : suc n - 1 ≡ n = omega arith in q))
  where
    go : (xs : List A) (n : ℕ) → slice_get xs n ≡ Some y → x ≡ get_or xs n x → slice_get xs n ≡ Some x
    go [] n e f = absurd (cc)
    go (z ∷ xs) zero e f = ap Some (sym f)
    go (z ∷ xs) (suc n) e f = go xs n e f

module _ (base : List ℕ) (rs : List Resource) (iris : Iris) (labels : Labels) (old new : Names) (concepts : Lists ℕ)
    (kept : IsConsistentVocabulary base rs iris labels old concepts) (v : Vocabulary)
    (seen : vocabulary_from base rs iris labels ≡ v) (keeps : KeepsNames old new) where
  module _ (owner : ℕ) (o : Option ℕ) (xs : List Resource) (same : xs ≡ rs) (at : IsSchemeOf xs owner o) where
    at_owner : IsSchemeOf rs owner o
    at_owner = subst (λ ys. IsSchemeOf ys owner o) same at

    can_own : CanOwn v.resources owner → CanOwn rs owner
    can_own = subst (λ (w : Vocabulary). CanOwn w.resources owner) (sym seen)

    pub seen_added : (d : LabelData) → CanOwn v.resources owner → unless_new_label v.labels v.resources
        (set.insert v.labels (owned_label owner d)) (owned_label owner d) accepted None → HasLabelEntry new o d owner
        → IsConsistentVocabulary base rs iris (set.insert labels (owned_label owner d)) new concepts
    seen_added d can row noted = kept_added base rs iris labels old new concepts kept owner o at_owner keeps d
        (can_own can) (subst (λ (w : Vocabulary). unless_new_label w.labels w.resources
        (set.insert w.labels (owned_label owner d)) (owned_label owner d) accepted None) (sym seen) row) noted

    pub seen_renamed : (tag text was : List ℕ) (keep : Bool) → HasLabel labels owner Pref tag was
        → unless_replaceable_preferred v.labels v.resources (labels_after_relabel owner tag text keep v.labels) owner
        tag accepted None → HasEntryInScheme new o tag text owner → CanOwn v.resources owner
        → IsConsistentVocabulary base rs iris (replace_preferred owner tag text keep was labels) new concepts
    seen_renamed tag text was keep has row noted can = kept_renamed base rs iris labels old new concepts kept owner o
        at_owner keeps tag text was keep has (subst (λ (w : Vocabulary). unless_replaceable_preferred w.labels
        w.resources (labels_after_relabel owner tag text keep w.labels) owner tag accepted None) (sym seen) row) noted
        (can_own can)

  module _ (r : Resource) (tag text : List ℕ) (n : ℕ) (number_of_new : n ≡ length rs + 1) (room : Lists ℕ)
      (roomy : lists.HaveSameValues concepts room) where
    pub seen_new_noted : IsConsistentVocabulary base rs iris labels new room
    seen_new_noted = kept_more base rs iris labels old new room
        (kept_same base rs iris labels old concepts room kept roomy) keeps

    pub seen_new : IsNewOwner v.resources r → IsFreeName v.resources v.labels r tag text → (o : Option ℕ)
        → MatchOption o ((scheme : ℕ) → IsConceptIn scheme r → ⊥) (λ scheme. IsConceptIn scheme r)
        → HasEntryInScheme new o tag text n → length v.resources + 1 < 2 ^ 32 → (with_new : Lists ℕ)
        → ConceptListsAfterInsert room with_new o n → IsConsistentVocabulary base (rs ++ r ∷ []) iris
        (set.insert labels (label n Pref tag text)) new with_new
    seen_new is free o at noted few with_new added =
        subst (λ k. IsConsistentVocabulary base (rs ++ r ∷ []) iris (set.insert labels (label k Pref tag text)) new
        with_new) (sym number_of_new)
        (kept_new base rs iris labels old new room (kept_same base rs iris labels old concepts room kept roomy) keeps r
        tag text
        (subst (λ (w : Vocabulary). IsNewOwner w.resources r) (sym seen) is)
        (subst (λ (w : Vocabulary). IsFreeName w.resources w.labels r tag text) (sym seen) free) o at
        (subst (HasEntryInScheme new o tag text) number_of_new noted)
        (subst (λ (w : Vocabulary). length w.resources + 1 < 2 ^ 32) (sym seen) few) with_new
        (subst (ConceptListsAfterInsert room with_new o) number_of_new added))

-- The invariant holds after a merge copies labels to its target.
pub kept_merged : (base : List ℕ) (rs : List Resource) (iris : Iris) (labels : Labels) (names : Names)
    (concepts : Lists ℕ) (source target : ℕ) → IsConsistentVocabulary base rs iris labels names concepts
    → IsLiveConcept rs target → IsConsistentVocabulary base rs iris
    (set.union labels (copied_labels source target labels)) names concepts
kept_merged base rs iris labels names concepts source target kept live = record {
  legal = kept.legal;
  named = labels_merged rs labels source target kept.named (inr (inl (concept_of_live rs target live)));
  found = λ s n t x h. kept.found s n t x (h.0, preferred_before rs labels source target n t x h.1);
  listed = kept.listed;
}

-- Replacing a preferred label by itself changes nothing.
pub relabel_to_same_text : (rs : List Resource) (labels : Labels) (owner : ℕ) (tag text old : List ℕ) (keep : Bool)
    → AreLegalLabels rs labels → HasLabel labels owner Pref tag old → old ≡ text
    → unless_replaceable_preferred labels rs
    (labels_after_relabel owner tag text keep labels) owner tag accepted None → labels ≡ labels_after_relabel owner
    tag text keep labels
relabel_to_same_text rs labels owner tag text old keep legal has same row =
    let is = relabelled_is labels owner tag text old keep legal.one_preferred has in
    let here = subst (λ (labels_after_rename : Labels). unless_replaceable_preferred labels rs labels_after_rename
    owner tag accepted None) is row in
    go keep ((passed_unless (passed_unless here).1).0) ∙ sym is
  where
    go : (b : Bool) → S13 (replace_preferred owner tag text b old labels) → labels ≡ replace_preferred owner tag text
        b old labels
    go true s13 = absurd (renamed_breaks_s13 labels owner tag text old true (inr (inr (refl, same))) s13)
    go false s13 = grind (arith, common_steps, insert_after_remove)
