-- Taking back the death of a concept restores the vocabulary.
use Rattle.std.proofs.Common.{◌≡◌, ◌<◌, ◌+◌, ◌-◌, inl, inr, ℕ, zero, suc, length, get_or, List, [], ◌∷◌, ◌++◌, take}
use Rattle.std.proofs.Common.{refl, sym, ap, ◌∙◌, subst, arith, true}
use Rattle.std.proofs.lemmas.Bool.{and_parts}
use Rattle.std.proofs.lemmas.List.{take_more}
use Rattle.std.proofs.lemmas.Option.{same_Some}
use Rattle.std.specs.Prelude.{Option, None, Some, slice_get, slice_set, if◌then◌else◌}
use Rattle.std.specs.Ordering.{nat_cmp}
use Rattle.thes_base.specs.declared.data.LabelKind.TheVariants.{Pref}
use Rattle.thes_base.specs.declared.data.Resource.{Resource}
use Rattle.thes_base.specs.Changes.{resource_after_death}
use Rattle.thes_base.specs.Data.{LabelData}
use Rattle.thes_base.specs.Labels.{Labels, HasLabel}
use Rattle.thes_base.specs.Resources.{Iris, entry_at, set_entry_at, is_concept_kind}
use Rattle.thes_base.proofs.NumberedLemmas.{set_same}
use Rattle.thes_base.proofs.ResourceLemmas.{marked_dead_at, one_resource}
use Rattle.thes_lists.specs.declared.lists.Lists.{Lists}
use Rattle.thes_lists.specs.Lists.{AreListings, HaveSameValues}
use Rattle.thes_lists.proofs.ListingLemmas.{listings_same}
use Rattle.thes_vocab.specs.declared.names.Names.{Names}
use Rattle.thes_vocab.specs.ConceptLists.{ConceptListsAfterInsert}
use Rattle.thes_vocab.specs.Consistency.{IsConsistentVocabulary}
use Rattle.thes_vocab.specs.NameIndex.{AreHoldersIndexed, HasLabelEntry, HasNameEntry, KeepsNames}
use Rattle.thes_vocab.specs.OwnLabels.{AreLabelsOf, has_own, own_label}
use Rattle.thes_vocab.specs.TakingBack.{IsBeforeDeath}
use Rattle.thes_vocab.specs.Vocabulary.{Vocabulary, vocabulary_from, concept_scheme, IsConceptOf}
use Rattle.thes_vocab.proofs.ConceptListLemmas.{concept_after, listed_alive}
use Rattle.thes_vocab.proofs.LoadingLemmas.{own_push}

-- If the first `i` labels have their entries, and the next label gets its entry, the first `i + 1` labels have theirs.
pub entries_with_next : (old new : Names) (o : Option ℕ) (n : ℕ) (own : List LabelData) (i : ℕ) (x : LabelData)
    → i < length own → x ≡ get_or own i x → KeepsNames old new
    → ((d : LabelData) → has_own (take i own) d ≡ true → HasLabelEntry old o d n) → HasLabelEntry new o x n
    → (d : LabelData) → has_own (take (i + 1) own) d ≡ true → HasLabelEntry new o d n
entries_with_next old new o n own i x within is keeps before here d has =
    let more : take (i + 1) own ≡ take i own ++ x ∷ [] = take_more own i x within
    ∙ ap (λ (y : LabelData). take i own ++ y ∷ []) (sym is) in
    elim (own_push (take i own) x d (sym (ap (λ (xs : List LabelData). has_own xs d) more) ∙ has)) [
      | inl earlier ↦ (λ pref scheme e. keeps scheme n d.tag d.text (before d earlier pref scheme e))
      | inr same ↦ subst (λ (l : LabelData). HasLabelEntry new o l n) (sym same) here
    ]

-- Putting back an item that was replaced restores the list.
put_back : {A : Type 0} (xs : List A) (x y : A) (i : ℕ) → slice_get xs i ≡ Some x
    → slice_set (slice_set xs i y) i x ≡ xs
put_back [] x y i e = absurd (cc)
put_back (z ∷ xs) x y zero e = ap (λ w. w ∷ xs) (sym (same_Some z x e))
put_back (z ∷ xs) x y (suc i) e = ap (λ ys. z ∷ ys) (put_back xs x y i e)

entry_put_back : {A : Type 0} (xs : List A) (x y : A) (n : ℕ) → entry_at xs n ≡ Some x
    → set_entry_at (set_entry_at xs n y) n x ≡ xs
entry_put_back xs x y zero e = absurd (cc)
entry_put_back xs x y (suc n) e =
    let same : suc n - 1 ≡ n = omega arith in
    put_back xs x y (suc n - 1) (ap (slice_get xs) same ∙ e)

-- Assumes that a concept was marked as dead.
module _ (n : ℕ) (replaced : Option ℕ) (before after : Vocabulary) (was : IsBeforeDeath n replaced before after) where
  abbrev concept : Resource
  concept = was.live.0

  at_number : entry_at before.resources n ≡ Some concept
  at_number = was.live.1

  abbrev dead_concept : Resource
  dead_concept = resource_after_death replaced concept

  abbrev with_dead : List Resource
  with_dead = set_entry_at before.resources n dead_concept

  is_live : concept.live ≡ true
  is_live = (and_parts (is_concept_kind concept.kind) concept.live was.live.2).1

  not_replaced : concept.replaced ≡ None
  not_replaced = go concept.replaced refl
    where
      go : (o : Option ℕ) → concept.replaced ≡ o → o ≡ None
      go None e = refl
      go (Some m) e = absurd (let dead = ((was.legal.each n concept at_number).replaced m e).0 in
          let live = is_live in cc)

  scheme_is : concept_scheme concept ≡ concept.scheme
  scheme_is = ap (λ b. if b then concept.scheme else None) was.live.2

  -- Assumes the parts that make up the vocabulary after the death.
  module _ (base : List ℕ) (rs : List Resource) (iris : Iris) (labels : Labels)
      (seen : vocabulary_from base rs iris labels ≡ after) where
    seen_dead : vocabulary_from base rs iris labels
        ≡ record { base = before.base; resources = with_dead; iris = before.iris; labels = before.labels }
    seen_dead = seen ∙ was.dead
        ∙ ap (λ (xs : List Resource). vocabulary_from before.base xs before.iris before.labels)
        (marked_dead_at before.resources n replaced concept at_number)

    pub dead_at_number : entry_at rs n ≡ Some dead_concept
    dead_at_number = ap (λ (v : Vocabulary). entry_at v.resources n) seen_dead
        ∙ set_same before.resources dead_concept concept n at_number

    -- Assumes that the dead concept is replaced by a live one with its kind and scheme.
    module _ (dead now : Resource) (read : entry_at rs n ≡ Some dead)
        (revived : now ≡ record { kind = dead.kind; scheme = dead.scheme; live = true; replaced = None }) where
      dead_is : dead ≡ dead_concept
      dead_is = one_resource rs n dead dead_concept read dead_at_number

      now_is : now ≡ concept
      now_is = revived
          ∙ ap (λ (x : Resource). record { kind = x.kind; scheme = x.scheme; live = true; replaced = None }) dead_is
          ∙ (λ i. record {
            kind = concept.kind;
            scheme = concept.scheme;
            live = sym is_live i;
            replaced = sym not_replaced i;
          })

      resources_again : set_entry_at rs n now ≡ before.resources
      resources_again = (λ i. set_entry_at (ap (λ (v : Vocabulary). v.resources) seen_dead i) n (now_is i))
          ∙ entry_put_back before.resources concept dead_concept n at_number

      -- The vocabulary is the one before the death.
      pub vocabulary_before_death : vocabulary_from base (set_entry_at rs n now) iris labels ≡ before
      vocabulary_before_death = λ i. record {
        base = ap (λ (v : Vocabulary). v.base) seen_dead i;
        resources = resources_again i;
        iris = ap (λ (v : Vocabulary). v.iris) seen_dead i;
        labels = ap (λ (v : Vocabulary). v.labels) seen_dead i;
      }

      -- Assumes that the indexes have the entries of the live concept again: then the invariant holds.
      module _ (old new : Names) (listed room full : Lists ℕ) (own : List LabelData)
          (kept : IsConsistentVocabulary base rs iris labels old listed) (owns : AreLabelsOf labels n own)
          (keeps : KeepsNames old new)
          (put : (l : LabelData) → has_own own l ≡ true → HasLabelEntry new (concept_scheme now) l n)
          (roomy : HaveSameValues listed room) (inserts : ConceptListsAfterInsert room full (concept_scheme now) n)
        where
          was_kept : IsConsistentVocabulary before.base with_dead before.iris before.labels old listed
          was_kept = subst (λ (v : Vocabulary). IsConsistentVocabulary v.base v.resources v.iris v.labels old listed)
              seen_dead kept

          owns_before : AreLabelsOf before.labels n own
          owns_before = subst (λ (v : Vocabulary). AreLabelsOf v.labels n own) seen_dead owns

          scheme_now : concept_scheme now ≡ concept.scheme
          scheme_now = ap concept_scheme now_is ∙ scheme_is

          holders_found : AreHoldersIndexed before.resources before.labels new
          holders_found s m t x h =
              elim (concept_after before.resources n replaced concept at_number listed listed s m h.0) [
                | inl stays ↦ keeps s m t x (was_kept.found s m t x (stays, h.1))
                | inr here ↦ subst (λ k. HasNameEntry new s t x k) (sym here.1)
                    (put (own_label Pref t x) (has_name here.1 h.1) refl s (scheme_now ∙ here.0))
              ]
            where
              has_name : m ≡ n → HasLabel before.labels m Pref t x → has_own own (own_label Pref t x) ≡ true
              has_name same held = owns_before.each (own_label Pref t x)
                  ∙ subst (λ k. HasLabel before.labels k Pref t x) same held

          concepts_listed : AreListings nat_cmp (IsConceptOf before.resources) full
          concepts_listed = listed_alive before.resources n replaced concept at_number room full was.live concept.scheme
              refl (subst (λ o. ConceptListsAfterInsert room full o n) scheme_now inserts)
              (listings_same nat_cmp (IsConceptOf with_dead) (IsConceptOf with_dead) listed room roomy (λ s m c. c)
              (λ s m c. c) was_kept.listed)

          pub kept_before_death : IsConsistentVocabulary base (set_entry_at rs n now) iris labels new full
          kept_before_death =
              let again : IsConsistentVocabulary before.base before.resources before.iris before.labels new full =
              record {
                legal = was.legal;
                named = was.named;
                found = holders_found;
                listed = concepts_listed;
              } in
              subst (λ (v : Vocabulary). IsConsistentVocabulary v.base v.resources v.iris v.labels new full)
              (sym vocabulary_before_death) again
