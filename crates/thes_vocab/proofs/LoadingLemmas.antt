-- Each IRI and label that passes its checks keeps the invariant of a vocabulary that is being loaded.
use Rattle.std.proofs.lemmas.Grind.{common_steps}
use Rattle.std.proofs.Common.{◌≡◌, ◌≢◌, ◌⊎◌, ◌≤◌, ◌<◌, ℕ, ◌+◌, length, List, [], ◌∷◌, ◌++◌, sym}
use Rattle.std.proofs.Common.{◌∙◌, arith, Bool, true, IsTrue, Bor, get_or}
use Rattle.std.specs.Prelude.{Option, None, Some, ◌↔◌}
use Rattle.std.specs.Option.{MatchOption, is_some}
use Rattle.std.specs.Ordering.{nat_cmp, eq_by_cmp}
use Rattle.std.specs.FinSet as set
use Rattle.std.specs.FinMap as dict
use Rattle.std.proofs.lemmas.Bool.{cases_Bool, or_cases, cases_eq}
use Rattle.std.proofs.lemmas.List.Folds.{list_any_at}
use Rattle.thes_base.specs.declared.data.Resource.{Resource}
use Rattle.thes_base.specs.declared.data.LabelKind.{LabelKind}
use Rattle.thes_base.specs.declared.data.LabelKind.TheVariants.{Pref}
use Rattle.thes_base.specs.Data.{LabelData}
use Rattle.thes_base.specs.Resources.{Iris}
use Rattle.thes_base.specs.Labels.{Label, Labels, EachHasPreferred}
use Rattle.thes_base.specs.Machine.{owned_label}
use Rattle.thes_base.proofs.LabelSetLemmas.{inserted_cases, no_label}
use Rattle.thes_base.proofs.LegalResourceLemmas.{iri_cases, no_iri}
use Rattle.thes_lists.specs.declared.lists.Lists.{Lists}
use Rattle.thes_vocab.specs.declared.names.Names.{Names}
use Rattle.thes_lists.specs.Lists.{AreListings}
use Rattle.thes_vocab.specs.Vocabulary.{Vocabulary, vocabulary_from, IsConceptIn, IsConceptOf, concept_scheme}
use Rattle.thes_vocab.specs.OwnLabels.{data_cmp, has_own}
use Rattle.thes_vocab.specs.NameIndex.{KeepsNames, HasLabelEntry}
use Rattle.thes_vocab.specs.Consistency.{IsConsistentVocabulary}
use Rattle.thes_vocab.specs.Loading.{AreSound, IsLoading, AreLabelsSoFar, MayLoadIri, MayLoadLabel, IsFreeLabel}
use Rattle.thes_vocab.specs.Loading.{HaveIris}
use Rattle.thes_vocab.proofs.LabelCheckLemmas.{breaks_s13, keeps_s13, breaks_s14, keeps_s14, breaks_unique}
use Rattle.thes_vocab.proofs.LabelCheckLemmas.{keeps_unique}
use Rattle.thes_vocab.proofs.ConsistencyLemmas.{IsSchemeOf, finds_more, finds_added}
use Rattle.thes_vocab.proofs.OwnLabelLemmas.{label_data_of_tie, tie_of_label_data}

pref_or_not : (k : LabelKind) → (k ≡ Pref) ⊎ (k ≢ Pref)
pref_or_not k = grind (arith, common_steps)

module _ (v : Vocabulary) (l : Label) where
  -- A label that passes the look-ups meets the conditions for loading it.
  pub fits_free : AreLabelsSoFar v.resources v.labels → IsFreeLabel v.resources v.labels l → MayLoadLabel v l
  fits_free so_far free = grind (arith, common_steps, cases_Bool, keeps_s13, keeps_s14, keeps_unique, pref_or_not)

  pub free_fits : MayLoadLabel v l → IsFreeLabel v.resources v.labels l
  free_fits fits = record {
    owner = fits.owner;
    new = fits.new;
    name = λ h. breaks_s13 v.labels l fits.new h.0 h.1 fits.disjoint;
    preferred = λ h. breaks_s14 v.labels l fits.new h.0 h.1.0 h.1.1 fits.one_preferred;
    rival = λ h. breaks_unique v.labels l v.resources h.0 h.1 fits.unique;
  }

module _ (base : List ℕ) (rs : List Resource) (iris : Iris) (labels : Labels) (old new : Names) (concepts : Lists ℕ)
    (is : IsLoading base rs iris labels old concepts) where
  -- The invariant holds after entries are added to the index of preferred labels.
  pub loading_more : KeepsNames old new → IsLoading base rs iris labels new concepts
  loading_more keeps = grind (arith, common_steps, finds_more)

  module _ (owner : ℕ) (d : LabelData) (keeps : KeepsNames old new) (o : Option ℕ) (at : IsSchemeOf rs owner o)
      (noted : HasLabelEntry new o d owner) (fits : MayLoadLabel (vocabulary_from base rs iris labels)
      (owned_label owner d)) where
    abbrev l : Label
    l = owned_label owner d

    -- The invariant holds after a label is loaded.
    pub loading_label : IsLoading base rs iris (set.insert labels l) new concepts
    loading_label = grind (arith, common_steps, finds_added, inserted_cases)

  -- The invariant holds after an IRI is loaded.
  pub loading_iri : (n : ℕ) (iri : List ℕ) → MayLoadIri (vocabulary_from base rs iris labels) n iri
      → IsLoading base rs (dict.insert iris n iri) labels old concepts
  loading_iri n iri fits = grind (arith, common_steps, iri_cases)

  -- The loaded vocabulary is consistent if all IRIs and preferred labels are there.
  pub loading_kept : HaveIris (vocabulary_from base rs iris labels) → EachHasPreferred rs labels
      → IsConsistentVocabulary
      base rs iris labels old concepts
  loading_kept all named = record {
    legal = record {
      few = is.sound.few;
      each = is.sound.each;
      no_return = is.sound.no_return;
      outside = record {
        each = all;
        only = is.iris_so_far.only;
        distinct = is.iris_so_far.distinct;
        foreign =
            is.iris_so_far.foreign;
      };
    };
    named = record {
      owners = is.labels_so_far.owners;
      disjoint = is.labels_so_far.disjoint;
      one_preferred =
          is.labels_so_far.one_preferred;
      unique = is.labels_so_far.unique;
      named = named;
    };
    found = is.found;
    listed = is.listed;
  }

pub own_push : (xs : List LabelData) (d q : LabelData) → has_own (xs ++ d ∷ []) q ≡ true → (has_own xs q ≡ true)
    ⊎ (q ≡ d)
own_push xs d q e = grind (arith, common_steps, label_data_of_tie, or_cases)

pub concept_in : (r : Resource) → MatchOption (concept_scheme r) ((scheme : ℕ) → IsConceptIn scheme r → ⊥)
    (λ scheme. IsConceptIn scheme r)
concept_in r = grind (arith, common_steps)

-- A look-up of a preferred label returns one exactly when there is one.
pub some_preferred : (P : List ℕ → Type 0) (o : Option (Bor (List ℕ))) (b : Bool)
    → MatchOption o ((text : List ℕ) → P text → ⊥) (λ text. P text.now) → b ≡ is_some o → IsTrue b
    ↔ ((text : List ℕ) × P text)
some_preferred P None b none is = (λ t. let f = sym is ∙ t in absurd (cc), λ h. absurd (none h.0 h.1))
some_preferred P (Some text) b has is = (λ t. (text.now, has), λ h. is)

-- The item at an index of the list is a member.
pub own_at : (own : List LabelData) (k : ℕ) (d : LabelData) → k < length own → get_or own k d ≡ d → has_own own d ≡ true
own_at own k d within is = list_any_at (eq_by_cmp data_cmp d) own k d within
    (tie_of_label_data d (get_or own k d) (sym is))

-- A property of all numbers up to `i` and of `i + 1` holds of all up to `i + 1`.
pub next_of : (P : ℕ → Type 0) (i : ℕ) → ((n : ℕ) → n ≤ i → P n) → P (i + 1) → (n : ℕ) → n ≤ i + 1 → P n
next_of P i before here n le = grind (arith, common_steps, cases_eq)

-- The invariant holds at the start, without IRIs and labels.
pub loading_none : (base : List ℕ) (rs : List Resource) (names : Names) (concepts : Lists ℕ) → AreSound rs
    → AreListings nat_cmp (IsConceptOf rs) concepts → IsLoading base rs dict.empty set.empty names concepts
loading_none base rs names concepts sound listed = grind (arith, common_steps, no_iri, no_label)
