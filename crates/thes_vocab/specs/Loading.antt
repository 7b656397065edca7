-- A vocabulary that is loaded row by row: its invariant, and the conditions on each row.
use Rattle.std.specs.Prelude.{◌≡◌, ◌≢◌, ◌<◌, ◌≤◌, ◌^◌, ℕ, List, Bool, true, false, None, Some, length}
use Rattle.std.specs.Ordering.{nat_cmp}
use Rattle.std.specs.FinSet as set
use Rattle.std.specs.FinMap as dict
use Rattle.thes_base.specs.declared.data.Resource.{Resource}
use Rattle.thes_base.specs.declared.data.LabelKind.TheVariants.{Pref}
use Rattle.thes_base.specs.Resources.{Iris, entry_at, IsOutside, IsReplacedBy, CanOwn, BeginsWith}
use Rattle.thes_base.specs.Labels.{Label, Labels, HasLabel, HasPreferred, is_lexical_kind, S13, S14, UniquePreferred}
use Rattle.thes_base.specs.Links.{Chain}
use Rattle.thes_base.specs.Changes.{has_lexical_label}
use Rattle.thes_base.specs.Legal.{IsLegalResource}
use Rattle.thes_vocab.specs.Vocabulary.{Vocabulary, IsConceptOf, with_labels}
use Rattle.thes_vocab.specs.Rivals.{HasRival}
use Rattle.thes_vocab.specs.NameIndex.{AreHoldersIndexed}
use Rattle.thes_vocab.specs.declared.names.Names.{Names}
use Rattle.thes_lists.specs.declared.lists.Lists.{Lists}
use Rattle.thes_lists.specs.Lists.{AreListings}

-- The resources meet all conditions of legality except those on the IRIs of outside concepts.
pub record AreSound (resources : List Resource) : Type 0 where
  pub few : length resources < 2 ^ 32
  pub each : (n : ℕ) (r : Resource) → entry_at resources n ≡ Some r → IsLegalResource resources n r
  pub no_return : (n : ℕ) → Chain (IsReplacedBy resources) n n → ⊥

-- The IRIs are legal, but some outside concepts may lack one.
pub record AreIrisSoFar (base : List ℕ) (resources : List Resource) (iris : Iris) : Type 0 where
  pub only : (n : ℕ) (iri : List ℕ) → dict.get iris n ≡ Some iri → IsOutside resources n
  pub distinct : (m n : ℕ) (iri : List ℕ) → dict.get iris m ≡ Some iri → dict.get iris n ≡ Some iri → m ≡ n
  pub foreign : (n : ℕ) (iri : List ℕ) → dict.get iris n ≡ Some iri → BeginsWith iri base → ⊥

-- The labels are legal, but some owners may lack a preferred one.
pub record AreLabelsSoFar (resources : List Resource) (labels : Labels) : Type 0 where
  pub owners : (l : Label) → set.contains labels l ≡ true → CanOwn resources l.owner
  pub disjoint : S13 labels
  pub one_preferred : S14 labels
  pub unique : UniquePreferred resources labels

-- The invariant of a vocabulary that is being loaded: legal resources, legal IRIs and labels so far, and complete
-- indexes.
pub record IsLoading (base : List ℕ) (resources : List Resource) (iris : Iris) (labels : Labels)
    (names : Names) (concepts : Lists ℕ) : Type 0 where
  pub sound : AreSound resources
  pub iris_so_far : AreIrisSoFar base resources iris
  pub labels_so_far : AreLabelsSoFar resources labels
  pub found : AreHoldersIndexed resources labels names
  pub listed : AreListings nat_cmp (IsConceptOf resources) concepts

-- The vocabulary with these resources, without IRIs and labels.
abbrev pub bare_vocabulary : List ℕ → List Resource → Vocabulary
bare_vocabulary base resources = record { base = base; resources = resources; iris = dict.empty; labels = set.empty }

-- The vocabulary after the IRI of an outside concept is added.
abbrev pub with_iri : Vocabulary → ℕ → List ℕ → Vocabulary
with_iri v n iri = record { base = v.base; resources = v.resources; iris = dict.insert v.iris n iri; labels = v.labels }

-- The number is that of an outside concept without an IRI, and the IRI is new and doesn't begin with the base.
pub record IsFreeIri (base : List ℕ) (resources : List Resource) (iris : Iris) (n : ℕ) (iri : List ℕ) : Type 0 where
  pub outside : IsOutside resources n
  pub number : dict.get iris n ≡ None
  pub free : (m : ℕ) → dict.get iris m ≢ Some iri
  pub foreign : BeginsWith iri base → ⊥

-- The IRI may be loaded under the number.
abbrev pub MayLoadIri : Vocabulary → ℕ → List ℕ → Type 0
MayLoadIri v n iri = IsFreeIri v.base v.resources v.iris n iri

-- The result of loading an IRI: true if it is allowed and was added, false if it isn't allowed and nothing changed.
abbrev pub LoadIriResult : Vocabulary → Vocabulary → ℕ → List ℕ → Bool → Type 0
LoadIriResult old new n iri true = MayLoadIri old n iri × (new ≡ with_iri old n iri)
LoadIriResult old new n iri false = (MayLoadIri old n iri → ⊥) × (new ≡ old)

-- The number has an IRI.
abbrev pub HasIri : Iris → ℕ → Type 0
HasIri iris n = (iri : List ℕ) × (dict.get iris n ≡ Some iri)

-- Each outside concept has an IRI.
abbrev pub HaveIris : Vocabulary → Type 0
HaveIris v = (n : ℕ) → IsOutside v.resources n → HasIri v.iris n

-- The label's owner can have labels and lacks this one, and with it the labels meet SKOS S13 and S14, and preferred
-- labels stay unique in each scheme.
pub record MayLoadLabel (v : Vocabulary) (l : Label) : Type 0 where
  pub owner : CanOwn v.resources l.owner
  pub new : set.contains v.labels l ≡ false
  pub disjoint : S13 (set.insert v.labels l)
  pub one_preferred : S14 (set.insert v.labels l)
  pub unique : UniquePreferred v.resources (set.insert v.labels l)

-- The result of loading a label: true if it is allowed and was added, false if it isn't allowed and nothing changed.
abbrev pub LoadLabelResult : Vocabulary → Vocabulary → Label → Bool → Type 0
LoadLabelResult old new l true = MayLoadLabel old l × (new ≡ with_labels old (set.insert old.labels l))
LoadLabelResult old new l false = (MayLoadLabel old l → ⊥) × (new ≡ old)

-- The condition for loading a label, in terms of look-ups of its owner and its text. It is equivalent to MayLoadLabel
-- if the labels so far are legal.
pub record IsFreeLabel (resources : List Resource) (labels : Labels) (l : Label) : Type 0 where
  pub owner : CanOwn resources l.owner
  pub new : set.contains labels l ≡ false
  pub name : (is_lexical_kind l.kind ≡ true) × (has_lexical_label labels l.owner l.tag l.text ≡ true) → ⊥
  pub preferred : (l.kind ≡ Pref) × ((text : List ℕ) × HasLabel labels l.owner Pref l.tag text) → ⊥
  pub rival : (l.kind ≡ Pref) × HasRival resources labels l.owner l.tag l.text → ⊥

-- Each scheme, concept and collection with a number up to `most` has a preferred label.
abbrev pub HavePreferredUpTo : ℕ → List Resource → Labels → Type 0
HavePreferredUpTo most resources labels = (n : ℕ) → n ≤ most → CanOwn resources n → HasPreferred labels n

-- Each outside concept with a number up to `most` has an IRI.
abbrev pub HaveIrisUpTo : ℕ → List Resource → Iris → Type 0
HaveIrisUpTo most resources iris = (n : ℕ) → n ≤ most → IsOutside resources n → HasIri iris n
