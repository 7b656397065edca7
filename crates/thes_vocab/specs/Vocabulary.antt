-- A vocabulary as contracts see it: its base, its resources, the IRIs of its outside concepts, and its labels.
use Rattle.std.specs.Prelude.{◌≡◌, ◌≢◌, ◌&&◌, true, ℕ, List, [], None, Some, Option, if◌then◌else◌}
use Rattle.std.specs.FinMap as dict
use Rattle.std.specs.FinSet as set
use Rattle.thes_base.specs.declared.data.Resource.{Resource}
use Rattle.thes_base.specs.Resources.{Iris, IsLive, IsLiveConcept, CanOwn, scheme_of, is_concept_kind}
use Rattle.thes_base.specs.declared.data.LabelKind.TheVariants.{Pref}
use Rattle.thes_base.specs.Labels.{Labels, HasLabel}
use Rattle.thes_base.specs.State.{State}
use Rattle.thes_base.specs.Changes.{resources_after_death}

-- The resources of a thesaurus, with the IRIs of outside concepts and the labels of all others.
pub record Vocabulary : Type 0 where
  -- The prefix of the IRIs of schemes, concepts and collections.
  pub base : List ℕ
  pub resources : List Resource
  pub iris : Iris
  pub labels : Labels

-- The vocabulary with this base, and these resources, IRIs and labels.
abbrev pub vocabulary_from : List ℕ → List Resource → Iris → Labels → Vocabulary
vocabulary_from base resources iris labels =
    record { base = base; resources = resources; iris = iris; labels = labels }

-- The vocabulary with the base, and without resources.
abbrev pub empty_vocabulary : List ℕ → Vocabulary
empty_vocabulary base = record { base = base; resources = []; iris = dict.empty; labels = set.empty }

-- The state with the resources, IRIs and labels of a vocabulary, without links and postings.
abbrev pub bare_state : Vocabulary → State
bare_state v = record { resources = v.resources; iris = v.iris; labels = v.labels; links = set.empty; histories = [] }

-- The vocabulary of a state: its resources, IRIs and labels, with the base.
abbrev pub vocabulary_of : List ℕ → State → Vocabulary
vocabulary_of base s = record { base = base; resources = s.resources; iris = s.iris; labels = s.labels }

-- The vocabulary after its labels are replaced by these.
abbrev pub with_labels : Vocabulary → Labels → Vocabulary
with_labels v labels = record { base = v.base; resources = v.resources; iris = v.iris; labels = labels }

-- The vocabulary after a concept is marked as dead, with its replacement if it was merged.
abbrev pub vocabulary_after_death : Vocabulary → ℕ → Option ℕ → Vocabulary
vocabulary_after_death v n replaced =
    record {
      base = v.base;
      resources = resources_after_death n replaced v.resources;
      iris = v.iris;
      labels =
          v.labels;
    }

-- The number is that of a live scheme, concept or collection, which may get labels.
pub record IsLiveOwner (resources : List Resource) (n : ℕ) : Type 0 where
  pub can : CanOwn resources n
  pub live : IsLive resources n

-- The replacement may be recorded for the concept: it is none, or another live concept of the same scheme.
abbrev pub IsReplacement : List Resource → ℕ → Option ℕ → Type 0
IsReplacement resources n None = Unit {0}
IsReplacement resources n (Some m) = (m ≢ n) × IsLiveConcept resources m
    × (scheme_of resources m ≡ scheme_of resources n)

-- The resource is a live concept of the scheme.
abbrev pub IsConceptIn : ℕ → Resource → Type 0
IsConceptIn scheme r = ((is_concept_kind r.kind && r.live) ≡ true) × (r.scheme ≡ Some scheme)

-- The scheme of a resource that is a live concept; None for other resources.
abbrev pub concept_scheme : Resource → Option ℕ
concept_scheme r = if is_concept_kind r.kind && r.live then r.scheme else None

-- Number `n` is that of a live concept of the scheme.
abbrev pub IsConceptOf : List Resource → ℕ → ℕ → Type 0
IsConceptOf resources scheme n = IsLiveConcept resources n × (scheme_of resources n ≡ Some scheme)

-- Number `n` is that of a live concept of the scheme that has this preferred label.
abbrev pub IsHolder : List Resource → Labels → ℕ → List ℕ → List ℕ → ℕ → Type 0
IsHolder resources labels scheme tag text n = IsConceptOf resources scheme n × HasLabel labels n Pref tag text
