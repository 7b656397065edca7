-- Conflicts of a preferred label with other labels, of its owner or of its scheme.
use Rattle.std.specs.Prelude.{◌≡◌, ◌≢◌, ◌⊎◌, ℕ, List, Bool, true, Some}
use Rattle.thes_base.specs.declared.data.Resource.{Resource}
use Rattle.thes_base.specs.declared.data.LabelKind.TheVariants.{Pref, Alt, Hidden}
use Rattle.thes_base.specs.Resources.{IsLiveConcept, scheme_of}
use Rattle.thes_base.specs.Labels.{Labels, HasLabel}
use Rattle.thes_base.specs.Changes.{label}
use Rattle.thes_vocab.specs.Vocabulary.{IsHolder}

-- The owner is a live concept, and another live concept of its scheme has the preferred label.
pub record HasRival (resources : List Resource) (labels : Labels) (owner : ℕ) (tag text : List ℕ) : Type 0 where
  pub scheme : ℕ
  pub rival : ℕ
  pub concept : IsLiveConcept resources owner
  pub within : scheme_of resources owner ≡ Some scheme
  pub holder : IsHolder resources labels scheme tag text rival
  pub other : rival ≢ owner

-- The owner has two different preferred labels.
pub record HasTwoPreferred (labels : Labels) (owner : ℕ) : Type 0 where
  pub first_tag : List ℕ
  pub first_text : List ℕ
  pub second_tag : List ℕ
  pub second_text : List ℕ
  pub first : HasLabel labels owner Pref first_tag first_text
  pub second : HasLabel labels owner Pref second_tag second_text
  pub apart : label owner Pref first_tag first_text ≢ label owner Pref second_tag second_text

-- The text, as the owner's new preferred label in the language, would break SKOS S13: it is an alternative or hidden
-- label of the owner, or, if `keep` is true, the same as the old preferred label.
abbrev pub HasClash : Labels → ℕ → List ℕ → List ℕ → List ℕ → Bool → Type 0
HasClash labels owner tag text old keep =
    HasLabel labels owner Alt tag text ⊎ HasLabel labels owner Hidden tag text ⊎ ((keep ≡ true) × (old ≡ text))
