-- The vocabulary that taking back the creation of the last resource, or the death of a concept, must restore.
use Rattle.std.specs.Prelude.{◌≡◌, ℕ, List, Option}
use Rattle.thes_base.specs.declared.data.Resource.{Resource}
use Rattle.thes_base.specs.Legal.{AreLegalResources, AreLegalLabels}
use Rattle.thes_base.specs.Changes.{state_after_creation, state_after_outside}
use Rattle.thes_base.specs.Resources.{IsLiveConcept}
use Rattle.thes_vocab.specs.Vocabulary.{Vocabulary, bare_state, vocabulary_after_death, vocabulary_of}

-- The vocabulary `before` is legal, and the creation of a resource with this preferred label turns it into `after`.
pub record IsBeforeCreation (tag text : List ℕ) (before after : Vocabulary) : Type 0 where
  pub legal : AreLegalResources before.base before.resources before.iris
  pub named : AreLegalLabels before.resources before.labels
  pub resource : Resource
  pub created : after ≡ vocabulary_of before.base (state_after_creation resource tag text (bare_state before))

-- The vocabulary `before` is legal, and the creation of an outside concept with this IRI turns it into `after`.
pub record IsBeforeOutside (iri : List ℕ) (before after : Vocabulary) : Type 0 where
  pub legal : AreLegalResources before.base before.resources before.iris
  pub named : AreLegalLabels before.resources before.labels
  pub created : after ≡ vocabulary_of before.base (state_after_outside iri (bare_state before))

-- The vocabulary `before` is legal and has the live concept `n`, whose death, with a replacement if it was merged,
-- turns it into `after`.
pub record IsBeforeDeath (n : ℕ) (replaced : Option ℕ) (before after : Vocabulary) : Type 0 where
  pub legal : AreLegalResources before.base before.resources before.iris
  pub named : AreLegalLabels before.resources before.labels
  pub live : IsLiveConcept before.resources n
  pub dead : after ≡ vocabulary_after_death before n replaced
