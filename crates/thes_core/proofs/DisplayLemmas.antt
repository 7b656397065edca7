-- A link within a scheme has two live concepts of one scheme as its ends.
use Rattle.std.proofs.lemmas.Grind.{common_steps}
use Rattle.std.proofs.Common.{◌≡◌, ℕ, List, ◌↔◌, arith}
use Rattle.thes_base.specs.declared.data.LinkKind.{LinkKind}
use Rattle.thes_base.specs.declared.data.LinkForm.TheVariants.{Within}
use Rattle.thes_base.specs.Legal.{IsLegalState}
use Rattle.thes_base.specs.Links.{form_of}
use Rattle.thes_base.specs.Resources.{IsConcept, IsLive, IsLiveConcept}
use Rattle.thes_base.specs.State.{State}
use Rattle.thes_base.specs.Views.{HasLink}
use Rattle.thes_base.proofs.ResourceLemmas.{live_from_test, live_of_parts}
use Rattle.thes_vocab.specs.Vocabulary.{IsConceptOf}

module _ (s : State) (base : List ℕ) (legal : IsLegalState base s) where
  live_concept : (n : ℕ) → IsConcept s.resources n → IsLive s.resources n → IsLiveConcept s.resources n
  live_concept n concept live = live_from_test s.resources n (live_of_parts s.resources n concept live)

  pub same_scheme_within : (scheme : ℕ) (kind : LinkKind) (a b : ℕ) → form_of kind ≡ Within → HasLink s.links kind a b
      → IsConceptOf s.resources scheme a ↔ IsConceptOf s.resources scheme b
  same_scheme_within scheme kind a b f h = grind (arith, common_steps, live_concept)
