-- Proves that the view of a concept in a core is its view in the state that the core holds.
use Rattle.std.proofs.Common.{ℕ, subst}
use Rattle.thes_base.specs.State.{State}
use Rattle.thes_base.specs.Views.{ConceptDetails, AreDetailsOf}
use Rattle.thes_core.specs.CoreView.{CoreView, IsViewOf, with_histories}

-- The view of a concept, computed from the parts of a core, is its view in the state that the core
-- holds.
pub view_of_held_state : (core : CoreView) (s : State) (n : ℕ) (c : ConceptDetails) → IsViewOf core s
    → AreDetailsOf (with_histories s.histories core) n c → AreDetailsOf s n c
view_of_held_state core s n c holds shown = subst (λ (t : State). AreDetailsOf t n c) holds.state shown
