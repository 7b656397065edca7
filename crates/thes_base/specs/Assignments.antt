-- The assignment of postings to live concepts, which holds in every reachable state.
use Rattle.std.specs.Prelude.{◌≡◌, ◌+◌, ℕ, zero, suc, List, [], ◌∷◌, false, length, Some, sum_by, filter}
use Rattle.thes_base.specs.Types.{Number}
use Rattle.thes_base.specs.declared.data.Resource.{Resource}
use Rattle.thes_base.specs.declared.data.History.{History}
use Rattle.thes_base.specs.declared.data.Move.{Move}
use Rattle.thes_base.specs.Resources.{entry_at, IsLiveConcept, is_live_concept}
use Rattle.thes_base.specs.Postings.{assigned_count, withdrawn_count}
use Rattle.thes_base.specs.State.{State}

-- The n numbers from `first` on, in ascending order.
abbrev pub numbers_from : Number → ℕ → List Number
numbers_from first zero = []
numbers_from first (suc n) = first ∷ numbers_from (first + 1) n

-- The numbers of the live concepts in ascending order.
abbrev pub live_concepts : List Resource → List Number
live_concepts resources = filter (is_live_concept resources) (numbers_from 1 (length resources))

-- The moves lead from the concept `from` to the concept `to`: each starts at the target of the move before it.
abbrev pub MovesLead : Number → List Move → Number → Type 0
MovesLead from [] to = to ≡ from
MovesLead from (m ∷ moves) to = (m.source ≡ from) × MovesLead m.target moves to

-- The concept is live, and the moves of the posting lead from its first concept to this one, and to no other.
pub record IsPlace (resources : List Resource) (h : History) (concept : Number) : Type 0 where
  pub live : IsLiveConcept resources concept
  pub moves_lead : MovesLead h.first h.moves concept
  pub no_other : (other : Number) → MovesLead h.first h.moves other → other ≡ concept

-- Each posting that isn't withdrawn is assigned to one live concept, to which its moves lead from its first concept.
-- The counts of the live concepts add up to the postings accepted less those withdrawn.
pub record PostingsAreAssigned (s : State) : Type 0 where
  pub at_one_place :
      (n : Number) (h : History) → entry_at s.histories n ≡ Some h → h.withdrawn ≡ false
      → (concept : Number) × IsPlace s.resources h concept
  pub counts :
      sum_by (λ c. assigned_count c s.histories) (live_concepts s.resources)
      + withdrawn_count s.histories ≡ length s.histories
