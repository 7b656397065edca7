-- The references of a plan's requests to earlier requests. Which references are good depends on the requests alone,
-- not on a state.
use Rattle.std.specs.Prelude.{◌≡◌, ◌+◌, ℕ, List, Option, None, Some, All, slice_get, take}
use Rattle.thes_base.specs.Types.{Number}
use Rattle.thes_base.specs.Resources.{entry_at}
use Rattle.thes_base.specs.declared.request.Command.{Command}
use Rattle.thes_base.specs.declared.request.Command.TheVariants as request
use Rattle.thes_plans.specs.declared.plan.PlanRequest.{PlanRequest}

-- The request creates a resource, if it is accepted.
abbrev pub MakesResource : Command → Type 0
MakesResource (request.Scheme tag text) = Unit {0}
MakesResource (request.Concept scheme tag text) = Unit {0}
MakesResource (request.Collection scheme tag text) = Unit {0}
MakesResource (request.Outside iri) = Unit {0}
MakesResource (request.Split source tag text postings) = Unit {0}
MakesResource _ = ⊥

-- The request makes a posting or finds it by its key, if it isn't refused.
abbrev pub MakesPosting : Command → Type 0
MakesPosting (request.Post key rec concept) = Unit {0}
MakesPosting _ = ⊥

-- The commands to which the reference `first` of this command may lead: those that make a posting if this one is a
-- Withdraw, whose first number belongs to a posting, or else those that create a resource.
abbrev pub MakesFirst : Command → Command → Type 0
MakesFirst (request.Withdraw posting) = MakesPosting
MakesFirst _ = MakesResource

-- There is no reference, or it is to an earlier request, and `Makes` holds of the command of that request.
abbrev pub IsGoodReference : (Command → Type 0) → List PlanRequest → Option ℕ → Type 0
IsGoodReference Makes earlier None = Unit {0}
IsGoodReference Makes earlier (Some place) =
    (made : PlanRequest) × (entry_at earlier place ≡ Some made) × Makes made.command

-- Each reference of the request is to an earlier request that makes the resource or the posting that is needed there.
pub record HasGoodReferences (earlier : List PlanRequest) (asked : PlanRequest) : Type 0 where
  pub first : IsGoodReference (MakesFirst asked.command) earlier asked.first
  pub second : IsGoodReference MakesResource earlier asked.second
  pub postings : All (IsGoodReference MakesPosting earlier) asked.postings.items

-- Each request of the plan has good references to the requests before it.
abbrev pub AreGoodReferences : List PlanRequest → Type 0
AreGoodReferences plan = (index : ℕ) (asked : PlanRequest) → slice_get plan index ≡ Some asked
    → HasGoodReferences (take index plan) asked

-- The place is that of the first request with a reference that isn't good.
pub record IsFirstBadReference (plan : List PlanRequest) (place : Number) : Type 0 where
  pub index : ℕ
  pub place_is : place ≡ index + 1
  pub asked : PlanRequest
  pub at : slice_get plan index ≡ Some asked
  pub good_before : AreGoodReferences (take index plan)
  pub bad : ¬ HasGoodReferences (take index plan) asked

-- The place of the first request with a reference that isn't good; None if all references are good.
abbrev pub FirstBadReference : List PlanRequest → Option ℕ → Type 0
FirstBadReference plan None = AreGoodReferences plan
FirstBadReference plan (Some place) = IsFirstBadReference plan place
