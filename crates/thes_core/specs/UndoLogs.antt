-- The requests that were applied to a core one after another, so that they can be taken back.
use Rattle.std.specs.Prelude.{◌≡◌, ℕ, List, [], ◌∷◌, false}
use Rattle.thes_base.specs.declared.data.Resource.{Resource}
use Rattle.thes_base.specs.declared.request.Command.{Command}
use Rattle.thes_base.specs.declared.request.Command.TheVariants as request
use Rattle.thes_base.specs.Changes.{state_after_creation}
use Rattle.thes_base.specs.Legal.{IsLegalState}
use Rattle.thes_base.specs.Machine.{next_state}
use Rattle.thes_base.specs.Refusals.{Setting}
use Rattle.thes_base.specs.Resources.{is_outside_kind, IsConcept}
use Rattle.thes_base.specs.State.{State}
use Rattle.thes_links.specs.GraphView.{MarksOutside}
use Rattle.thes_post.specs.PostingCounts.{ArePostingCounts}
use Rattle.thes_core.specs.CoreDecisions.{IsAccepted, IsAppliedWithoutPostings}
use Rattle.thes_core.specs.CoreView.{CoreView, IsViewOf, with_histories, without_postings}
use Rattle.thes_core.specs.Losses.{IsLostFromParts, IsLostFromPostings}
use Rattle.thes_core.specs.PartsView.{parts_state, setting_of}
use Rattle.thes_core.specs.Requests.{PartsOfState}
use Rattle.thes_core.specs.declared.thesaurus.Thesaurus.{Thesaurus}
use Rattle.thes_core.specs.declared.losses.Lost.{Lost}
use Rattle.thes_core.specs.declared.undo_log.UndoStep.{UndoStep}

-- The request passes these of its checks: for a Split, that its source is a concept; for a Post or a Withdraw, none;
-- for any other request, all.
abbrev pub IsAcceptedOnParts : Setting → State → Command → Type 0
IsAcceptedOnParts setting s (request.Split source tag text postings) = IsConcept s.resources source
IsAcceptedOnParts setting s (request.Post key rec concept) = Unit {0}
IsAcceptedOnParts setting s (request.Withdraw posting) = Unit {0}
IsAcceptedOnParts setting s command = IsAccepted setting s command

-- Postings aside, the parts are those of the state after the request, which passes the checks of `IsAcceptedOnParts` in
-- the legal state `s`; the graph marks exactly the outside concepts.
pub record ArePartsAfter (command : Command) (s : State) (t : Thesaurus) : Type 0 where
  pub legal : IsLegalState t.vocab.base s
  pub accepts : IsAcceptedOnParts (setting_of t) s command
  pub state : parts_state t [] ≡ without_postings (next_state command s)
  pub outside : MarksOutside t.vocab.resources t.graph

-- Postings aside, the parts are those of the legal state `s` after a resource other than an outside concept is created.
pub record ArePartsAfterCreation (tag text : List ℕ) (s : State) (t : Thesaurus) : Type 0 where
  pub legal : IsLegalState t.vocab.base s
  pub resource : Resource
  pub inside : is_outside_kind resource.kind ≡ false
  pub state : parts_state t [] ≡ without_postings (state_after_creation resource tag text s)
  pub outside : MarksOutside t.vocab.resources t.graph

-- Postings aside: if the old parts are those after the request, and `lost` is what the request removes or adds without
-- naming it in its arguments, the new parts are those of the state `s` before the request.
abbrev pub ArePartsTakenBack : Command → State → Lost → Thesaurus → Thesaurus → Type 0
ArePartsTakenBack command s lost old new = ArePartsAfter command s old → IsLostFromParts command s lost
    → PartsOfState old (without_postings s) new

-- If the old parts count the postings of the state after the accepted request, and `lost` is what the request changes
-- in the postings without naming it in its arguments, the new parts count the postings of the state `s` before the
-- request.
abbrev pub AreCountsTakenBack : Command → State → Lost → Thesaurus → Thesaurus → Type 0
AreCountsTakenBack command s lost old new = IsAccepted (setting_of old) s command → IsLostFromPostings command s lost
    → ArePostingCounts (next_state command s).histories old.book → ArePostingCounts s.histories new.book

-- The step leads from the legal state `s` to the state `t`: its request is accepted in `s`, and its `lost` is what the
-- request removes from `s`, or adds to it, without naming it in its arguments.
pub record IsUndoStep (setting : Setting) (s : State) (step : UndoStep) (t : State) : Type 0 where
  pub legal : IsLegalState setting.base s
  pub accepts : IsAccepted setting s step.command
  pub lost : IsLostFromParts step.command s step.lost
  pub lost_postings : IsLostFromPostings step.command s step.lost
  pub after : t ≡ next_state step.command s

-- The steps lead from the state `s` to the state `t`, one after another, each as `Leads` states.
abbrev pub StepsLead : (State → UndoStep → State → Type 0) → State → List UndoStep → State → Type 0
StepsLead Leads s [] t = t ≡ s
StepsLead Leads s (step ∷ steps) t = (mid : State) × Leads s step mid × StepsLead Leads mid steps t

-- The step leads from one state without postings to another, and its `lost` is what its request removes from the first,
-- or adds to it, without naming it in its arguments.
pub record LeadsWithoutPostings (setting : Setting) (before : State) (step : UndoStep) (after : State) : Type 0 where
  pub application : IsAppliedWithoutPostings setting before step.command after
  pub lost : IsLostFromParts step.command before step.lost

-- The steps of the log lead from some state without postings to the core's state without its postings.
abbrev pub IsLogOf : List UndoStep → CoreView → Type 0
IsLogOf steps core =
    (s : State) × StepsLead (LeadsWithoutPostings core.setting) s steps (with_histories [] core)

-- The setting is unchanged. If the steps led from a state `s` to a state `t`, and the old core was a view of `t`, the
-- new core is a view of `s`.
abbrev pub IsTakenBack : List UndoStep → CoreView → CoreView → Type 0
IsTakenBack steps old new = (new.setting ≡ old.setting)
    × ((s t : State) → StepsLead (IsUndoStep old.setting) s steps t → IsViewOf old t → IsViewOf new s)
