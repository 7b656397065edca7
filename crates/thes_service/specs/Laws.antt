-- The laws of an office's answers. Unless a failure is reported, the bytes of HTTP requests and the state before
-- determine the responses and the state after; so do the bytes of a script and the state before its output and the
-- state after.
use Rattle.std.specs.Prelude.{◌≡◌, ◌⊎◌, ◌++◌, ℕ, Bool, List, [], ◌∷◌, Ok, map}
use Rattle.std.specs.List.{AllByRecursion}
use Rattle.thes_base.specs.declared.fault.Fault.TheVariants.{OutOfMemory, Store}
use Rattle.thes_base.specs.Refusals.{Setting, AreLimits}
use Rattle.thes_base.specs.State.{State}
use Rattle.thes_store.specs.Storage.{StorageView}
use Rattle.thes_office.specs.Office.{OfficeView}
use Rattle.thes_office.specs.TablesOfState.{TablesOfState, EncodeOneState}
use Rattle.thes_requests.specs.declared.answer.Reply.TheVariants as reply
use Rattle.thes_requests.specs.declared.line_serving.LineAnswer.TheVariants.{Reply, Plan}
use Rattle.thes_requests.specs.declared.plan_reply.PlanReply.{PlanReply}
use Rattle.thes_requests.specs.Laws.{EndsInFault, SameReply}
use Rattle.thes_requests.specs.declared.line_serving.LineOutcome.{LineOutcome}
use Rattle.thes_requests.specs.declared.line_serving.LineOutcome.TheVariants.{Unheld, Answered}
use Rattle.thes_requests.specs.Script.{ServesLines}
use Rattle.thes_http.specs.declared.response.Response.{Response}
use Rattle.thes_http.specs.Laws.{SameResponse}
use Rattle.thes_http.specs.Responses.{fault_response, plan_response}
use Rattle.thes_http.specs.Server.{AreAnswered, Exchange}
use Rattle.thes_http.specs.Serving.{Answers}
use Rattle.thes_service.specs.OfficeRequests.{OfficeServes}
use Rattle.thes_service.specs.Service.{office_behaviour}

-- The response reports that memory ran out, or that the storage failed, alone or as the last answer.
abbrev pub ReportsFailure : Response → Type 0
ReportsFailure response =
    (response ≡ fault_response OutOfMemory)
    ⊎ ((response ≡ fault_response Store)
    ⊎ ((own : PlanReply) × EndsInFault own × (response ≡ plan_response (Ok own))))

-- The line is answered with a fault, alone or as the last answer.
abbrev pub IsFailedLine : LineOutcome → Type 0
IsFailedLine Unheld = Unit {0}
IsFailedLine (Answered (Reply (reply.Fault fault))) = Unit {0}
IsFailedLine (Answered (Plan own)) = EndsInFault own
IsFailedLine outcome = ⊥

-- Two outcomes of a line are the same, but for the changes of rows that their reports list.
abbrev pub SameOutcome : LineOutcome → LineOutcome → Type 0
SameOutcome (Answered (Plan a)) (Answered (Plan b)) = SameReply a b
SameOutcome f g = f ≡ g

-- The outcomes of lines are the same, in order.
abbrev pub SameOutcomes : List LineOutcome → List LineOutcome → Type 0
SameOutcomes [] [] = Unit {0}
SameOutcomes [] (g ∷ gs) = ⊥
SameOutcomes (f ∷ fs) [] = ⊥
SameOutcomes (f ∷ fs) (g ∷ gs) = SameOutcome f g × SameOutcomes fs gs

-- The exchanges have the same bytes, and the same responses, in order.
abbrev pub SameExchanges : List Exchange → List Exchange → Type 0
SameExchanges [] [] = Unit {0}
SameExchanges [] (f ∷ others) = ⊥
SameExchanges (e ∷ exchanges) [] = ⊥
SameExchanges (e ∷ exchanges) (f ∷ others) =
    (e.bytes ≡ f.bytes) × SameResponse e.response f.response × SameExchanges exchanges others

-- An office that takes plans, or doesn't.
module _ {K : Type 0} (view : K → StorageView) (takes : Bool) where
  -- An office with these limits, whose tables encode the state, answers the bytes with the response, and its storage
  -- is up at the end.
  pub record AnswersInState (setting : Setting) (s : State) (old : OfficeView K) (bytes : List ℕ) (response : Response)
      (new : OfficeView K) : Type 0 where
    pub limits : old.limits ≡ setting.limits
    pub shows : TablesOfState (view old.keeper).rows setting.base s
    pub answers : Answers (office_behaviour view takes) old response new bytes
    pub is_up : (view new.keeper).is_up

  -- An office with these limits, whose tables encode the state, has these exchanges, the latest first; its storage is
  -- up at the end, and no response reports a failure.
  pub record ExchangesInState (setting : Setting) (s : State) (old : OfficeView K) (exchanges : List Exchange)
      (new : OfficeView K) : Type 0 where
    pub limits : old.limits ≡ setting.limits
    pub shows : TablesOfState (view old.keeper).rows setting.base s
    pub answers : AreAnswered (office_behaviour view takes) old exchanges new
    pub is_up : (view new.keeper).is_up
    pub no_failure : AllByRecursion (λ e. ¬ ReportsFailure e.response) exchanges

  -- An office with these limits, whose tables encode the state, serves the lines of the bytes with these outcomes; its
  -- storage is up at the end, and no line is answered with a fault.
  pub record ScriptInState (setting : Setting) (s : State) (old : OfficeView K) (bytes : List ℕ)
      (outcomes : List LineOutcome) (new : OfficeView K) : Type 0 where
    pub limits : old.limits ≡ setting.limits
    pub shows : TablesOfState (view old.keeper).rows setting.base s
    pub lines : ServesLines (OfficeServes view takes) bytes outcomes old new
    pub is_up : (view new.keeper).is_up
    pub no_failure : AllByRecursion (λ o. ¬ IsFailedLine o) outcomes

-- The bytes, the limits and the state before determine the response and the state after it, over any two storages,
-- unless a response reports a failure. More bytes may have been read for one response than for the other. The changes
-- of rows that a report lists may be in another order.
abbrev pub HasOneOfficeAnswer : {K L : Type 0} → (K → StorageView) → (L → StorageView) → Type 0
HasOneOfficeAnswer {K} {L} view other =
    (takes : Bool) (setting : Setting) → AreLimits setting.limits
    → (s : State) (old new : OfficeView K) (old' new' : OfficeView L)
    (r q : Response) (bytes more : List ℕ)
    → AnswersInState view takes setting s old bytes r new
    → AnswersInState other takes setting s old' (bytes ++ more) q new'
    → (SameResponse r q × EncodeOneState setting.base (view new.keeper).rows (other new'.keeper).rows)
    ⊎ (ReportsFailure r ⊎ ReportsFailure q)

-- The bytes of requests, in their order, and the state before determine the responses and the state after them, over
-- any two storages, unless a response reports a failure. Reports may list their changes of rows in another order.
abbrev pub HasOneListOfResponses : {K L : Type 0} → (K → StorageView) → (L → StorageView) → Type 0
HasOneListOfResponses {K} {L} view other =
    (takes : Bool) (setting : Setting) → AreLimits setting.limits
    → (s : State) (old new : OfficeView K) (old' new' : OfficeView L)
    (exchanges others : List Exchange) → map (λ e. e.bytes) exchanges ≡ map (λ e. e.bytes) others
    → ExchangesInState view takes setting s old exchanges new
    → ExchangesInState other takes setting s old' others new'
    → SameExchanges exchanges others × EncodeOneState setting.base (view new.keeper).rows (other new'.keeper).rows

-- The bytes of a script and the state before determine the outcomes of its lines, and so its output, and the state
-- after them, over any two storages, unless a line is answered with a fault.
abbrev pub HasOneScript : {K L : Type 0} → (K → StorageView) → (L → StorageView) → Type 0
HasOneScript {K} {L} view other =
    (takes : Bool) (setting : Setting) → AreLimits setting.limits
    → (s : State) (old new : OfficeView K) (old' new' : OfficeView L)
    (bytes : List ℕ) (outcomes others : List LineOutcome)
    → ScriptInState view takes setting s old bytes outcomes new
    → ScriptInState other takes setting s old' bytes others new'
    → SameOutcomes outcomes others × EncodeOneState setting.base (view new.keeper).rows (other new'.keeper).rows
