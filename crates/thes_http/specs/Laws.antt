-- Laws of the answers to connections.
use Rattle.std.specs.Prelude.{ℕ, ◌≡◌, ◌⊎◌, ◌++◌, List, Option, Result, Ok}
use Rattle.thes_base.specs.declared.fault.Fault.{Fault}
use Rattle.thes_base.specs.declared.fault.Fault.TheVariants.{OutOfMemory}
use Rattle.thes_base.specs.declared.request.Command.{Command}
use Rattle.thes_base.specs.declared.request.Answer.{Answer}
use Rattle.thes_requests.specs.declared.handler.QueryAnswer.{QueryAnswer}
use Rattle.thes_requests.specs.declared.request.Query.{Query}
use Rattle.thes_requests.specs.declared.plan_reply.PlanReply.{PlanReply}
use Rattle.thes_requests.specs.Laws.{EndsInFault, SameReply}
use Rattle.thes_requests.specs.Requests.{json_in}
use Rattle.thes_requests.specs.Serving.{ServesPlan}
use Rattle.thes_http.specs.declared.response.MediaType.TheVariants.{Json, Plain}
use Rattle.thes_http.specs.declared.response.Body.{Body}
use Rattle.thes_http.specs.declared.response.Body.TheVariants as body
use Rattle.thes_http.specs.declared.response.Response.{Response}
use Rattle.thes_requests.specs.declared.request.Display.{Display}
use Rattle.thes_http.specs.Responses.{fault_response, command_response, plan_response, query_response, import_response}
use Rattle.thes_http.specs.Responses.{export_response}
use Rattle.thes_http.specs.ServiceBehaviour.{ServiceBehaviour}
use Rattle.thes_http.specs.Serving.{Answers, IsCutRequest}

module _ {S : Type 0} (d : ServiceBehaviour S) (old : S) where
  -- Two responses, each with the state after it, answer one call of the service, or are the same
  -- response and leave the state unchanged.
  pub data AnswerOneCall (r : Response) (x : S) (q : Response) (y : S) : Type 0 where
    command_answers : (command : Command) (a b : Result Answer Fault)
        → d.requests.performs old command a x → d.requests.performs old command b y
        → r ≡ command_response a → q ≡ command_response b → AnswerOneCall r x q y
    plan_answers : (body : List ℕ) (a b : Result PlanReply Fault)
        → ServesPlan d.requests old (json_in body) a x → ServesPlan d.requests old (json_in body) b y
        → r ≡ plan_response a → q ≡ plan_response b → AnswerOneCall r x q y
    query_answers : (query : Query) (a b : Result QueryAnswer Fault)
        → d.requests.shows old query a x → d.requests.shows old query b y
        → r ≡ query_response Json a → q ≡ query_response Json b → AnswerOneCall r x q y
    import_answers : (file : List ℕ) (a b : Result (Option (List ℕ)) Fault)
        → d.imports old file a x → d.imports old file b y
        → r ≡ import_response a → q ≡ import_response b → AnswerOneCall r x q y
    export_answers : (a b : Result (List ℕ) Fault) → d.exports old a x → d.exports old b y
        → r ≡ export_response a → q ≡ export_response b → AnswerOneCall r x q y
    display_answers : (which : Display) (scheme : ℕ) (tag : List ℕ) (a b : Result QueryAnswer Fault)
        → d.displays old which scheme tag a x → d.displays old which scheme tag b y
        → r ≡ query_response Plain a → q ≡ query_response Plain b → AnswerOneCall r x q y
    no_call : r ≡ q → x ≡ old → y ≡ old → AnswerOneCall r x q y

  -- The response reports that memory ran out, and the state is unchanged.
  abbrev pub RunsOut : Response → S → Type 0
  RunsOut response new = (response ≡ fault_response OutOfMemory) × (new ≡ old)

  -- Each call has one answer and one state after it, faults aside.
  pub record HasOneAnswerToACall : Type 0 where
    pub performs : (command : Command) (a b : Answer) (x y : S)
        → d.requests.performs old command (Ok a) x → d.requests.performs old command (Ok b) y → (a ≡ b) × (x ≡ y)
    pub shows : (query : Query) (a b : QueryAnswer) (x y : S)
        → d.requests.shows old query (Ok a) x → d.requests.shows old query (Ok b) y → (a ≡ b) × (x ≡ y)
    -- A list of changes may have another order, so that reports may differ there.
    pub plans : (body : List ℕ) (a b : PlanReply) (x y : S) → ServesPlan d.requests old (json_in body) (Ok a) x
        → ServesPlan d.requests old (json_in body) (Ok b) y
        → (SameReply a b × (x ≡ y)) ⊎ (EndsInFault a ⊎ EndsInFault b)
    pub imports : (file : List ℕ) (a b : Option (List ℕ)) (x y : S)
        → d.imports old file (Ok a) x → d.imports old file (Ok b) y → (a ≡ b) × (x ≡ y)
    pub exports : (a b : List ℕ) (x y : S)
        → d.exports old (Ok a) x → d.exports old (Ok b) y → (a ≡ b) × (x ≡ y)
    pub displays : (which : Display) (scheme : ℕ) (tag : List ℕ) (a b : QueryAnswer) (x y : S)
        → d.displays old which scheme tag (Ok a) x → d.displays old which scheme tag (Ok b) y
        → (a ≡ b) × (x ≡ y)

-- The response reports a fault, alone or as the last answer.
abbrev pub IsFaultResponse : Response → Type 0
IsFaultResponse response =
    ((fault : Fault) × (response ≡ fault_response fault))
    ⊎ ((reply : PlanReply) × EndsInFault reply × (response ≡ plan_response (Ok reply)))

-- Two bodies are the same, but for the changes of rows that their reports list.
abbrev pub SameBody : Body → Body → Type 0
SameBody (body.Plan a) (body.Plan b) = SameReply a b
SameBody a b = a ≡ b

-- Two responses are the same, but for the changes of rows that their reports list.
pub record SameResponse (r q : Response) : Type 0 where
  pub status : r.status ≡ q.status
  pub media : r.media ≡ q.media
  pub body : SameBody r.body q.body

module _ {S : Type 0} (d : ServiceBehaviour S) where
  -- Two answers to the same bytes in the same state answer one call of the service, unless memory
  -- ran out before the call. More bytes may have been read for one answer than for the other.
  abbrev pub HasOneCall : Type 0
  HasOneCall =
      (old x y : S) (r q : Response) (bytes more : List ℕ)
      → Answers d old r x bytes → Answers d old q y (bytes ++ more)
      → AnswerOneCall d old r x q y ⊎ (RunsOut d old r x ⊎ RunsOut d old q y)

  -- If each call of the service has one answer, then the bytes and the state before determine the response and the
  -- state after it, faults aside.
  abbrev pub HasOneAnswer : Type 0
  HasOneAnswer =
      (old x y : S) (r q : Response) (bytes more : List ℕ) → HasOneAnswerToACall d old
      → Answers d old r x bytes → Answers d old q y (bytes ++ more)
      → (SameResponse r q × (x ≡ y)) ⊎ (IsFaultResponse r ⊎ IsFaultResponse q)

  -- A request that was cut off has no answer, unless memory ran out.
  abbrev pub CutHasNoAnswer : Type 0
  CutHasNoAnswer =
      (old new : S) (response : Response) (bytes : List ℕ) → IsCutRequest (d.requests.takes_plans old) bytes
      → Answers d old response new bytes → RunsOut d old response new
