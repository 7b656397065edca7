-- Proves that if a service does, between two states, all that another does, it answers as the other does.
use Rattle.std.proofs.Common.{◌≡◌, ℕ, Bool, List, [], inl, inr, subst, take, Option, Some, None, Result, Ok, Err, codes}
use Rattle.thes_base.specs.declared.fault.Fault.{Fault}
use Rattle.thes_base.specs.declared.request.Answer.{Answer}
use Rattle.thes_base.specs.declared.request.Command.{Command}
use Rattle.serde_json.specs.Data.{Data}
use Rattle.thes_plans.specs.declared.plan.PlanOutcome.{PlanOutcome}
use Rattle.thes_plans.specs.declared.plan.PlanRequest.{PlanRequest}
use Rattle.thes_requests.specs.declared.handler.QueryAnswer.{QueryAnswer}
use Rattle.thes_requests.specs.declared.plan_reply.PlanReply.{PlanReply}
use Rattle.thes_requests.specs.declared.plan_reply.PlanReply.TheVariants as planned
use Rattle.thes_requests.specs.Requests.{json_in}
use Rattle.thes_plans.specs.declared.plan.PlanRun.{PlanRun}
use Rattle.thes_plans.specs.declared.plan.PlanRun.TheVariants as run
use Rattle.thes_tables.specs.declared.change.Change.{Change}
use Rattle.thes_requests.specs.PlanForms.{form_in, sole_member}
use Rattle.thes_requests.specs.Serving.{RunsEach, ServesArray, ServesEach, ServesForm, ServesPlan, ServesReport}
use Rattle.thes_requests.specs.declared.line_serving.LineAnswer.{LineAnswer}
use Rattle.thes_requests.specs.declared.plan_form.PlanForm.{PlanForm}
use Rattle.thes_requests.specs.declared.plan_form.PlanForm.TheVariants as form
use Rattle.thes_requests.specs.declared.request.Query.{Query}
use Rattle.thes_requests.specs.declared.request.Query.TheVariants as asks
use Rattle.thes_http_request.specs.declared.endpoint.Endpoint.{Endpoint}
use Rattle.thes_http_request.specs.declared.endpoint.Endpoint.TheVariants as endpoint
use Rattle.thes_http_request.specs.declared.problem.Problem.{Problem}
use Rattle.thes_http_request.specs.Heads.{parts_of}
use Rattle.thes_http_request.specs.EndpointRequests.{EndpointRequest, request_of_parts}
use Rattle.thes_http_request.specs.Queries.{DisplayQuery, display_query_of}
use Rattle.thes_http.specs.declared.response.Response.{Response}
use Rattle.thes_requests.specs.declared.request.Display.{Display}
use Rattle.thes_requests.specs.declared.request.Display.TheVariants as display
use Rattle.thes_http.specs.ServiceBehaviour.{ServiceBehaviour}
use Rattle.thes_http.specs.Serving.{Answers, AnswersHead, CommandEffect, DisplayEffect, DisplayQueryEffect, EndpointEffect}
use Rattle.thes_http.specs.Serving.{NumberQueryEffect, QueryEffect, RespondsUnchanged, WithNumber}

-- Whatever the service `d` does from `old` to `new`, the service `e` does from `s` to `t`.
pub record DoesAsMuch {S T : Type 0} (d : ServiceBehaviour S) (e : ServiceBehaviour T) (old new : S) (s t : T) :
    Type 0 where
  pub performs : (command : Command) (result : Result Answer Fault) → d.requests.performs old command result new
      → e.requests.performs s command result t
  pub shows : (query : Query) (result : Result QueryAnswer Fault) → d.requests.shows old query result new
      → e.requests.shows s query result t
  pub performs_plan : (plan : List PlanRequest) (result : Result PlanOutcome Fault)
      → d.requests.performs_plan old plan result new → e.requests.performs_plan s plan result t
  pub reports_plan : (way : PlanRun) (plan : List PlanRequest) (result : Result PlanOutcome Fault)
      (changes : List Change) → d.requests.reports_plan old way plan result changes new
      → e.requests.reports_plan s way plan result changes t
  pub runs_each : (values : List Data) (answers : List LineAnswer) (changes : List Change)
      → RunsEach d.requests old values answers changes new → RunsEach e.requests s values answers changes t
  pub takes_plans : d.requests.takes_plans old ≡ e.requests.takes_plans s
  pub imports : (file : List ℕ) (result : Result (Option (List ℕ)) Fault) → d.imports old file result new
      → e.imports s file result t
  pub exports : (result : Result (List ℕ) Fault) → d.exports old result new → e.exports s result t
  pub displays : (which : Display) (scheme : ℕ) (tag : List ℕ) (result : Result QueryAnswer Fault)
      → d.displays old which scheme tag result new → e.displays s which scheme tag result t
  pub keeps : new ≡ old → t ≡ s

module _ {S T : Type 0} (d : ServiceBehaviour S) (e : ServiceBehaviour T) (old new : S) (s t : T)
    (does : DoesAsMuch d e old new s t) where
  serves_array : (value : Option Data) (result : Result PlanReply Fault) → ServesArray d.requests old value result new
      → ServesArray e.requests s value result t
  serves_array value (Ok (planned.Bad f)) a = (a.0, does.keeps a.1)
  serves_array value (Ok (planned.Done line)) a =
      (a.0, a.1, (a.2.0, does.performs_plan a.0 (Ok a.2.0) a.2.1, a.2.2))
  serves_array value (Ok (planned.Reported report)) a =
      (a.0, a.1, (a.2.0, does.performs_plan a.0 (Ok a.2.0) a.2.1, a.2.2))
  serves_array value (Ok (planned.Refused place refusal)) a =
      (a.0, a.1, (a.2.0, does.performs_plan a.0 (Ok a.2.0) a.2.1, a.2.2))
  serves_array value (Err f) (inl a) = inl (a.0, does.keeps a.1)
  serves_array value (Err f) (inr a) = inr (a.0, a.1, does.performs_plan a.0 (Err f) a.2)

  serves_report : (way : PlanRun) (value : Data) (result : Result PlanReply Fault)
      → ServesReport d.requests way old value result new → ServesReport e.requests way s value result t
  serves_report way value (Ok (planned.Bad f)) a = (a.0, does.keeps a.1)
  serves_report way value (Ok (planned.Done line)) a =
      (a.0, a.1, (a.2.0, a.2.1, does.reports_plan way a.0 (Ok a.2.0) a.2.1 a.2.2, a.2.3))
  serves_report way value (Ok (planned.Reported report)) a =
      (a.0, a.1, (a.2.0, a.2.1, does.reports_plan way a.0 (Ok a.2.0) a.2.1 a.2.2, a.2.3))
  serves_report way value (Ok (planned.Refused place refusal)) a =
      (a.0, a.1, (a.2.0, a.2.1, does.reports_plan way a.0 (Ok a.2.0) a.2.1 a.2.2, a.2.3))
  serves_report way value (Err f) (inl a) = inl (a.0, does.keeps a.1)
  serves_report way value (Err f) (inr a) = inr (a.0, a.1, does.reports_plan way a.0 (Err f) [] a.2)

  serves_each : (value : Data) (result : Result PlanReply Fault) → ServesEach d.requests old value result new
      → ServesEach e.requests s value result t
  serves_each value (Ok (planned.Bad f)) a = (a.0, a.1, does.keeps a.2)
  serves_each value (Ok (planned.Done line)) a = absurd a
  serves_each value (Ok (planned.Reported report)) a =
      (a.0, a.1, a.2, a.3, does.runs_each a.0 a.1 a.2 a.4, a.5)
  serves_each value (Ok (planned.Refused place refusal)) a = absurd a
  serves_each value (Err f) a = (a.0, does.keeps a.1)

  serves_form : (which : PlanForm) (value : Data) (result : Result PlanReply Fault)
      → ServesForm d.requests which old value result new → ServesForm e.requests which s value result t
  serves_form form.Array value result a = serves_array (Some value) result a
  serves_form form.Perform value result a = serves_report run.Perform (sole_member (codes "perform") value) result a
  serves_form form.Try value result a = serves_report run.Try (sole_member (codes "try") value) result a
  serves_form form.Each value result a = serves_each (sole_member (codes "each") value) result a

  -- A text that is read as several requests is served by `e` as by `d`.
  pub serves_plan : (value : Option Data) (result : Result PlanReply Fault) → ServesPlan d.requests old value result new
      → ServesPlan e.requests s value result t
  serves_plan None result a = serves_array None result a
  serves_plan (Some value) result a = serves_form (form_in value) value result a

module _ {S T : Type 0} (d : ServiceBehaviour S) (e : ServiceBehaviour T) (old new : S) (s t : T)
    (does : DoesAsMuch d e old new s t) (r : Response) where
  responds : (p : Response) → RespondsUnchanged d old r new p → RespondsUnchanged e s r t p
  responds p a = (a.0, does.keeps a.1)

  performs : (body : List ℕ) → CommandEffect d old r new body → CommandEffect e s r t body
  performs body (inl a) = inl (a.0, a.1, a.2, does.performs a.0 a.1 a.3, a.4)
  performs body (inr (inl a)) = inr (inl (a.0, a.1, responds _ a.2))
  performs body (inr (inr a)) = inr (inr (a.0, a.1, responds _ a.2))

  shows : (query : Query) → QueryEffect d old r new query → QueryEffect e s r t query
  shows query a = (a.0, does.shows query a.0 a.1, a.2)

  with_number : (text : List ℕ) (A B : ℕ → Type 0) → ((n : ℕ) → A n → B n) → WithNumber d old r new text A
      → WithNumber e s r t text B
  with_number text A B next (inl a) = inl (a.0, responds _ a.1)
  with_number text A B next (inr a) = inr (a.0, a.1, a.2, next a.0 a.3)

  shows_number : (query : ℕ → Query) (text : List ℕ) → NumberQueryEffect d old r new query text
      → NumberQueryEffect e s r t query text
  shows_number query text a = with_number text (λ n. QueryEffect d old r new (query n))
      (λ n. QueryEffect e s r t (query n)) (λ n. shows (query n)) a

  displays : (which : Display) (scheme : ℕ) (lang : List ℕ) → DisplayEffect d old r new which scheme lang
      → DisplayEffect e s r t which scheme lang
  displays which scheme lang (inl a) = inl (a.0, responds _ a.1)
  displays which scheme lang (inr a) = inr (a.0, a.1, does.displays which scheme _ a.1 a.2, a.3)

  displays_asked : (which : Display) (asked : Option DisplayQuery) → DisplayQueryEffect d old r new which asked
      → DisplayQueryEffect e s r t which asked
  displays_asked which None a = responds _ a
  displays_asked which (Some asked) a = with_number asked.scheme (λ n. DisplayEffect d old r new which n asked.lang)
      (λ n. DisplayEffect e s r t which n asked.lang) (λ n. displays which n asked.lang) a

  acts : (p : Endpoint) (number query body : List ℕ) → EndpointEffect d old r new p number query body
      → EndpointEffect e s r t p number query body
  acts endpoint.Requests number query body a = performs body a
  acts endpoint.Plans number query body a = (a.0, serves_plan d e old new s t does (json_in body) a.0 a.1, a.2)
  acts endpoint.Import number query body a = (a.0, does.imports body a.0 a.1, a.2)
  acts endpoint.Totals number query body a = shows asks.Totals a
  acts endpoint.Concept number query body a = shows_number asks.Concept number a
  acts endpoint.Postings number query body a = shows_number asks.Postings number a
  acts endpoint.Posting number query body a = shows_number asks.Posting number a
  acts endpoint.Export number query body a = (a.0, does.exports a.0 a.1, a.2)
  acts endpoint.Alphabetical number query body a = displays_asked display.Alphabetical (display_query_of query) a
  acts endpoint.Hierarchical number query body a = displays_asked display.Hierarchical (display_query_of query) a

  answers_head : (asked : Result EndpointRequest Problem) (rest : List ℕ) → AnswersHead d old r new asked rest
      → AnswersHead e s r t asked rest
  answers_head (Err problem) rest a = responds _ a
  answers_head (Ok w) rest a = (a.0, acts w.endpoint w.number w.query (take w.body rest) a.1)

  pub answers_as_much : (bytes : List ℕ) → Answers d old r new bytes → Answers e s r t bytes
  answers_as_much bytes (inl a) = inl (a.0, responds _ a.1)
  answers_as_much bytes (inr (inl a)) = inr (inl (
    a.0,
    a.1,
    a.2,
    answers_head (request_of_parts (e.requests.takes_plans s) (parts_of a.0)) a.1
        (subst (λ (takes : Bool). AnswersHead d old r new (request_of_parts takes (parts_of a.0)) a.1) does.takes_plans
        a.3),
  ))
  answers_as_much bytes (inr (inr a)) = inr (inr (responds _ a))
