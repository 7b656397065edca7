-- Proves that the requests of connections lead an office through a run of the machine.
use Rattle.std.proofs.Common.{inl, inr, ℕ, Bool, List, [], ◌∷◌, Option, None, Some, Result, Ok, Err}
use Rattle.thes_base.specs.declared.fault.Fault.{Fault}
use Rattle.thes_base.specs.declared.request.Answer.{Answer}
use Rattle.thes_base.specs.declared.request.Command.{Command}
use Rattle.thes_base.specs.Headline.{IsConsistentState}
use Rattle.thes_base.specs.State.{State}
use Rattle.thes_store.specs.Storage.{StorageView}
use Rattle.thes_office.specs.Office.{FaultBehaviour, OfficeView}
use Rattle.thes_office.specs.TablesOfState.{TablesOfState}
use Rattle.thes_requests.specs.declared.request.Query.{Query}
use Rattle.thes_requests.specs.Requests.{json_in}
use Rattle.thes_import.specs.Imports as importer
use Rattle.thes_posting_files.specs.declared.report.Report.{Report}
use Rattle.thes_http_request.specs.declared.endpoint.Endpoint.{Endpoint}
use Rattle.thes_http_request.specs.declared.endpoint.Endpoint.TheVariants as endpoint
use Rattle.thes_http_request.specs.declared.problem.Problem.{Problem}
use Rattle.thes_http_request.specs.Heads.{parts_of}
use Rattle.thes_http_request.specs.Queries.{DisplayQuery, display_query_of}
use Rattle.thes_http_request.specs.EndpointRequests.{EndpointRequest, request_of_parts}
use Rattle.thes_http.specs.declared.response.Response.{Response}
use Rattle.thes_requests.specs.declared.request.Display.{Display}
use Rattle.thes_requests.specs.declared.request.Display.TheVariants as display
use Rattle.thes_http.specs.Server.{AreAnswered, Exchange, LeadsBy}
use Rattle.thes_http.specs.Serving.{Answers, AnswersHead, DisplayQueryEffect, DisplayEffect, EndpointEffect}
use Rattle.thes_http.specs.Serving.{CommandEffect, QueryEffect as ShowsView, NumberQueryEffect}
use Rattle.thes_http.specs.ServiceBehaviour.{ServiceBehaviour}
use Rattle.thes_service.specs.OfficeRequests.{IsReachedByRun, OfficePerforms}
use Rattle.thes_service.specs.Service.{office_behaviour}
use Rattle.thes_service.proofs.ScriptRunLemmas.{led_kept, led_run, led_same, led_start, led_step, plan_reached}

module _ {K : Type 0} (view : K → StorageView) (takes : Bool) where
  abbrev IsReached : OfficeView K → OfficeView K → Type 0
  IsReached old new = IsReachedByRun view old new

  -- The behaviour of an office as a service.
  abbrev Office : ServiceBehaviour (OfficeView K)
  Office = office_behaviour view takes

  import_reached : {T : Type 0} (old mid new : OfficeView K) (result : Result T Fault) (file : List ℕ)
      (is : Result (Option Report) (Fault × Report)) → FaultBehaviour view mid new result
      → importer.Imports view mid file is new → IsReached old mid → IsReached old new
  import_reached old mid new result file (Ok (Some report)) fault_behaviour x reached = let all = x.2 in
      led_run view old mid new result _ _ reached fault_behaviour (λ up. let ran = all.performs up in ran.goes_on)
  import_reached old mid new result file (Ok None) fault_behaviour x reached = led_kept view old
      mid new
      reached x.1
  import_reached old mid new result file (Err halted) fault_behaviour (inl x) reached = led_kept view old
      mid new
      reached x.2
  import_reached old mid new result file (Err halted) fault_behaviour (inr x) reached = let some = x.2 in let all =
      some.imports in led_run view old mid new result _ _ reached fault_behaviour
      (λ up. let ran = all.performs up in ran.goes_on)

  request_reached : (old mid new : OfficeView K) (command : Command) (answer : Result Answer Fault)
      → OfficePerforms view mid command answer new → IsReached old mid → IsReached old new
  request_reached old mid new command (Ok answer) x reached = led_step view old mid new command answer
      reached x.fault_behaviour x.performed
  request_reached old mid new command (Err fault) x reached = led_same view old mid new _ reached
      x.fault_behaviour
      x.performed

  performs : (old mid new : OfficeView K) (r : Response) (body : List ℕ) → CommandEffect Office mid r new body
      → IsReached old mid → IsReached old new
  performs old mid new r body (inl x) reached = request_reached old mid new x.0 x.1 x.3 reached
  performs old mid new r body (inr (inl x)) reached = led_kept view old mid new reached x.2.1
  performs old mid new r body (inr (inr x)) reached = led_kept view old mid new reached x.2.1

  shows : (old mid new : OfficeView K) (r : Response) (query : Query) → ShowsView Office mid r new query
      → IsReached old mid → IsReached old new
  shows old mid new r query x reached = let shown = x.1 in led_same view old mid new x.0 reached
      shown.fault_behaviour shown.same

  shows_number : (old mid new : OfficeView K) (r : Response) (query : ℕ → Query) (text : List ℕ)
      → NumberQueryEffect Office mid r new query text → IsReached old mid → IsReached old new
  shows_number old mid new r query text (inl x) reached = led_kept view old mid new reached x.1.1
  shows_number old mid new r query text (inr x) reached = shows old mid new r (query x.0) x.3 reached

  displays_in : (old mid new : OfficeView K) (r : Response) (which : Display) (scheme : ℕ) (lang : List ℕ)
      → DisplayEffect Office mid r new which scheme lang → IsReached old mid → IsReached old new
  displays_in old mid new r which scheme lang (inl x) reached = led_kept view old mid new reached x.1.1
  displays_in old mid new r which scheme lang (inr x) reached = let shown = x.2 in
      led_same view old mid new x.1 reached shown.fault_behaviour shown.same

  displays : (old mid new : OfficeView K) (r : Response) (which : Display) (asked : Option DisplayQuery)
      → DisplayQueryEffect Office mid r new which asked → IsReached old mid → IsReached old new
  displays old mid new r which None x reached = led_kept view old mid new reached x.1
  displays old mid new r which (Some asked) (inl x) reached = led_kept view old mid new reached x.1.1
  displays old mid new r which (Some asked) (inr x) reached = displays_in old mid new r which x.0 asked.lang x.3 reached

  does : (old mid new : OfficeView K) (r : Response) (p : Endpoint) (number query body : List ℕ)
      → EndpointEffect Office mid r new p number query body → IsReached old mid → IsReached old new
  does old mid new r endpoint.Requests number query body x reached = performs old mid new r body x reached
  does old mid new r endpoint.Plans number query body x reached = plan_reached view takes (json_in body) x.0
      old mid new x.1 reached
  does old mid new r endpoint.Import number query body x reached = let import = x.1 in
      import_reached old mid new x.0 body import.done import.fault_behaviour import.imports reached
  does old mid new r endpoint.Totals number query body x reached = shows old mid new r _ x reached
  does old mid new r endpoint.Concept number query body x reached = shows_number old mid new r _ number x reached
  does old mid new r endpoint.Postings number query body x reached = shows_number old mid new r _ number x reached
  does old mid new r endpoint.Posting number query body x reached = shows_number old mid new r _ number x reached
  does old mid new r endpoint.Export number query body x reached = let export = x.1 in
      led_same view old mid new x.0 reached export.fault_behaviour export.same
  does old mid new r endpoint.Alphabetical number query body x reached = displays old mid new r display.Alphabetical
      (display_query_of query) x reached
  does old mid new r endpoint.Hierarchical number query body x reached = displays old mid new r display.Hierarchical
      (display_query_of query) x reached

  head_answered : (old mid new : OfficeView K) (r : Response) (wants : Result EndpointRequest Problem) (rest : List ℕ)
      → AnswersHead Office mid r new wants rest → IsReached old mid → IsReached old new
  head_answered old mid new r (Ok w) rest x reached = does old mid new r w.endpoint w.number w.query _ x.1 reached
  head_answered old mid new r (Err problem) rest x reached = led_kept view old mid new reached x.1

  exchange_reached : (old mid new : OfficeView K) (r : Response) (bytes : List ℕ) → Answers Office mid r new bytes
      → IsReached old mid → IsReached old new
  exchange_reached old mid new r bytes (inl x) reached = led_kept view old mid new reached x.1.1
  exchange_reached old mid new r bytes (inr (inl x)) reached =
      head_answered old mid new r (request_of_parts takes (parts_of x.0)) x.1 x.3 reached
  exchange_reached old mid new r bytes (inr (inr x)) reached = led_kept view old mid new reached x.1

  all_answered : (old new : OfficeView K) (exchanges : List Exchange) → AreAnswered Office old exchanges new
      → IsReached old old → IsReached old new
  all_answered old new [] same reached = led_kept view old old new reached same
  all_answered old new (e ∷ before) x reached = exchange_reached old x.0 new e.response e.bytes x.2
      (all_answered old x.0 before x.1 reached)

  -- Any number of connections leads the office through a run of the machine.
  pub connections_lead : (count : ℕ) (old new : OfficeView K) → ((view old.keeper).is_up → (base : List ℕ) × (s : State)
      × TablesOfState (view old.keeper).rows base s × IsConsistentState base s) → LeadsBy Office count old new
      → IsReached old new
  connections_lead count old new shows leads = all_answered old new leads.exchanges leads.answered
      (led_start view old shows)
