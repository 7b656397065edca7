-- The effect of the bytes of a connection, and the response to them.
use Rattle.std.specs.Prelude.{ℕ, ◌≡◌, ◌≤◌, ◌<◌, ◌⊎◌, Bool, List, length, take, map, Option, Some, None, Result, Ok, Err}
use Rattle.std.specs.Char.{to_ascii_lowercase}
use Rattle.httparse.specs.Grammar.{RequestHead}
use Rattle.thes_base.specs.Forms.{IsNumber, IsNumeral, IsTag}
use Rattle.thes_base.specs.declared.fault.Fault.{Fault}
use Rattle.thes_base.specs.declared.fault.Fault.TheVariants.{OutOfMemory}
use Rattle.thes_base.specs.declared.fault.FormFault.{FormFault}
use Rattle.thes_base.specs.declared.fault.FormFault.TheVariants.{BadShape, BadNumber, BadTag}
use Rattle.thes_base.specs.declared.request.Command.{Command}
use Rattle.thes_base.specs.declared.request.Answer.{Answer}
use Rattle.thes_requests.specs.Readings.{ReadsAs}
use Rattle.thes_requests.specs.Requests.{json_in, request_of}
use Rattle.thes_requests.specs.Serving.{ServesPlan}
use Rattle.thes_requests.specs.declared.plan_reply.PlanReply.{PlanReply}
use Rattle.thes_requests.specs.declared.handler.QueryAnswer.{QueryAnswer}
use Rattle.thes_requests.specs.declared.request.Query.{Query}
use Rattle.thes_requests.specs.declared.request.Query.TheVariants as asks
use Rattle.thes_requests.specs.declared.request.Request.TheVariants.{Do, Get}
use Rattle.thes_http_request.specs.declared.endpoint.Endpoint.{Endpoint}
use Rattle.thes_http_request.specs.declared.endpoint.Endpoint.TheVariants as endpoint
use Rattle.thes_http_request.specs.declared.problem.Problem.{Problem}
use Rattle.thes_http_request.specs.declared.problem.Problem.TheVariants.{BadHead, BadQuery}
use Rattle.thes_http.specs.declared.response.MediaType.TheVariants.{Json, Plain}
use Rattle.thes_http.specs.declared.response.Response.{Response}
use Rattle.thes_requests.specs.declared.request.Display.{Display}
use Rattle.thes_requests.specs.declared.request.Display.TheVariants as display
use Rattle.thes_http_request.specs.Heads.{parts_of, HasHead, IsCutHead, IsBadHead}
use Rattle.thes_http_request.specs.EndpointRequests.{EndpointRequest, request_of_parts}
use Rattle.thes_http_request.specs.Queries.{DisplayQuery, display_query_of}
use Rattle.thes_http.specs.ServiceBehaviour.{ServiceBehaviour}
use Rattle.thes_http.specs.Responses.{problem_response, form_response, fault_response, command_response, plan_response}
use Rattle.thes_http.specs.Responses.{query_response, import_response, export_response}

-- The text isn't the numeral of a resource's or posting's number.
abbrev pub IsNoNumeral : List ℕ → Type 0
IsNoNumeral text = (n : ℕ) → IsNumber n → IsNumeral text n → ⊥

module _ {S : Type 0} (d : ServiceBehaviour S) (old : S) (r : Response) (new : S) where
  -- The response is this one, and the state is unchanged.
  abbrev pub RespondsUnchanged : Response → Type 0
  RespondsUnchanged response = (r ≡ response) × (new ≡ old)

  -- The effect, or, if memory ran out before it, an unchanged state and the response to that fault.
  abbrev pub OrOutOfMemory : Type 0 → Type 0
  OrOutOfMemory Effect = Effect ⊎ RespondsUnchanged (fault_response OutOfMemory)

  -- The effect of the body of a request: that of its command, or none for a query or a form fault.
  abbrev pub CommandEffect : List ℕ → Type 0
  CommandEffect body =
      ((command : Command) × (answer : Result Answer Fault)
      × ReadsAs (request_of body) (Ok (Do command))
      × d.requests.performs old command answer new × (r ≡ command_response answer))
      ⊎ (((query : Query) × ReadsAs (request_of body) (Ok (Get query)) × RespondsUnchanged (form_response BadShape))
      ⊎ ((f : FormFault) × ReadsAs (request_of body) (Err f) × RespondsUnchanged (form_response f)))

  -- The effect of the body of a plan, and its response.
  abbrev pub PlanEffect : List ℕ → Type 0
  PlanEffect body =
      (answer : Result PlanReply Fault) × ServesPlan d.requests old (json_in body) answer new
      × (r ≡ plan_response answer)

  -- The effect of importing a posting file, and its response.
  abbrev pub ImportEffect : List ℕ → Type 0
  ImportEffect file =
      (answer : Result (Option (List ℕ)) Fault) × d.imports old file answer new × (r ≡ import_response answer)

  -- The effect of an export, and its response.
  abbrev pub ExportEffect : Type 0
  ExportEffect = (answer : Result (List ℕ) Fault) × d.exports old answer new × (r ≡ export_response answer)

  -- The effect of a query, and its response.
  abbrev pub QueryEffect : Query → Type 0
  QueryEffect query =
      (answer : Result QueryAnswer Fault) × d.requests.shows old query answer new × (r ≡ query_response Json answer)

  -- The effect `Next` of the number that the text states in decimal; if the text is no number's numeral, the response
  -- is `BadNumber`, and there is no effect.
  abbrev pub WithNumber : List ℕ → (ℕ → Type 0) → Type 0
  WithNumber text Next =
      (IsNoNumeral text × RespondsUnchanged (form_response BadNumber))
      ⊎ ((n : ℕ) × IsNumber n × IsNumeral text n × Next n)

  -- The effect of a query for the number in the path.
  abbrev pub NumberQueryEffect : (ℕ → Query) → List ℕ → Type 0
  NumberQueryEffect query text = WithNumber text (λ n. QueryEffect (query n))

  -- The effect of a display in a language, whose tag is converted to lower case; if the text isn't a tag, the response
  -- is `BadTag`, and there is no effect.
  abbrev pub DisplayEffect : Display → ℕ → List ℕ → Type 0
  DisplayEffect which scheme lang =
      ((¬ IsTag lang) × RespondsUnchanged (form_response BadTag))
      ⊎ (IsTag lang × (answer : Result QueryAnswer Fault)
      × d.displays old which scheme (map to_ascii_lowercase lang) answer new
      × (r ≡ query_response Plain answer))

  -- The effect of a display with this query string; the scheme is checked before the language.
  abbrev pub DisplayQueryEffect : Display → Option DisplayQuery → Type 0
  DisplayQueryEffect which None = RespondsUnchanged (problem_response BadQuery)
  DisplayQueryEffect which (Some asked) = WithNumber asked.scheme (λ n. DisplayEffect which n asked.lang)

  -- The effect of a request for each endpoint, and its response.
  abbrev pub EndpointEffect : Endpoint → List ℕ → List ℕ → List ℕ → Type 0
  EndpointEffect endpoint.Requests number query body = CommandEffect body
  EndpointEffect endpoint.Plans number query body = PlanEffect body
  EndpointEffect endpoint.Import number query body = ImportEffect body
  EndpointEffect endpoint.Totals number query body = QueryEffect asks.Totals
  EndpointEffect endpoint.Concept number query body = NumberQueryEffect asks.Concept number
  EndpointEffect endpoint.Postings number query body = NumberQueryEffect asks.Postings number
  EndpointEffect endpoint.Posting number query body = NumberQueryEffect asks.Posting number
  EndpointEffect endpoint.Export number query body = ExportEffect
  EndpointEffect endpoint.Alphabetical number query body = DisplayQueryEffect display.Alphabetical
      (display_query_of query)
  EndpointEffect endpoint.Hierarchical number query body = DisplayQueryEffect display.Hierarchical
      (display_query_of query)

  -- The effect of a request for an endpoint, or none if memory ran out before.
  abbrev pub EndpointEffectOrFailure : Endpoint → List ℕ → List ℕ → List ℕ → Type 0
  EndpointEffectOrFailure endpoint number query body = OrOutOfMemory (EndpointEffect endpoint number query body)

  -- The effect of a request with a complete body, and its response; if there is a problem with its head, the response
  -- reports the problem, and there is no effect.
  abbrev pub AnswersHead : Result EndpointRequest Problem → List ℕ → Type 0
  AnswersHead (Err problem) rest = RespondsUnchanged (problem_response problem)
  AnswersHead (Ok w) rest = (w.body ≤ length rest) × EndpointEffect w.endpoint w.number w.query (take w.body rest)

  -- The effect of bytes, and the response to them: that of a bad head, of a head with its body, or
  -- of running out of memory. The last may replace any other.
  abbrev pub Answers : List ℕ → Type 0
  Answers bytes =
      (IsBadHead bytes × RespondsUnchanged (problem_response BadHead))
      ⊎ (((h : RequestHead) × (rest : List ℕ) × HasHead bytes h rest
      × AnswersHead (request_of_parts (d.requests.takes_plans old) (parts_of h)) rest)
      ⊎ RespondsUnchanged (fault_response OutOfMemory))

-- The bytes end inside the head, or inside the body. Whether there is a body may depend on whether plans are taken.
abbrev pub IsCutRequest : Bool → List ℕ → Type 0
IsCutRequest takes_plans bytes =
    IsCutHead bytes
    ⊎ ((h : RequestHead) × (rest : List ℕ) × (w : EndpointRequest) × HasHead bytes h rest
    × (request_of_parts takes_plans (parts_of h) ≡ Ok w) × (length rest < w.body))
