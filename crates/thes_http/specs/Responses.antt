-- Responses, each with a status, a media type and a body, and their bytes.
use Rattle.std.specs.Prelude.{ℕ, ◌++◌, [], List, Option, Some, None, unwrap_or, length, codes, decimal, Result, Ok, Err}
use Rattle.std.specs.Prelude.{OnOk, OnErr}
use Rattle.std.specs.Io.KnownBytes.{Appends}
use Rattle.thes_base.specs.declared.fault.Fault.{Fault}
use Rattle.thes_base.specs.declared.fault.FormFault.{FormFault}
use Rattle.thes_base.specs.declared.pipe.Pipe.{Pipe}
use Rattle.thes_base.specs.declared.pipe.Stop.{Stop}
use Rattle.thes_base.specs.Pipe.{AppendsPrefix, written_bytes}
use Rattle.thes_base.specs.PipeFrames.{WriteFrame}
use Rattle.thes_base.specs.declared.request.Answer.{Answer}
use Rattle.thes_base.specs.declared.request.Answer.TheVariants.{No}
use Rattle.thes_requests.specs.declared.answer.Reply.{Reply}
use Rattle.thes_requests.specs.declared.answer.Reply.TheVariants as reply
use Rattle.thes_requests.specs.declared.handler.QueryAnswer.{QueryAnswer}
use Rattle.thes_requests.specs.declared.handler.QueryAnswer.TheVariants as view
use Rattle.thes_requests.specs.declared.plan_reply.PlanReply.{PlanReply}
use Rattle.thes_requests.specs.declared.plan_reply.PlanReply.TheVariants as plan
use Rattle.thes_requests.specs.declared.plan_reply.Report.{Report}
use Rattle.thes_requests.specs.AnswerTexts.{reply_text}
use Rattle.thes_requests.specs.PlanTexts.{plan_reply_text}
use Rattle.thes_http_request.specs.declared.endpoint.Endpoint.{Endpoint}
use Rattle.thes_http_request.specs.declared.problem.Problem.{Problem}
use Rattle.thes_http_request.specs.declared.problem.Problem.TheVariants.{BadHead, TransferCoding, NoSuchPath}
use Rattle.thes_http_request.specs.declared.problem.Problem.TheVariants.{BadMethod, NoLength, TooLong, BadQuery}
use Rattle.thes_http.specs.declared.response.Status.{Status}
use Rattle.thes_http.specs.declared.response.Status.TheVariants as status
use Rattle.thes_http.specs.declared.response.MediaType.{MediaType}
use Rattle.thes_http.specs.declared.response.MediaType.TheVariants as media
use Rattle.thes_http.specs.declared.response.Body.{Body}
use Rattle.thes_http.specs.declared.response.Body.TheVariants as body
use Rattle.thes_http.specs.declared.response.Response.{Response}
use Rattle.http.specs.StatusCode.{code_digits, reason_phrase}
use Rattle.thes_http_request.specs.Endpoints.{method_of}
use Rattle.thes_base.specs.declared.fault.FormFault.TheVariants.{BadShape}

-- The code of a status (RFC 9110, section 15).
abbrev pub status_code : Status → ℕ
status_code status.Fine = 200
status_code status.BadRequest = 400
status_code status.NotFound = 404
status_code status.MethodNotAllowed = 405
status_code status.Conflict = 409
status_code status.LengthRequired = 411
status_code status.PayloadTooLarge = 413
status_code status.NotImplemented = 501
status_code status.ServiceUnavailable = 503

-- A line of the head, with its line end.
abbrev pub head_line : List ℕ → List ℕ
head_line text = text ++ codes "\r\n"

-- The status line: the version, the code and its reason phrase.
abbrev pub status_line : Status → List ℕ
status_line s = head_line
    (codes "HTTP/1.1 " ++ code_digits (status_code s) ++ codes " "
    ++ unwrap_or (reason_phrase (status_code s)) [])

-- The name of a media type, as in `Content-Type`.
abbrev pub media_type : MediaType → List ℕ
media_type media.Json = codes "application/json"
media_type media.Csv = codes "text/csv; charset=utf-8"
media_type media.NTriples = codes "application/n-triples"
media_type media.Plain = codes "text/plain; charset=utf-8"

-- The name of a problem, as in the body of its response.
abbrev pub problem_name : Problem → List ℕ
problem_name BadHead = codes "BadHead"
problem_name TransferCoding = codes "TransferCoding"
problem_name NoSuchPath = codes "NoSuchPath"
problem_name (BadMethod endpoint) = codes "BadMethod"
problem_name NoLength = codes "NoLength"
problem_name TooLong = codes "TooLong"
problem_name BadQuery = codes "BadQuery"

-- The body for a problem: `{"bad":"NAME"}` and a line feed.
abbrev pub problem_text : Problem → List ℕ
problem_text p = codes "{\"bad\":\"" ++ problem_name p ++ codes "\"}\n"

-- The status for a problem, such as 405 for a method that the path doesn't allow.
abbrev pub problem_status : Problem → Status
problem_status BadHead = status.BadRequest
problem_status TransferCoding = status.NotImplemented
problem_status NoSuchPath = status.NotFound
problem_status (BadMethod endpoint) = status.MethodNotAllowed
problem_status NoLength = status.LengthRequired
problem_status TooLong = status.PayloadTooLarge
problem_status BadQuery = status.BadRequest

-- The `Allow` line of an endpoint.
abbrev pub allow_line : Endpoint → List ℕ
allow_line endpoint = head_line (codes "Allow: " ++ method_of endpoint)

-- The `Allow` line for `BadMethod`, else an empty text.
abbrev pub allow_text : Body → List ℕ
allow_text (body.Problem (BadMethod endpoint)) = allow_line endpoint
allow_text b = []

-- The bytes of a body, whose number is stated in the head.
abbrev pub body_text : Body → List ℕ
body_text (body.Problem p) = problem_text p
body_text (body.Reply r) = reply_text r
body_text (body.Plan r) = plan_reply_text r
body_text (body.Page page) = page

-- The header lines for the type and the length of a body, and for closing the connection.
abbrev pub body_lines : MediaType → ℕ → List ℕ
body_lines media count =
    head_line (codes "Content-Type: " ++ media_type media)
    ++ head_line (codes "Content-Length: " ++ decimal count)
    ++ head_line (codes "Connection: close")

-- The head of a response: its lines, and an empty line at the end.
unfoldable pub head_text : Response → List ℕ
head_text r =
    status_line r.status ++ body_lines r.media (length (body_text r.body))
    ++ allow_text r.body ++ head_line []

-- The bytes of a response: the head, and then the body.
abbrev pub response_text : Response → List ℕ
response_text r = head_text r ++ body_text r.body

-- The response was appended to the output.
abbrev pub WritesResponse : {W : Type 0} → (W → Option (List ℕ)) → Response → Pipe W → Pipe W → Type 0
WritesResponse contents r old new = Appends (written_bytes contents old) (written_bytes contents new) (response_text r)

-- A prefix of the response was appended to the output.
abbrev pub WritesPrefix : {W : Type 0} → (W → Option (List ℕ)) → Response → Pipe W → Pipe W → Type 0
WritesPrefix contents r old new = AppendsPrefix (written_bytes contents old) (written_bytes contents new)
    (response_text r)

-- The outcome of writing a response: all of it was written, or a prefix before the writer stopped.
pub record ResponseWriteOutcome {W : Type 0} (contents : W → Option (List ℕ)) (r : Response) (old new : Pipe W)
    (before after : ℕ) (result : Result (Unit {0}) Stop) : Type 0 where
  pub whole : OnOk result (WritesResponse contents r old new)
  pub part : OnErr result (WritesPrefix contents r old new)
  pub frame : WriteFrame old new before after result

-- The response with this status and this reply as its body, a line of JSON.
abbrev pub reply_response : Status → Reply → Response
reply_response s reply = record { status = s; media = media.Json; body = body.Reply reply }

-- A response with a page of this media type: 200.
abbrev pub page_response : MediaType → List ℕ → Response
page_response type page = record { status = status.Fine; media = type; body = body.Page page }

-- The response to a request with a problem.
abbrev pub problem_response : Problem → Response
problem_response p =
    record { status = problem_status p; media = media.Json; body = body.Problem p }

-- The response to a form fault: 400.
abbrev pub form_response : FormFault → Response
form_response f = reply_response status.BadRequest (reply.Bad f)

-- The response to a fault: 503.
abbrev pub fault_response : Fault → Response
fault_response f = reply_response status.ServiceUnavailable (reply.Fault f)

-- The response to a command: 200 for an answer, 409 for a refusal, or 503 for a fault.
abbrev pub command_response : Result Answer Fault → Response
command_response (Ok (No r)) = reply_response status.Conflict (reply.Answer (No r))
command_response (Ok a) = reply_response status.Fine (reply.Answer a)
command_response (Err f) = fault_response f

-- The status for a report: 200, or 503 if the last answer is a fault.
abbrev pub report_status : Report → Status
report_status report = elim report.end.fault [ None ↦ status.Fine | Some fault ↦ status.ServiceUnavailable ]

-- The status for the reply to a plan: 200 for answers, 503 if they end in a fault, 409 for a refusal, 400 for a text
-- that isn't a plan.
abbrev pub plan_status : PlanReply → Status
plan_status (plan.Done line) = status.Fine
plan_status (plan.Reported report) = report_status report
plan_status (plan.Refused place refusal) = status.Conflict
plan_status (plan.Bad fault) = status.BadRequest

-- The response to a plan: its reply, or 503 for a fault.
abbrev pub plan_response : Result PlanReply Fault → Response
plan_response (Ok r) = record { status = plan_status r; media = media.Json; body = body.Plan r }
plan_response (Err f) = fault_response f

-- The response to a query for a view or a display: 200 with a page of this media type, 404 with the refusal, or 503 for
-- a fault.
abbrev pub query_response : MediaType → Result QueryAnswer Fault → Response
query_response type (Ok (view.Page page)) = page_response type page
query_response type (Ok (view.No r)) = reply_response status.NotFound (reply.Answer (No r))
query_response type (Err f) = fault_response f

-- The response to an import: 200 with the outcomes as CSV, 400 for a malformed file, or 503 for a
-- fault.
abbrev pub import_response : Result (Option (List ℕ)) Fault → Response
import_response (Ok (Some page)) = page_response media.Csv page
import_response (Ok None) = form_response BadShape
import_response (Err f) = fault_response f

-- The response to an export: 200 with N-Triples, or 503 for a fault.
abbrev pub export_response : Result (List ℕ) Fault → Response
export_response (Ok page) = page_response media.NTriples page
export_response (Err f) = fault_response f
