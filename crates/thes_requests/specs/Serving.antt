-- The effect of one line of a script, and its answer.
use Rattle.std.specs.Prelude.{◌≡◌, ◌⊎◌, ◌&&◌, ◌++◌, ℕ, Bool, true, false, List, [], ◌∷◌, Option, Some, None, Result, Ok, Err}
use Rattle.std.specs.Prelude.{codes}
use Rattle.serde_json.specs.Data.{Data}
use Rattle.thes_base.specs.declared.fault.Fault.{Fault}
use Rattle.thes_base.specs.declared.fault.Fault.TheVariants.{OutOfMemory}
use Rattle.thes_base.specs.declared.fault.FormFault.TheVariants.{BadShape}
use Rattle.thes_base.specs.declared.fault.ReadStop.{ReadStop}
use Rattle.thes_base.specs.declared.fault.ReadStop.TheVariants as stop
use Rattle.thes_base.specs.declared.fault.Refusal.{Refusal}
use Rattle.thes_base.specs.declared.request.Command.{Command}
use Rattle.thes_base.specs.declared.request.Answer.{Answer}
use Rattle.thes_base.specs.declared.request.Answer.TheVariants as answer
use Rattle.thes_plans.specs.declared.plan.PlanOutcome.{PlanOutcome}
use Rattle.thes_plans.specs.declared.plan.PlanRequest.{PlanRequest}
use Rattle.thes_plans.specs.declared.plan.PlanRun.{PlanRun}
use Rattle.thes_plans.specs.declared.plan.PlanRun.TheVariants as run
use Rattle.thes_tables.specs.declared.change.Change.{Change}
use Rattle.thes_requests.specs.declared.answer.Reply.TheVariants as reply
use Rattle.thes_requests.specs.declared.handler.QueryAnswer.{QueryAnswer}
use Rattle.thes_requests.specs.declared.handler.QueryAnswer.TheVariants as view
use Rattle.thes_requests.specs.declared.plan_reply.PlanReply.{PlanReply}
use Rattle.thes_requests.specs.declared.plan_reply.PlanReply.TheVariants.{Reported, Bad}
use Rattle.thes_requests.specs.declared.plan.PlanFault.TheVariants.{Whole}
use Rattle.thes_requests.specs.declared.plan_form.PlanForm.{PlanForm}
use Rattle.thes_requests.specs.declared.plan_form.PlanForm.TheVariants as form
use Rattle.thes_requests.specs.declared.request.Query.{Query}
use Rattle.thes_requests.specs.declared.request.Request.TheVariants.{Do, Get}
use Rattle.thes_requests.specs.declared.line_serving.LineAnswer.{LineAnswer}
use Rattle.thes_requests.specs.declared.line_serving.LineAnswer.TheVariants.{Reply, View, Plan}
use Rattle.thes_requests.specs.Readings.{ReadsAs}
use Rattle.thes_requests.specs.RequestBehaviour.{RequestBehaviour}
use Rattle.thes_requests.specs.LineTexts.{report_of_each}
use Rattle.thes_requests.specs.PlanForms.{form_in, is_plan_value, sole_member, IsEachArray}
use Rattle.thes_requests.specs.PlanReadings.{OptionReadsAs, PlanValueReadsAs}
use Rattle.thes_requests.specs.PlanTexts.{reply_of_outcome, reported_outcome}
use Rattle.thes_requests.specs.Requests.{json_in, request_in, request_of}

-- The behaviour of a handler for a line of a script: a relation between the state before, the line, its answer, and the
-- state after.
abbrev pub LineBehaviour : Type 0 → Type 1
LineBehaviour S = S → List ℕ → LineAnswer → S → Type 0

-- The program reads a line, and performs its command or plan, or answers its query; a line that has none of these
-- changes nothing. In place of the answer there may be a fault: one of the handler, or `OutOfMemory` if memory runs out
-- while the line is read, which changes nothing either.

-- The line is a request to perform this command.
abbrev pub IsCommandLine : List ℕ → Command → Type 0
IsCommandLine line command = ReadsAs (request_of line) (Ok (Do command))

-- The line is a request to answer this query.
abbrev pub IsQueryLine : List ℕ → Query → Type 0
IsQueryLine line query = ReadsAs (request_of line) (Ok (Get query))

-- The effect of performing a plan, and its reply: the handler performed the plan, or memory ran out before.
abbrev pub PerformsPlan : {S : Type 0} → RequestBehaviour S → S → List PlanRequest → Result PlanReply Fault → S → Type 0
PerformsPlan d old plan (Ok reply) new =
    (outcome : PlanOutcome) × d.performs_plan old plan (Ok outcome) new × (reply ≡ reply_of_outcome outcome)
PerformsPlan d old plan (Err f) new = ((f ≡ OutOfMemory) × (new ≡ old)) ⊎ d.performs_plan old plan (Err f) new

-- The effect of performing or trying a plan, and its reply with the changes that it makes, or that it would make: the
-- handler performed or tried it, or memory ran out before.
abbrev pub ReportsPlanRun : {S : Type 0} → RequestBehaviour S → PlanRun → S → List PlanRequest → Result PlanReply Fault
    → S → Type 0
ReportsPlanRun d run old plan (Ok reply) new =
    (outcome : PlanOutcome) × (changes : List Change) × d.reports_plan old run plan (Ok outcome) changes new
    × (reply ≡ reported_outcome changes outcome)
ReportsPlanRun d run old plan (Err f) new =
    ((f ≡ OutOfMemory) × (new ≡ old)) ⊎ d.reports_plan old run plan (Err f) [] new

-- The effect of serving a text as an array, and the reply, given the JSON value of the text. A text that isn't a plan
-- changes nothing. In place of the reply there may be a fault: one of the handler, or `OutOfMemory` before anything is
-- changed.
abbrev pub ServesArray : {S : Type 0} → RequestBehaviour S → S → Option Data → Result PlanReply Fault → S → Type 0
ServesArray d old value (Ok (Bad f)) new = OptionReadsAs value (Err f) × (new ≡ old)
ServesArray d old value (Ok reply) new =
    (plan : List PlanRequest) × OptionReadsAs value (Ok plan) × PerformsPlan d old plan (Ok reply) new
ServesArray d old value (Err f) new =
    ((f ≡ OutOfMemory) × (new ≡ old))
    ⊎ ((plan : List PlanRequest) × OptionReadsAs value (Ok plan) × d.performs_plan old plan (Err f) new)

-- The effect of serving the member `perform` or `try`, and the reply.
abbrev pub ServesReport : {S : Type 0} → RequestBehaviour S → PlanRun → S → Data → Result PlanReply Fault → S → Type 0
ServesReport d run old value (Ok (Bad f)) new = PlanValueReadsAs value (Err f) × (new ≡ old)
ServesReport d run old value (Ok reply) new =
    (plan : List PlanRequest) × PlanValueReadsAs value (Ok plan) × ReportsPlanRun d run old plan (Ok reply) new
ServesReport d run old value (Err f) new =
    ((f ≡ OutOfMemory) × (new ≡ old))
    ⊎ ((plan : List PlanRequest) × PlanValueReadsAs value (Ok plan) × d.reports_plan old run plan (Err f) [] new)

-- The effect of one of the requests of `each`, its answer, and the changes that it makes: those of the request alone on
-- a line. `OutOfMemory` may also replace a view that was made.
abbrev pub ServesElement : {S : Type 0} → RequestBehaviour S → S → Data → LineAnswer → List Change → S → Type 0
ServesElement d old value (Reply (reply.Answer a)) changes new =
    ((command : Command) × ReadsAs (request_in value) (Ok (Do command)) × d.reports old command (Ok a) changes new)
    ⊎ ((query : Query) × (r : Refusal) × ReadsAs (request_in value) (Ok (Get query))
    × d.shows old query (Ok (view.No r)) new × (a ≡ answer.No r) × (changes ≡ []))
ServesElement d old value (Reply (reply.Bad f)) changes new =
    ReadsAs (request_in value) (Err f) × (changes ≡ []) × (new ≡ old)
ServesElement d old value (Reply (reply.Fault f)) changes new =
    (changes ≡ [])
    × (((f ≡ OutOfMemory) × (new ≡ old))
    ⊎ (((command : Command) × ReadsAs (request_in value) (Ok (Do command)) × d.reports old command (Err f) [] new)
    ⊎ ((query : Query) × (given : Result QueryAnswer Fault) × ReadsAs (request_in value) (Ok (Get query))
    × d.shows old query given new × ((given ≡ Err f) ⊎ (f ≡ OutOfMemory)))))
ServesElement d old value (View text) changes new =
    (query : Query) × ReadsAs (request_in value) (Ok (Get query)) × d.shows old query (Ok (view.Page text)) new
    × (changes ≡ [])
ServesElement d old value (Plan reply) changes new = ⊥

-- Whether an answer is a fault.
abbrev pub is_fault : LineAnswer → Bool
is_fault (Reply (reply.Fault f)) = true
is_fault a = false

-- The effect of requests that are performed one after another, their answers, and the changes that they make. The first
-- fault is the last answer; the requests after it aren't performed.
abbrev pub RunsEach : {S : Type 0} → RequestBehaviour S → S → List Data → List LineAnswer → List Change → S → Type 0
RunsEach d old [] [] changes new = (changes ≡ []) × (new ≡ old)
RunsEach d old [] (a ∷ answers) changes new = ⊥
RunsEach d old (value ∷ values) [] changes new = ⊥
RunsEach {S} d old (value ∷ values) (a ∷ answers) changes new =
    (mid : S) × (first : List Change) × (rest : List Change) × (changes ≡ first ++ rest)
    × ServesElement d old value a first mid
    × (((is_fault a ≡ true) × (answers ≡ []) × (rest ≡ []) × (new ≡ mid))
    ⊎ ((is_fault a ≡ false) × RunsEach d mid values answers rest new))

-- The effect of serving the member `each`, and the reply.
abbrev pub ServesEach : {S : Type 0} → RequestBehaviour S → S → Data → Result PlanReply Fault → S → Type 0
ServesEach d old value (Ok (Reported report)) new =
    (values : List Data) × (answers : List LineAnswer) × (changes : List Change) × IsEachArray value values
    × RunsEach d old values answers changes new × (report ≡ report_of_each changes answers)
ServesEach d old value (Ok (Bad f)) new =
    (f ≡ Whole BadShape) × ((values : List Data) → ¬ IsEachArray value values) × (new ≡ old)
ServesEach d old value (Ok reply) new = ⊥
ServesEach d old value (Err f) new = (f ≡ OutOfMemory) × (new ≡ old)

-- The effect of serving a value in its form, and the reply.
abbrev pub ServesForm : {S : Type 0} → RequestBehaviour S → PlanForm → S → Data → Result PlanReply Fault → S → Type 0
ServesForm d form.Array old value result new = ServesArray d old (Some value) result new
ServesForm d form.Perform old value result new =
    ServesReport d run.Perform old (sole_member (codes "perform") value) result new
ServesForm d form.Try old value result new = ServesReport d run.Try old (sole_member (codes "try") value) result new
ServesForm d form.Each old value result new = ServesEach d old (sole_member (codes "each") value) result new

-- The effect of serving a text as several requests, and the reply, given the JSON value of the text.
abbrev pub ServesPlan : {S : Type 0} → RequestBehaviour S → S → Option Data → Result PlanReply Fault → S → Type 0
ServesPlan d old None result new = ServesArray d old None result new
ServesPlan d old (Some value) result new = ServesForm d (form_in value) old value result new

-- Whether the line is read as a plan: plans are taken, and it is an array, or an object with a member of plans.
abbrev pub is_plan_line : Bool → List ℕ → Bool
is_plan_line takes line = takes && is_plan_value (json_in line)

-- The effect of a line on a handler, by the kind of its answer: an answer or refusal, a form fault,
-- a fault, a view, or the reply to a plan.
abbrev pub Serves : {S : Type 0} → RequestBehaviour S → LineBehaviour S
Serves d old line (Reply (reply.Answer a)) new =
    (is_plan_line (d.takes_plans old) line ≡ false)
    × (((command : Command) × IsCommandLine line command × d.performs old command (Ok a) new)
    ⊎ ((query : Query) × (r : Refusal) × IsQueryLine line query
    × d.shows old query (Ok (view.No r)) new × (a ≡ answer.No r)))
Serves d old line (Reply (reply.Bad f)) new =
    (is_plan_line (d.takes_plans old) line ≡ false) × ReadsAs (request_of line) (Err f) × (new ≡ old)
Serves d old line (Reply (reply.Fault f)) new =
    ((f ≡ OutOfMemory) × (new ≡ old))
    ⊎ (((command : Command) × IsCommandLine line command × d.performs old command (Err f) new)
    ⊎ (((query : Query) × IsQueryLine line query × d.shows old query (Err f) new)
    ⊎ ((is_plan_line (d.takes_plans old) line ≡ true) × ServesPlan d old (json_in line) (Err f) new)))
Serves d old line (Plan reply) new =
    (is_plan_line (d.takes_plans old) line ≡ true) × ServesPlan d old (json_in line) (Ok reply) new
Serves d old line (View text) new =
    (is_plan_line (d.takes_plans old) line ≡ false)
    × (query : Query) × IsQueryLine line query × d.shows old query (Ok (view.Page text)) new

-- The answer to the line of a command with this result.
abbrev pub command_answer : Result Answer Fault → LineAnswer
command_answer (Ok a) = Reply (reply.Answer a)
command_answer (Err f) = Reply (reply.Fault f)

-- The answer to the line of a query with this result.
abbrev pub query_answer : Result QueryAnswer Fault → LineAnswer
query_answer (Ok (view.Page text)) = View text
query_answer (Ok (view.No r)) = Reply (reply.Answer (answer.No r))
query_answer (Err f) = Reply (reply.Fault f)

-- The answer to a line that isn't a request, or for which memory ran out.
abbrev pub stop_answer : ReadStop → LineAnswer
stop_answer (stop.Form f) = Reply (reply.Bad f)
stop_answer stop.OutOfMemory = Reply (reply.Fault OutOfMemory)

-- The answer to the line of a plan with this result: its reply, or its fault.
abbrev pub plan_answer : Result PlanReply Fault → LineAnswer
plan_answer (Ok r) = Plan r
plan_answer (Err f) = Reply (reply.Fault f)
