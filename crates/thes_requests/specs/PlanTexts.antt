-- The lines of JSON for the replies to plans, byte for byte.
use Rattle.std.specs.Prelude.{ℕ, zero, suc, ◌+◌, ◌-◌, ◌*◌, ◌≤◌, List, [], ◌∷◌, ◌++◌, codes, decimal, length, map, take}
use Rattle.std.specs.List.{join_with_byte}
use Rattle.thes_base.specs.declared.fault.Refusal.{Refusal}
use Rattle.thes_base.specs.declared.fault.Refusal.TheVariants.{OutsideKnown}
use Rattle.thes_base.specs.declared.request.Answer.{Answer}
use Rattle.thes_base.specs.FaultNames.{form_code, refusal_code}
use Rattle.thes_plans.specs.declared.plan.PlanOutcome.{PlanOutcome}
use Rattle.thes_plans.specs.declared.plan.PlanOutcome.TheVariants as outcome
use Rattle.thes_requests.specs.declared.plan.PlanFault.{PlanFault}
use Rattle.thes_requests.specs.declared.plan.PlanFault.TheVariants.{Whole, Request, Reference}
use Rattle.thes_requests.specs.declared.plan_reply.PlanReply.{PlanReply}
use Rattle.thes_requests.specs.declared.plan_reply.PlanReply.TheVariants.{Done, Reported, Refused, Bad}
use Rattle.thes_requests.specs.declared.plan_reply.Report.{Report}
use Rattle.thes_tables.specs.declared.change.Change.{Change}
use Rattle.thes_requests.specs.AnswerTexts.{answer_text, form_fault_text}
use Rattle.thes_requests.specs.ChangeTexts.{changes_text}
use Rattle.thes_requests.specs.ScriptEnds.{end_without_lines}

-- The beginning of a line for the request at the place K of its plan, counted from 1: `{"at":K,`.
abbrev pub place_text : ℕ → List ℕ
place_text place = codes "{\"at\":" ++ decimal place ++ codes ","

-- The line for the refusal of the request at a place: `{"at":K,"no":"NAME"}`, with the number for `OutsideKnown`.
abbrev pub plan_refusal_text : ℕ → Refusal → List ℕ
plan_refusal_text place (OutsideKnown n) =
    place_text place ++ codes "\"no\":\"OutsideKnown\",\"number\":" ++ decimal n ++ codes "}\n"
plan_refusal_text place r = place_text place ++ codes "\"no\":\"" ++ (refusal_code r).name ++ codes "\"}\n"

-- The line for the reason why a text isn't a plan: `{"bad":"NAME"}` for the whole text, else `{"at":K,"bad":"NAME"}`.
abbrev pub plan_fault_text : PlanFault → List ℕ
plan_fault_text (Whole f) = form_fault_text f
plan_fault_text (Request place f) = place_text place ++ codes "\"bad\":\"" ++ (form_code f).name ++ codes "\"}\n"
plan_fault_text (Reference place) = place_text place ++ codes "\"bad\":\"" ++ codes "BadReference" ++ codes "\"}\n"

-- The line of an answer without its line feed.
abbrev pub item_text : Answer → List ℕ
item_text a = take (length (answer_text a) - 1) (answer_text a)

-- The comma before the answer at this index, or nothing before the first, at 0.
abbrev pub separator_before : ℕ → List ℕ
separator_before zero = []
separator_before (suc n) = 44 ∷ []

-- The answers, separated by commas.
abbrev pub items_text : List Answer → List ℕ
items_text answers = join_with_byte 44 (map item_text answers)

-- The line of the answers to a plan: `{"done":[ANSWER,..]}`.
abbrev pub answers_text : List Answer → List ℕ
answers_text answers = codes "{\"done\":[" ++ items_text answers ++ codes "]}\n"

-- The line of a report: `{"changes":[CHANGE,..],NAME:[ANSWER,..]}`.
abbrev pub report_text : Report → List ℕ
report_text r = r.changes ++ r.answers

-- The report of an accepted plan: its changes, and its answers.
abbrev pub report_of_plan : List Change → List Answer → Report
report_of_plan changes answers =
    record {
      changes = changes_text changes;
      answers = codes "],\"done\":[" ++ items_text answers ++ codes "]}\n";
      end = end_without_lines;
    }

-- The reply for the outcome of a plan with these changes.
abbrev pub reported_outcome : List Change → PlanOutcome → PlanReply
reported_outcome changes (outcome.Done answers) = Reported (report_of_plan changes answers.items)
reported_outcome changes (outcome.Refused place refusal) = Refused place refusal

-- The reply for the outcome of a plan.
abbrev pub reply_of_outcome : PlanOutcome → PlanReply
reply_of_outcome (outcome.Done answers) = Done (answers_text answers.items)
reply_of_outcome (outcome.Refused place refusal) = Refused place refusal

-- The line of a reply to a plan.
abbrev pub plan_reply_text : PlanReply → List ℕ
plan_reply_text (Done line) = line
plan_reply_text (Reported report) = report_text report
plan_reply_text (Refused place refusal) = plan_refusal_text place refusal
plan_reply_text (Bad fault) = plan_fault_text fault

-- The line of the reply for this outcome fits into memory for `room` bytes.
abbrev pub IsRoomFor : ℕ → PlanOutcome → Type 0
IsRoomFor room (outcome.Done answers) = 72 * length answers.items + 13 ≤ room
IsRoomFor room (outcome.Refused place refusal) = Unit {0}
