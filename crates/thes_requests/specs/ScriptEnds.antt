-- The summary of a script's answers.
use Rattle.std.specs.Prelude.{◌||◌, true, false, Option, Some, None}
use Rattle.thes_base.specs.declared.fault.Fault.{Fault}
use Rattle.thes_base.specs.declared.fault.Fault.TheVariants.{OutOfMemory}
use Rattle.thes_base.specs.declared.request.Answer.TheVariants as answer
use Rattle.thes_requests.specs.declared.answer.Reply.TheVariants as reply
use Rattle.thes_requests.specs.declared.plan_reply.PlanReply.TheVariants as plan
use Rattle.thes_requests.specs.declared.line_serving.LineAnswer.{LineAnswer}
use Rattle.thes_requests.specs.declared.line_serving.LineAnswer.TheVariants.{Reply, View, Plan}
use Rattle.thes_requests.specs.declared.line_serving.LineOutcome.{LineOutcome}
use Rattle.thes_requests.specs.declared.line_serving.LineOutcome.TheVariants.{Skipped, Unheld, Answered}
use Rattle.thes_requests.specs.declared.script.ScriptEnd.{ScriptEnd}

-- The end of a script without lines.
abbrev pub end_without_lines : ScriptEnd
end_without_lines = record { refused = false; fault = None }

-- The last fault, given the one before.
abbrev pub latest_fault : Option Fault → Option Fault → Option Fault
latest_fault before None = before
latest_fault before (Some f) = Some f

-- The end of a script after a report with this summary of its answers.
abbrev pub end_after_report : ScriptEnd → ScriptEnd → ScriptEnd
end_after_report e more = record { refused = e.refused || more.refused; fault = latest_fault e.fault more.fault }

-- The end of a script after another answer: records a refusal, a form fault or a fault.
abbrev pub end_after_answer : ScriptEnd → LineAnswer → ScriptEnd
end_after_answer e (Reply (reply.Answer (answer.No r))) = record e { refused = true }
end_after_answer e (Reply (reply.Answer a)) = e
end_after_answer e (Reply (reply.Bad f)) = record e { refused = true }
end_after_answer e (Reply (reply.Fault f)) = record e { fault = Some f }
end_after_answer e (View text) = e
end_after_answer e (Plan (plan.Done line)) = e
end_after_answer e (Plan (plan.Reported report)) = end_after_report e report.end
end_after_answer e (Plan reply) = record e { refused = true }

-- The end of a script after a line with this outcome: unchanged if it is skipped.
abbrev pub end_after_outcome : ScriptEnd → LineOutcome → ScriptEnd
end_after_outcome e Skipped = e
end_after_outcome e Unheld = record e { fault = Some OutOfMemory }
end_after_outcome e (Answered o) = end_after_answer e o
