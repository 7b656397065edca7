-- The texts of the answers to lines, and of the answers to the requests of `each`.
use Rattle.std.specs.Prelude.{ℕ, ◌-◌, List, [], ◌++◌, codes, length, map, take, fold}
use Rattle.std.specs.List.{join_with_byte}
use Rattle.thes_tables.specs.declared.change.Change.{Change}
use Rattle.thes_requests.specs.AnswerTexts.{reply_text}
use Rattle.thes_requests.specs.ChangeTexts.{changes_text}
use Rattle.thes_requests.specs.PlanTexts.{plan_reply_text}
use Rattle.thes_requests.specs.ScriptEnds.{end_after_answer, end_without_lines}
use Rattle.thes_requests.specs.declared.line_serving.LineAnswer.{LineAnswer}
use Rattle.thes_requests.specs.declared.line_serving.LineAnswer.TheVariants.{Reply, View, Plan}
use Rattle.thes_requests.specs.declared.plan_reply.Report.{Report}

-- The text of an answer to a line, with its line feed.
abbrev pub line_answer_text : LineAnswer → List ℕ
line_answer_text (Reply r) = reply_text r
line_answer_text (View text) = text
line_answer_text (Plan reply) = plan_reply_text reply

-- The text of the answer to one of the requests of `each`, without its line feed. None of these is a plan.
abbrev pub line_item_text : LineAnswer → List ℕ
line_item_text (Plan reply) = []
line_item_text a = take (length (line_answer_text a) - 1) (line_answer_text a)

-- The report of the requests of `each`: their changes, and their answers.
abbrev pub report_of_each : List Change → List LineAnswer → Report
report_of_each changes answers =
    record {
      changes = changes_text changes;
      answers = codes "],\"each\":[" ++ join_with_byte 44 (map line_item_text answers) ++ codes "]}\n";
      end = fold end_after_answer end_without_lines answers;
    }
