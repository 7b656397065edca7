-- The steps by which requests are performed one after another, for contracts of private functions.
use Rattle.std.specs.Prelude.{◌≡◌, ◌⊎◌, ◌+◌, ◌-◌, ◌*◌, ◌≤◌, ℕ, Bool, false, List, [], ◌∷◌, ◌++◌, codes, Result, OnErr, fold, length}
use Rattle.std.specs.Prelude.{map, vec_len, vec_capacity}
use Rattle.std.specs.List.{join_with_byte}
use Rattle.serde_json.specs.Data.{Data}
use Rattle.thes_base.specs.declared.fault.Fault.{Fault}
use Rattle.thes_base.specs.declared.fault.Fault.TheVariants.{OutOfMemory}
use Rattle.thes_base.specs.declared.request.Answer.{Answer}
use Rattle.thes_base.specs.declared.request.Command.{Command}
use Rattle.thes_tables.specs.declared.change.Change.{Change}
use Rattle.thes_requests.specs.declared.answer.Reply.TheVariants as reply
use Rattle.thes_requests.specs.declared.each.EachReport.{EachReport}
use Rattle.thes_requests.specs.declared.line_serving.LineAnswer.{LineAnswer}
use Rattle.thes_requests.specs.declared.line_serving.LineAnswer.TheVariants.{Reply, View}
use Rattle.thes_requests.specs.declared.plan_reply.PlanReply.{PlanReply}
use Rattle.thes_requests.specs.declared.plan_reply.PlanReply.TheVariants.{Reported}
use Rattle.thes_requests.specs.ChangeTexts.{items_text, list_opening, without_last_comma}
use Rattle.thes_requests.specs.LineTexts.{line_item_text}
use Rattle.thes_requests.specs.PlanTexts.{separator_before}
use Rattle.thes_requests.specs.RequestBehaviour.{RequestBehaviour}
use Rattle.thes_requests.specs.ScriptEnds.{end_after_answer, end_without_lines}
use Rattle.thes_requests.specs.Serving.{ServesElement, command_answer, is_fault}

-- The answer that is kept: the one given, or `OutOfMemory` in place of a view.
abbrev pub IsKept : LineAnswer → LineAnswer → Type 0
IsKept (View text) kept = (kept ≡ View text) ⊎ (kept ≡ Reply (reply.Fault OutOfMemory))
IsKept answer kept = kept ≡ answer

-- Memory of `cap` bytes, of which `len` are used, has room for a comma and the answer, for the answers to `left` more
-- requests, and for the end of the line.
abbrev pub IsRoomForItem : ℕ → ℕ → LineAnswer → ℕ → Type 0
IsRoomForItem len cap (View text) left = len + 1 + (length text - 1) + 72 * left + 3 ≤ cap
IsRoomForItem len cap answer left = len + 72 * (left + 1) + 3 ≤ cap

-- The line has room for the answers to `left` more requests, and for its end.
abbrev pub HasRoom : EachReport → ℕ → Type 0
HasRoom report left = vec_len report.line + 72 * left + 3 ≤ vec_capacity report.line

-- The answer was appended to a report; there is room for those to `left` more requests, and the result states whether
-- it is a fault.
pub record PushesAnswer (old : EachReport) (answer : LineAnswer) (left : ℕ) (is_last : Bool) (new : EachReport) :
    Type 0 where
  pub list : new.list ≡ old.list
  pub line : new.line.items ≡ old.line.items ++ (separator_before old.count ++ line_item_text answer)
  pub count : new.count ≡ old.count + 1
  pub summary : new.end ≡ end_after_answer old.end answer
  pub room : HasRoom new left
  pub fault : is_last ≡ is_fault answer

-- An answer, or `OutOfMemory` in its place, was appended to a report.
pub record KeepsAnswer (old : EachReport) (answer : LineAnswer) (left : ℕ) (is_last : Bool) (new : EachReport) :
    Type 0 where
  pub kept : LineAnswer
  pub is_kept : IsKept answer kept
  pub pushes : PushesAnswer old kept left is_last new

-- A command was performed, and its changes were added to the list.
pub record ReportsCommand {S : Type 0} (d : RequestBehaviour S) (old : S) (command : Command) (list : List ℕ)
    (answer : LineAnswer) (list' : List ℕ) (new : S) : Type 0 where
  pub outcome : Result Answer Fault
  pub changes : List Change
  pub does : d.reports old command outcome changes new
  pub answer_is : answer ≡ command_answer outcome
  pub list_is : list' ≡ list ++ items_text changes
  pub none : OnErr outcome (changes ≡ [])

-- One of the requests was performed, and its changes were added to the list.
pub record ReportsElement {S : Type 0} (d : RequestBehaviour S) (old : S) (value : Data) (list : List ℕ)
    (answer : LineAnswer) (list' : List ℕ) (new : S) : Type 0 where
  pub changes : List Change
  pub serves : ServesElement d old value answer changes new
  pub list_is : list' ≡ list ++ items_text changes

-- One of the requests was performed, and its changes and its answer were added to the report.
pub record ServesNext {S : Type 0} (d : RequestBehaviour S) (old : S) (value : Data) (left : ℕ)
    (before : EachReport) (is_last : Bool) (after : EachReport) (new : S) : Type 0 where
  pub answer : LineAnswer
  pub changes : List Change
  pub serves : ServesElement d old value answer changes new
  pub list : after.list ≡ before.list ++ items_text changes
  pub line : after.line.items ≡ before.line.items ++ (separator_before before.count ++ line_item_text answer)
  pub count : after.count ≡ before.count + 1
  pub summary : after.end ≡ end_after_answer before.end answer
  pub room : HasRoom after left
  pub fault : is_last ≡ is_fault answer

-- A report that has no answer yet, with room for `left` answers.
pub record IsNewReport (report : EachReport) (left : ℕ) : Type 0 where
  pub list : report.list ≡ list_opening
  pub line : report.line.items ≡ codes "],\"each\":["
  pub count : report.count ≡ 0
  pub summary : report.end ≡ end_without_lines
  pub room : HasRoom report left

-- The reply has the changes and the answers of the report.
abbrev pub IsReplyOf : EachReport → PlanReply → Type 0
IsReplyOf report reply = reply ≡ Reported (record {
  changes = without_last_comma report.list;
  answers = report.line.items ++ codes "]}\n";
  end = report.end;
})

-- The effect of requests of which none was answered with a fault, their answers, and the changes that they make.
abbrev pub RunsFront : {S : Type 0} → RequestBehaviour S → S → List Data → List LineAnswer → List Change → S → Type 0
RunsFront d old [] [] changes new = (changes ≡ []) × (new ≡ old)
RunsFront d old [] (a ∷ answers) changes new = ⊥
RunsFront d old (value ∷ values) [] changes new = ⊥
RunsFront {S} d old (value ∷ values) (a ∷ answers) changes new =
    (mid : S) × (first : List Change) × (rest : List Change) × (changes ≡ first ++ rest)
    × ServesElement d old value a first mid × (is_fault a ≡ false) × RunsFront d mid values answers rest new

-- These values, none of which was answered with a fault, were performed, and the report has their changes and answers,
-- with room for those to `left` more.
pub record ServesFront {S : Type 0} (d : RequestBehaviour S) (old : S) (values : List Data) (left : ℕ)
    (report : EachReport) (new : S) : Type 0 where
  pub answers : List LineAnswer
  pub changes : List Change
  pub runs : RunsFront d old values answers changes new
  pub each : length answers ≡ length values
  pub list : report.list ≡ list_opening ++ items_text changes
  pub line : report.line.items ≡ codes "],\"each\":[" ++ join_with_byte 44 (map line_item_text answers)
  pub count : report.count ≡ length answers
  pub summary : report.end ≡ fold end_after_answer end_without_lines answers
  pub room : HasRoom report left
