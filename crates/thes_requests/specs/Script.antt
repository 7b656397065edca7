-- Scripts: one request or plan a line, each answered with a line before the next one is performed.
use Rattle.std.specs.Prelude.{◌≡◌, ◌⊎◌, ◌≤◌, ◌↔◌, ℕ, ◌==◌, ◌||◌, Bool, true, false, if◌then◌else◌, List, [], ◌∷◌}
use Rattle.std.specs.Prelude.{◌++◌, length, take, flat_map, fold, Option, Result, MatchResult}
use Rattle.std.specs.List.{list_all, slice_split, All}
use Rattle.std.specs.Str.Lines.{lines}
use Rattle.std.specs.Io.KnownBytes.{Appends, Consumes, IsAtEnd}
use Rattle.thes_base.specs.Pipe.{IsFresh, failed_of, ended_of, denied_of, unread_bytes, written_bytes}
use Rattle.thes_base.specs.declared.fault.Fault.TheVariants.{OutOfMemory}
use Rattle.thes_base.specs.declared.fault.PipeFault.{PipeFault}
use Rattle.thes_base.specs.declared.fault.PipeFault.TheVariants.{Read, Write, TooLong, Fault}
use Rattle.thes_base.specs.declared.pipe.Pipe.{Pipe}
use Rattle.thes_requests.specs.AnswerTexts.{reply_text}
use Rattle.thes_requests.specs.LineBuffer.{has_newline, line_limit}
use Rattle.thes_requests.specs.ScriptEnds.{end_after_outcome, end_without_lines}
use Rattle.thes_requests.specs.LineTexts.{line_answer_text}
use Rattle.thes_requests.specs.Serving.{LineBehaviour}
use Rattle.thes_requests.specs.declared.answer.Reply.TheVariants as reply
use Rattle.thes_requests.specs.declared.line_serving.LineOutcome.{LineOutcome}
use Rattle.thes_requests.specs.declared.line_serving.LineOutcome.TheVariants.{Skipped, Unheld, Answered}
use Rattle.thes_requests.specs.declared.script.ScriptEnd.{ScriptEnd}

-- The greatest number of lines in a script.
abbrev pub lines_limit : ℕ
lines_limit = 1000000

-- The parts between line feeds as lines, without the last part if it is empty.
abbrev pub raw_lines_of : List (List ℕ) → List (List ℕ)
raw_lines_of [] = []
raw_lines_of (x ∷ []) = if length x == 0 then [] else x ∷ []
raw_lines_of (x ∷ y ∷ more) = x ∷ raw_lines_of (y ∷ more)

-- The lines of the input with their carriage returns; an empty part after the last line feed isn't
-- a line.
abbrev pub raw_lines : List ℕ → List (List ℕ)
raw_lines input = raw_lines_of (slice_split (λ b. b == 10) input)

-- The lines are within the limits on their number and length.
pub record AreAllowed (whole : List (List ℕ)) : Type 0 where
  pub few : length whole ≤ lines_limit
  pub short : All (λ line. length line ≤ line_limit) whole

-- The bytes are empty or end with a line feed: the next byte begins a line.
abbrev pub EndsLine : List ℕ → Type 0
EndsLine bytes = (bytes ≡ []) ⊎ ((front : List ℕ) × (bytes ≡ front ++ 10 ∷ []))

-- Whether the line has only spaces and tabs.
abbrev pub is_blank : List ℕ → Bool
is_blank line = list_all (λ b. b == 32 || b == 9) line

-- The effect of one line on the handler: none if the line is blank or isn't held, else that of its request or plan.
abbrev pub StepLine : {S : Type 0} → LineBehaviour S → S → List ℕ → LineOutcome → S → Type 0
StepLine serves old line Skipped new = (is_blank line ≡ true) × (new ≡ old)
StepLine serves old line Unheld new = new ≡ old
StepLine serves old line (Answered o) new = (is_blank line ≡ false) × serves old line o new

-- The effect of the lines on the handler, in order.
abbrev pub RunLines : {S : Type 0} → LineBehaviour S → S → List (List ℕ) → List LineOutcome → S → Type 0
RunLines serves old [] [] new = new ≡ old
RunLines serves old [] (f ∷ line_outcomes) new = ⊥
RunLines serves old (line ∷ more) [] new = ⊥
RunLines {S} serves old (line ∷ more) (f ∷ line_outcomes) new =
    (mid : S) × StepLine serves old line f mid × RunLines serves mid more line_outcomes new

-- The lines of the bytes are within the limits, and have these outcomes in order.
pub record ServesLines {S : Type 0} (serves : LineBehaviour S) (bytes : List ℕ) (line_outcomes : List LineOutcome)
    (old new : S) : Type 0 where
  pub lines_allowed : AreAllowed (raw_lines bytes)
  pub run : RunLines serves old (lines bytes) line_outcomes new

-- The text of the answer to a line with this outcome: empty if it is skipped, and `OutOfMemory` if
-- it isn't held.
abbrev pub outcome_text : LineOutcome → List ℕ
outcome_text Skipped = []
outcome_text Unheld = reply_text (reply.Fault OutOfMemory)
outcome_text (Answered o) = line_answer_text o

-- The output of a script: the answers to its lines.
abbrev pub script_text : List LineOutcome → List ℕ
script_text line_outcomes = flat_map outcome_text line_outcomes

-- The end of a script after lines with these outcomes.
abbrev pub end_of_outcomes : List LineOutcome → ScriptEnd
end_of_outcomes line_outcomes = fold end_after_outcome end_without_lines line_outcomes

-- A run of a script has a reader, a writer and a request handler. If the bytes of a device aren't known, as those of
-- standard input, a statement about them only says that some such bytes exist.

-- The state of a run: its reader, its writer and its request handler.
pub record Session (R W S : Type 0) : Type 0 where
  pub reader : Pipe R
  pub writer : Pipe W
  pub handler : S

-- The state of a run with these parts.
abbrev pub session : {R W S : Type 0} → Pipe R → Pipe W → S → Session R W S
session reader writer handler = record { reader = reader; writer = writer; handler = handler }

-- Neither the reader nor the writer has failed or ended, and neither was denied a call.
pub record IsFreshSession {R W S : Type 0} (begun : Session R W S) : Type 0 where
  pub reader : IsFresh begun.reader
  pub writer : IsFresh begun.writer

-- The line after the bytes `served`, at the beginning of `rest`, would exceed the limits on number or length of lines.
pub record ExceedsLimits (served : List ℕ) (rest : Option (List ℕ)) : Type 0 where
  pub next : List ℕ
  pub bytes_left : Option (List ℕ)
  pub bytes : Consumes rest bytes_left next
  pub one : length (raw_lines next) ≡ 1
  pub next_not_allowed : ¬ AreAllowed (raw_lines (served ++ next))

module _ {R W S : Type 0} (remaining : R → Option (List ℕ)) (contents : W → Option (List ℕ))
    (serves : LineBehaviour S) (is_open : S → Bool) (old new : Session R W S) where
  -- The text was appended to the output.
  abbrev pub WritesOutput : List ℕ → Type 0
  WritesOutput text = Appends (written_bytes contents old.writer) (written_bytes contents new.writer) text

  -- The bytes were consumed from the reader.
  abbrev pub ReadsInput : List ℕ → Type 0
  ReadsInput bytes = Consumes (unread_bytes remaining old.reader) (unread_bytes remaining new.reader) bytes

  -- The script ended normally: it read all input and answered each line that isn't blank, and the
  -- output is exactly the answers.
  pub record Completes (ended : ScriptEnd) : Type 0 where
    pub input : List ℕ
    pub taken : ReadsInput input
    pub end : IsAtEnd (unread_bytes remaining new.reader)
    pub reported : ended_of new.reader ≡ true
    pub working : (failed_of new.reader ≡ false) × (failed_of new.writer ≡ false)
    pub line_outcomes : List LineOutcome
    pub lines : ServesLines serves input line_outcomes old.handler new.handler
    pub stays_open : is_open new.handler ≡ true
    pub text : WritesOutput (script_text line_outcomes)
    pub noted_end : ended ≡ end_of_outcomes line_outcomes

  -- The output is all answers but the last, and then a prefix of the last, which may be empty or the whole answer.
  pub record StopsWithinAnswer (line_outcomes : List LineOutcome) : Type 0 where
    pub before : List LineOutcome
    pub last : LineOutcome
    pub all : line_outcomes ≡ before ++ last ∷ []
    pub count : ℕ
    pub within : count ≤ length (outcome_text last)
    pub text : WritesOutput (script_text before ++ take count (outcome_text last))

  -- The reason why the script stopped after these lines, and the output up to then, by fault.
  -- `Read`: the reader failed, and exactly the lines that it returned with their line feeds were
  --   served.
  -- `Write`: the writer failed, and the output ends within the answer to the last of these lines.
  -- `TooLong`: the next line exceeds the limits, or a pipe was denied a read or a write.
  -- `Fault`: memory ran out at the start, or the handler closed with the last line.
  abbrev pub IsCause : PipeFault → List ℕ → Option (List ℕ) → List LineOutcome → Type 0
  IsCause Read served rest line_outcomes =
      WritesOutput (script_text line_outcomes) × (part : List ℕ) × ReadsInput (served ++ part)
      × (has_newline part ≡ false)
  IsCause Write served rest line_outcomes = StopsWithinAnswer line_outcomes
  IsCause TooLong served rest line_outcomes =
      (StopsWithinAnswer line_outcomes × (denied_of new.writer ≡ true))
      ⊎ (WritesOutput (script_text line_outcomes) × ((denied_of new.reader ≡ true) ⊎ ExceedsLimits served rest))
  IsCause (Fault f) served rest line_outcomes =
      WritesOutput (script_text line_outcomes) × (f ≡ OutOfMemory) × ((served ≡ []) ⊎ (is_open new.handler ≡ false))

  -- The script stopped early: it served the first lines of the input, and `cause` states why it
  -- served no more.
  pub record Stops (fault : PipeFault) : Type 0 where
    pub served : List ℕ
    pub rest : Option (List ℕ)
    pub taken : Consumes (unread_bytes remaining old.reader) rest served
    pub whole : EndsLine served ⊎ (IsAtEnd rest × (ended_of new.reader ≡ true))
    pub line_outcomes : List LineOutcome
    pub lines : ServesLines serves served line_outcomes old.handler new.handler
    pub cause : IsCause fault served rest line_outcomes
    pub read : (fault ≡ Read) ↔ (failed_of new.reader ≡ true)
    pub wrote : (fault ≡ Write) ↔ (failed_of new.writer ≡ true)

  -- The end of a script: it read all input and answered each line that isn't blank, or a fault stopped it after the
  -- first lines; the output is exactly the answers, the last of which may be cut short by the fault.
  abbrev pub EndsScript : Result ScriptEnd PipeFault → Type 0
  EndsScript result = MatchResult result Completes Stops
