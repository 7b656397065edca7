-- The progress of a script line by line, for contracts of private functions and for proofs.
use Rattle.std.specs.Prelude.{◌≡◌, ◌≢◌, ◌⊎◌, ◌≤◌, ◌+◌, ℕ, Bool, true, false, List, length, Option, Result, IfErr, IfOk}
use Rattle.std.specs.Io.KnownBytes.{Appends, Consumes, IsAtEnd}
use Rattle.thes_base.specs.Pipe.{IsFresh, failed_of, ended_of, denied_of, unread_bytes, written_bytes, AppendsPrefix}
use Rattle.thes_base.specs.declared.fault.Fault.TheVariants.{OutOfMemory}
use Rattle.thes_base.specs.declared.fault.PipeFault.{PipeFault}
use Rattle.thes_base.specs.declared.fault.PipeFault.TheVariants.{Read, Write, TooLong, Fault}
use Rattle.thes_base.specs.declared.pipe.Pipe.{Pipe}
use Rattle.thes_base.specs.declared.pipe.Stop.{Stop}
use Rattle.thes_requests.specs.LineBuffer.{bytes_left, ConsumesLine, FindsLineOrEnd, IsLineTooLong, StopsInLine}
use Rattle.thes_requests.specs.Serving.{LineBehaviour}
use Rattle.thes_requests.specs.Script.{ServesLines, EndsLine, Session, raw_lines, outcome_text, script_text}
use Rattle.thes_requests.specs.Script.{end_of_outcomes, lines_limit}
use Rattle.thes_requests.specs.ScriptEnds.{end_after_outcome}
use Rattle.thes_requests.specs.declared.line_buffer.LineSearch.{LineSearch}
use Rattle.thes_requests.specs.declared.line_buffer.LineSearch.TheVariants.{End}
use Rattle.thes_requests.specs.declared.script_lines.ScriptLines.{ScriptLines}
use Rattle.thes_requests.specs.declared.script.ScriptEnd.{ScriptEnd}
use Rattle.thes_requests.specs.declared.line_serving.LineOutcome.{LineOutcome}

-- The search for the next line of a script found the line and counted it, found the end of the input, or stopped. The
-- bytes that are left are those of the buffer, and then the unread ones of the reader.
pub record FindsNextLine {R : Type 0} (left left' : Option (List ℕ)) (old new : ScriptLines)
    (unread : Option (List ℕ)) (reader : Pipe R) (result : Result LineSearch Stop) : Type 0 where
  pub found : IfOk result (λ one. FindsLineOrEnd one new.line.items left left' (ended_of reader))
  pub count : IfOk result (λ one. one ≢ End → (new.count ≡ old.count + 1) × (new.count ≤ lines_limit))
  pub stops : IfErr result (λ stop. StopsInLine stop left unread reader (IsLineTooLong left
      ⊎ ((old.count ≡ lines_limit) × (raw : List ℕ) × ConsumesLine left left' raw (ended_of reader))))

module _ {W S : Type 0} (contents : W → Option (List ℕ)) (is_open : S → Bool) (handler : S)
    (writer writer' : Pipe W) where
  -- The answer to a line was written, if it has one; the handler is still open.
  pub record OutcomeWritten (line_outcome : LineOutcome) (ended ended' : ScriptEnd) : Type 0 where
    pub text : Appends (written_bytes contents writer) (written_bytes contents writer') (outcome_text line_outcome)
    pub noted_end : ended' ≡ end_after_outcome ended line_outcome
    pub stays_open : is_open handler ≡ true
    pub fresh : IsFresh writer'

  -- The reason why a script stopped after serving a line, and its output, by fault. `Write` or `TooLong`: the writer
  -- failed or had no write left, after a prefix of the answer. `Fault`: the handler closed, after the whole answer.
  abbrev pub StopsWithOutcome : LineOutcome → PipeFault → Type 0
  StopsWithOutcome line_outcome Read = ⊥
  StopsWithOutcome line_outcome Write =
      AppendsPrefix (written_bytes contents writer) (written_bytes contents writer') (outcome_text line_outcome)
      × (failed_of writer' ≡ true)
  StopsWithOutcome line_outcome TooLong =
      AppendsPrefix (written_bytes contents writer) (written_bytes contents writer') (outcome_text line_outcome)
      × (failed_of writer' ≡ false) × (denied_of writer' ≡ true)
  StopsWithOutcome line_outcome (Fault f) =
      Appends (written_bytes contents writer) (written_bytes contents writer') (outcome_text line_outcome)
      × (failed_of writer' ≡ false) × (f ≡ OutOfMemory) × (is_open handler ≡ false)

-- The lines of `bytes`, `count` of them, were served, and `ended` sums up their answers; the bytes after them are in
-- the buffer (`held`) or still in the reader.
pub record ScriptProgress {R W S : Type 0} (remaining : R → Option (List ℕ)) (contents : W → Option (List ℕ))
    (serves : LineBehaviour S) (old new : Session R W S)
    (held : List ℕ) (count : ℕ) (ended : ScriptEnd) : Type 0 where
  pub bytes : List ℕ
  pub taken : Consumes (unread_bytes remaining old.reader) (bytes_left remaining held new.reader) bytes
  pub whole : ended_of new.reader ≡ false → EndsLine bytes
  pub last : ended_of new.reader ≡ true → IsAtEnd (bytes_left remaining held new.reader)
  pub line_outcomes : List LineOutcome
  pub lines : ServesLines serves bytes line_outcomes old.handler new.handler
  pub line_count : length (raw_lines bytes) ≡ count
  pub text : Appends (written_bytes contents old.writer) (written_bytes contents new.writer) (script_text line_outcomes)
  pub noted_end : ended ≡ end_of_outcomes line_outcomes
