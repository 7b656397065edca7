-- The unread bytes of an input, and the search for its next line.
use Rattle.std.specs.Prelude.{◌≡◌, ◌≢◌, ◌⊎◌, ℕ, ◌<◌, ◌≤◌, ◌==◌, Bool, true, false, if◌then◌else◌, List, [], ◌∷◌}
use Rattle.std.specs.Prelude.{◌++◌, length, take, drop, Option, None, Some, Result, IfErr, IfOk}
use Rattle.std.specs.Str.Lines.{strip_carriage_return}
use Rattle.std.specs.Io.KnownBytes.{Consumes, Keeps, IsAtEnd, prepend_known}
use Rattle.thes_base.specs.Pipe.{denied_of, ended_of, unread_bytes}
use Rattle.thes_base.specs.declared.pipe.Pipe.{Pipe}
use Rattle.thes_base.specs.declared.pipe.Stop.{Stop}
use Rattle.thes_base.specs.declared.pipe.Stop.TheVariants.{Failed, TooLong}
use Rattle.thes_requests.specs.declared.line_buffer.LineRun.{LineRun}
use Rattle.thes_requests.specs.declared.line_buffer.LineSearch.{LineSearch}
use Rattle.thes_requests.specs.declared.line_buffer.LineSearch.TheVariants.{End, Line}

-- The bytes not consumed yet: those in the buffer, then those of the reader; None if the bytes of the device aren't
-- known, as those of standard input.
abbrev pub bytes_left : {R : Type 0} → (R → Option (List ℕ)) → List ℕ → Pipe R → Option (List ℕ)
bytes_left remaining held reader = prepend_known held (unread_bytes remaining reader)

-- Whether the bytes have a line feed.
abbrev pub has_newline : List ℕ → Bool
has_newline [] = false
has_newline (b ∷ bs) = if b == 10 then true else has_newline bs

-- The bytes of a line with its line end: a line feed, or nothing if the input ended.
abbrev pub line_bytes : List ℕ → Bool → List ℕ
line_bytes raw ended = if ended then raw else raw ++ 10 ∷ []

-- The content of a line: a carriage return before the line feed isn't part of it.
abbrev pub line_content : List ℕ → Bool → List ℕ
line_content raw ended = if ended then raw else strip_carriage_return raw

-- The greatest length of a line in bytes, its carriage return included: 1 MiB.
abbrev pub line_limit : ℕ
line_limit = 1048576

-- The size of the buffer in bytes, all of which one read may fill: 64 KiB.
abbrev pub buffer_size : ℕ
buffer_size = 65536

-- The first line of `old` was consumed: the bytes `raw`, and then a line feed. If `ended`, the line
-- is the last of the input, and no line feed follows it.
pub record ConsumesLine (old new : Option (List ℕ)) (raw : List ℕ) (ended : Bool) : Type 0 where
  pub bytes : Consumes old new (line_bytes raw ended)
  pub one : has_newline raw ≡ false
  pub last : ended ≡ true → (raw ≢ []) × IsAtEnd new
  pub short : length raw ≤ line_limit

-- Part of a line was consumed, without a line feed.
pub record ConsumesPartOfLine (old new : Option (List ℕ)) : Type 0 where
  pub raw : List ℕ
  pub bytes : Consumes old new raw
  pub one : has_newline raw ≡ false

-- The input begins with more bytes without a line feed than a line can have.
pub record IsLineTooLong (old : Option (List ℕ)) : Type 0 where
  pub raw : List ℕ
  pub rest : Option (List ℕ)
  pub bytes : Consumes old rest raw
  pub one : has_newline raw ≡ false
  pub long : line_limit < length raw

-- One byte was consumed, or none, since the input had ended.
abbrev pub ConsumesByte : Option ℕ → Option (List ℕ) → Option (List ℕ) → Bool → Type 0
ConsumesByte None old new ended = Keeps old new × IsAtEnd new × (ended ≡ true)
ConsumesByte (Some b) old new ended = Consumes old new (b ∷ []) × (ended ≡ false)

-- A prefix of the buffer without a line feed was consumed; `run.kept` means that `line` held all
-- earlier bytes, and that the prefix was appended to it.
pub record ConsumesRun (old new line line' : List ℕ) (kept : Bool) (run : LineRun) : Type 0 where
  pub within : run.count ≤ length old
  pub rest : new ≡ drop run.count old
  pub one : has_newline (take run.count old) ≡ false
  pub appends : run.kept ≡ true → (kept ≡ true) × (line' ≡ line ++ take run.count old)

-- A read failed or was denied: the buffer is empty, the input hasn't ended, and TooLong means that a read was denied.
pub record FindsNoBytes {R : Type 0} (stop : Stop) (held : List ℕ) (reader : Pipe R) : Type 0 where
  pub empty : held ≡ []
  pub not_ended : ended_of reader ≡ false
  pub too_long : stop ≡ TooLong → denied_of reader ≡ true

-- The effect of a read into the empty buffer: it holds bytes now, or the input has ended, or the read failed; no byte
-- was consumed.
pub record RefillsBuffer {R : Type 0} (old new : Option (List ℕ)) (held : List ℕ) (reader : Pipe R)
    (result : Result Bool Stop) : Type 0 where
  pub kept : Keeps old new
  pub more : IfOk result (λ more. more ≡ true → (held ≢ []) × (ended_of reader ≡ false))
  pub end : IfOk result (λ more. more ≡ false → (held ≡ []) × IsAtEnd new × (ended_of reader ≡ true))
  pub stops : IfErr result (λ stop. FindsNoBytes stop held reader)

-- The search found a line; `held` is its content, unless memory ran out.
abbrev pub IsLineFound : LineSearch → List ℕ → Option (List ℕ) → Option (List ℕ) → Bool → Type 0
IsLineFound found held old new ended =
    (raw : List ℕ) × ConsumesLine old new raw ended × (found ≡ Line → line_content raw ended ≡ held)

-- The search found the end of the input, and consumed no byte.
abbrev pub IsEndFound : Option (List ℕ) → Option (List ℕ) → Bool → Type 0
IsEndFound old new ended = Keeps old new × IsAtEnd new × (ended ≡ true)

-- The search found a line, or the end of the input.
pub record FindsLineOrEnd (found : LineSearch) (held : List ℕ) (old new : Option (List ℕ)) (ended : Bool) :
    Type 0 where
  pub line : found ≢ End → IsLineFound found held old new ended
  pub end : found ≡ End → IsEndFound old new ended

-- The search stopped: the reader failed within a line, or a read was denied, or the input exceeds a limit.
pub record StopsInLine {R : Type 0} (stop : Stop) (old unread : Option (List ℕ)) (reader : Pipe R)
    (Exceeds : Type 0) : Type 0 where
  pub failure : stop ≡ Failed → ConsumesPartOfLine old unread
  pub too_long : stop ≡ TooLong → (denied_of reader ≡ true) ⊎ Exceeds
