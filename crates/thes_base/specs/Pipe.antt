-- The record of a pipe's use, and the effects of its reads and writes.
use Rattle.std.specs.Prelude.{◌≡◌, ℕ, ◌+◌, ◌-◌, ◌^◌, ◌≤◌, min, Bool, false, IsTrue, length, take, Option}
use Rattle.thes_base.specs.Types.{Bytes}
use Rattle.std.specs.Io.KnownBytes.{Appends}
use Rattle.thes_base.specs.declared.fault.PipeFault.{PipeFault}
use Rattle.thes_base.specs.declared.fault.PipeFault.TheVariants.{Read, Write, TooLong}
use Rattle.thes_base.specs.declared.pipe.Stop.{Stop}
use Rattle.thes_base.specs.declared.pipe.Stop.TheVariants as stops
use Rattle.thes_base.specs.declared.pipe.Pipe.{Pipe}

-- The reader or writer that the pipe uses.
abbrev pub device_of : {T : Type 0} → Pipe T → T
device_of p = p.device

-- Whether a read or a write of the device has failed.
abbrev pub failed_of : {T : Type 0} → Pipe T → Bool
failed_of p = p.failed

-- Whether a read has reached the end of the input.
abbrev pub ended_of : {T : Type 0} → Pipe T → Bool
ended_of p = p.ended

-- Whether a read or write was denied because no budget was left.
abbrev pub denied_of : {T : Type 0} → Pipe T → Bool
denied_of p = p.denied

-- The pipe's record is fresh: its device hasn't failed or ended, and nothing was denied.
abbrev pub IsFresh : {T : Type 0} → Pipe T → Type 0
IsFresh p = (failed_of p ≡ false) × (ended_of p ≡ false) × (denied_of p ≡ false)

-- The number of reads and writes made on the device, which saturates at 2 ^ 64 - 1.
abbrev pub calls_of : {T : Type 0} → Pipe T → ℕ
calls_of p = p.calls

-- The number of calls after `more` further ones, saturating at 2 ^ 64 - 1.
abbrev pub calls_after : ℕ → ℕ → ℕ
calls_after calls more = calls + min more (2 ^ 64 - 1 - calls)

-- The greatest number of reads and writes that one call, for example the run of a script, may make on all its pipes.
abbrev pub calls_limit : ℕ
calls_limit = 100000000

-- The budget fell, from `before` to `after`, by exactly the number of reads and writes that the pipe made.
pub record PaysCalls {T : Type 0} (old new : Pipe T) (before after : ℕ) : Type 0 where
  pub fell : after ≤ before
  pub calls : calls_of new ≡ calls_after (calls_of old) (before - after)

-- A call that used only this pipe stayed within the limit.
pub record KeepsCallLimit {T : Type 0} (old new : Pipe T) : Type 0 where
  pub calls : ℕ
  pub within : calls ≤ calls_limit
  pub counts : calls_of new ≡ calls_after (calls_of old) calls

-- A call that used a reader and a writer stayed within the limit on the sum of reads and writes.
pub record KeepsSharedCallLimit {R W : Type 0} (reader reader' : Pipe R) (writer writer' : Pipe W) : Type 0 where
  pub reads : ℕ
  pub writes : ℕ
  pub within : reads + writes ≤ calls_limit
  pub read : calls_of reader' ≡ calls_after (calls_of reader) reads
  pub wrote : calls_of writer' ≡ calls_after (calls_of writer) writes

-- The bytes that the reader has left to read, if they are known.
abbrev pub unread_bytes : {R : Type 0} → (R → Option Bytes) → Pipe R → Option Bytes
unread_bytes remaining p = remaining (device_of p)

-- The bytes that the writer has received, if they are known.
abbrev pub written_bytes : {W : Type 0} → (W → Option Bytes) → Pipe W → Option Bytes
written_bytes contents p = contents (device_of p)

-- A prefix of the bytes was written, perhaps none or all of them.
pub record AppendsPrefix (old new : Option Bytes) (bytes : Bytes) : Type 0 where
  pub count : ℕ
  pub within : count ≤ length bytes
  pub front : Appends old new (take count bytes)

-- The fault to report if a reader stopped for the reason.
abbrev pub reading_fault : Stop → PipeFault
reading_fault stops.Failed = Read
reading_fault stops.TooLong = TooLong

-- The fault to report if a writer stopped for the reason.
abbrev pub writing_fault : Stop → PipeFault
writing_fault stops.Failed = Write
writing_fault stops.TooLong = TooLong

-- A prefix of the text was written, perhaps none or all of it, before the device failed (fault Write) or the budget was
-- used up (TooLong).
abbrev pub IsPartialWrite : {W : Type 0} → (W → Option Bytes) → Bytes → Pipe W → Pipe W → PipeFault → Type 0
IsPartialWrite contents text old new Write =
    IsTrue (failed_of new) × AppendsPrefix (written_bytes contents old) (written_bytes contents new) text
IsPartialWrite contents text old new TooLong =
    IsTrue (denied_of new) × AppendsPrefix (written_bytes contents old) (written_bytes contents new) text
IsPartialWrite contents text old new _ = ⊥
