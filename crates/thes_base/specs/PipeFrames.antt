-- The record of a pipe after a call that reads or writes, and the effects of a single read or write.
use Rattle.std.specs.Prelude.{◌≡◌, ◌≢◌, ◌⊎◌, ◌↔◌, ◌+◌, ◌<◌, ℕ, true, false, Option, Result, IsErrOf, IsTrue, IfErr, IfOk}
use Rattle.std.specs.Prelude.{OnErr, OnOk}
use Rattle.std.specs.Io.{ReadsAtMost, WritesAtMost}
use Rattle.std.specs.Io.KnownBytes.{ReadConsumes, WriteAppends}
use Rattle.std.specs.IoError.{error_kind}
use Rattle.std.specs.declared.io.Error.{Error}
use Rattle.std.specs.declared.io.ErrorKind.TheVariants.{Interrupted}
use Rattle.thes_base.specs.Types.{Bytes}
use Rattle.thes_base.specs.Pipe.{PaysCalls, calls_after, calls_of, denied_of, ended_of, failed_of}
use Rattle.thes_base.specs.Pipe.{unread_bytes, written_bytes}
use Rattle.thes_base.specs.declared.pipe.Pipe.{Pipe}
use Rattle.thes_base.specs.declared.pipe.Stop.{Stop}
use Rattle.thes_base.specs.declared.pipe.Stop.TheVariants.{Failed, TooLong}

-- The record after a single call of the device: the call was counted and not denied, and the budget fell by one.
pub record DeviceCallFrame {T : Type 0} (old new : Pipe T) (before after : ℕ) : Type 0 where
  pub denial : denied_of new ≡ denied_of old
  pub count : calls_of new ≡ calls_after (calls_of old) 1
  pub cost : after + 1 ≡ before

-- The record after any call that reads: the reader has failed exactly if the result is Failed, a denied read is
-- reported as TooLong, and the budget fell by the number of reads.
pub record ReadFrame {R T : Type 0} (old new : Pipe R) (before after : ℕ) (result : Result T Stop) : Type 0 where
  pub failure : IsErrOf result Failed ↔ (failed_of new ≡ true)
  pub denial : denied_of new ≡ true → IsErrOf result TooLong
  pub calls : PaysCalls old new before after

-- The record after any call that writes: the writer has failed exactly if the result is Failed, and the budget fell by
-- the number of writes. A write was denied exactly if one was before this call or the result is TooLong, which means
-- that the budget is used up.
pub record WriteFrame {W T : Type 0} (old new : Pipe W) (before after : ℕ) (result : Result T Stop) : Type 0 where
  pub end : ended_of new ≡ ended_of old
  pub failure : IsErrOf result Failed ↔ (failed_of new ≡ true)
  pub denial : IsTrue (denied_of new) ↔ (IsTrue (denied_of old) ⊎ IsErrOf result TooLong)
  pub too_long : IsErrOf result TooLong → after ≡ 0
  pub calls : PaysCalls old new before after

module _ {R : Type 0} (remaining : R → Option Bytes) (old new : Pipe R) where
  -- The effect of one call of a reader: it records the end exactly if it returned no byte, and a failure exactly if it
  -- returned an error other than Interrupted; what was recorded before stays.
  pub record ReadsOnce (buf : Bytes) (result : Result ℕ Error) : Type 0 where
    pub size : ReadsAtMost result buf
    pub bytes : ReadConsumes (unread_bytes remaining old) (unread_bytes remaining new) result buf
    pub end : IfOk result (λ n. IsTrue (ended_of new) ↔ (IsTrue (ended_of old) ⊎ (n ≡ 0)))
    pub no_end : OnErr result (ended_of new ≡ ended_of old)
    pub failure : IfErr result (λ e. IsTrue (failed_of new)
        ↔ (IsTrue (failed_of old) ⊎ (error_kind e ≢ Interrupted)))
    pub no_failure : OnOk result (failed_of new ≡ failed_of old)

  -- The effect of a read: at least one byte, or none at the end of the input, which is recorded. TooLong means that a
  -- read was denied, since the budget is used up.
  pub record ReadsBytes (before after : ℕ) (buf : Bytes) (result : Result ℕ Stop) : Type 0 where
    pub size : ReadsAtMost result buf
    pub bytes : ReadConsumes (unread_bytes remaining old) (unread_bytes remaining new) result buf
    pub end : IfOk result (λ n. IsTrue (ended_of new) ↔ (n ≡ 0))
    pub no_end : OnErr result (ended_of new ≡ false)
    pub too_long : IsErrOf result TooLong → (denied_of new ≡ true) × (after ≡ 0)
    pub cost : OnOk result (after < before)

module _ {W : Type 0} (contents : W → Option Bytes) (old new : Pipe W) where
  -- The effect of one call of a writer: a failure is recorded exactly if the call wrote no byte, or returned an error
  -- other than Interrupted.
  pub record WritesOnce (text : Bytes) (result : Result ℕ Error) : Type 0 where
    pub size : WritesAtMost result text
    pub bytes : WriteAppends (written_bytes contents old) (written_bytes contents new) result text
    pub stall : IfOk result (λ n. IsTrue (failed_of new) ↔ (IsTrue (failed_of old) ⊎ (n ≡ 0)))
    pub failure : IfErr result (λ e. IsTrue (failed_of new)
        ↔ (IsTrue (failed_of old) ⊎ (error_kind e ≢ Interrupted)))
    pub end : ended_of new ≡ ended_of old
