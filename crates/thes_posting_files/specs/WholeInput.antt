-- The bytes of an input that is read to its end, within a limit of bytes, and the faults that prevent this.
use Rattle.std.specs.Prelude.{◌≡◌, ◌⊎◌, ◌≤◌, ◌<◌, ℕ, Bool, true, false, List, length, Option, Result, IfOk, IfErr, OnOk}
use Rattle.std.specs.Io.KnownBytes.{Consumes, IsAtEnd}
use Rattle.thes_base.specs.Pipe.{IsFresh, PaysCalls, denied_of, ended_of, failed_of, unread_bytes}
use Rattle.thes_base.specs.declared.fault.Fault.TheVariants.{OutOfMemory}
use Rattle.thes_base.specs.declared.fault.PipeFault.{PipeFault}
use Rattle.thes_base.specs.declared.fault.PipeFault.TheVariants.{Read, Write, TooLong, Fault}
use Rattle.thes_base.specs.declared.pipe.Pipe.{Pipe}

module _ {R : Type 0} (remaining : R → Option (List ℕ)) (limit : ℕ) (old new : Pipe R) where
  -- These bytes were read, and their number is within the limit.
  pub record HasReadBytes (bytes : List ℕ) : Type 0 where
    pub consumes : Consumes (unread_bytes remaining old) (unread_bytes remaining new) bytes
    pub in_limit : length bytes ≤ limit

  -- These bytes are the whole input, and the reader hasn't failed.
  pub record IsWhole (bytes : List ℕ) : Type 0 where
    pub read : HasReadBytes bytes
    pub at_end : IsAtEnd (unread_bytes remaining new)
    pub input_ended : ended_of new ≡ true
    pub not_failed : failed_of new ≡ false

  -- More bytes than the limit were read from the input.
  pub record GivesMore : Type 0 where
    pub bytes : List ℕ
    pub consumes : Consumes (unread_bytes remaining old) (unread_bytes remaining new) bytes
    pub over_limit : limit < length bytes

  -- The reason why an input wasn't read to its end: its reader failed, a read was denied, the input
  -- exceeds the limit, or memory ran out.
  abbrev pub IsInputFault : PipeFault → Type 0
  IsInputFault Read = failed_of new ≡ true
  IsInputFault Write = ⊥
  IsInputFault TooLong = (failed_of new ≡ false) × ((denied_of new ≡ true) ⊎ GivesMore)
  IsInputFault (Fault fault) = (failed_of new ≡ false) × (fault ≡ OutOfMemory)

-- The effect of the next read of an input, by which the bytes read so far change from `bytes` to `bytes'`: more of the
-- input was read; or `bytes'` is the whole input; or the input can't be read to its end. The budget falls by the number
-- of reads, which is at least one if the next read succeeds.
pub record ReadsNext {R : Type 0} (remaining : R → Option (List ℕ)) (limit : ℕ) (old new : Pipe R) (before after : ℕ)
    (bytes bytes' : List ℕ) (result : Result Bool PipeFault) : Type 0 where
  pub fresh : IfOk result (λ more. more ≡ true → IsFresh new)
  pub more : IfOk result (λ more. more ≡ true → (start : Pipe R) → HasReadBytes remaining limit start old bytes
      → HasReadBytes remaining limit start new bytes')
  pub end : IfOk result (λ more. more ≡ false → (start : Pipe R) → HasReadBytes remaining limit start old bytes
      → IsWhole remaining limit start new bytes')
  pub fault : IfErr result (λ fault. (start : Pipe R) → HasReadBytes remaining limit start old bytes
      → IsInputFault remaining limit start new fault)
  pub calls : PaysCalls old new before after
  pub cost : OnOk result (after < before)
