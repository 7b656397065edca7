-- Exports written to a pipe.
use Rattle.std.specs.Prelude.{◌≡◌, ℕ, List, Option, Result, OnOk, IfErr}
use Rattle.std.specs.Io.KnownBytes.{Appends}
use Rattle.thes_base.specs.declared.fault.Fault.TheVariants.{OutOfMemory}
use Rattle.thes_base.specs.declared.fault.PipeFault.{PipeFault}
use Rattle.thes_base.specs.declared.fault.PipeFault.TheVariants as pipe
use Rattle.thes_base.specs.declared.pipe.Pipe.{Pipe}
use Rattle.thes_base.specs.Pipe.{IsPartialWrite, KeepsCallLimit, written_bytes}
use Rattle.thes_base.specs.State.{State}
use Rattle.thes_core.specs.CoreView.{CoreView, IsViewOf}
use Rattle.thes_export.specs.Export.{IsExport, IsReadAs}

module _ {W : Type 0} (contents : W → Option (List ℕ)) (base : List ℕ) (s : State) where
  -- The whole export was written; the only reading of its text is the triples of the state.
  abbrev pub IsExportWritten : Pipe W → Pipe W → Type 0
  IsExportWritten old new =
      (text : List ℕ) × IsExport base s text × IsReadAs base s text
      × Appends (written_bytes contents old) (written_bytes contents new) text

  -- Only a prefix of the export was written, or nothing if memory ran out.
  abbrev pub IsExportStopped : Pipe W → Pipe W → PipeFault → Type 0
  IsExportStopped old new (pipe.Fault OutOfMemory) = new ≡ old
  IsExportStopped old new (pipe.Fault _) = ⊥
  IsExportStopped old new fault = (text : List ℕ) × IsExport base s text × IsPartialWrite contents text old new fault

-- The whole export was written, and the only reading of its text is the triples of the state; or, after a fault, only a
-- prefix of the export was written, or nothing if memory ran out. No more writes were made than one call may make.
pub record ExportResult {W : Type 0} (contents : W → Option (List ℕ)) (core : CoreView) (old new : Pipe W)
    (result : Result (Unit {0}) PipeFault) : Type 0 where
  pub text : (s : State) → IsViewOf core s → OnOk result (IsExportWritten contents core.setting.base s old new)
  pub fault : (s : State) → IsViewOf core s → IfErr result (IsExportStopped contents core.setting.base s old new)
  pub calls : KeepsCallLimit old new
