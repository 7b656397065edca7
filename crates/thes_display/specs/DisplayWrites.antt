-- Displays written to a pipe, and the reasons why one isn't.
use Rattle.std.specs.Prelude.{◌≡◌, ℕ, List, Option, Result, IfOk, IfErr}
use Rattle.std.specs.Io.KnownBytes.{Appends}
use Rattle.thes_base.specs.declared.data.Resource.{Resource}
use Rattle.thes_base.specs.declared.fault.Fault.TheVariants.{OutOfMemory}
use Rattle.thes_base.specs.declared.fault.PipeFault.{PipeFault}
use Rattle.thes_base.specs.declared.fault.PipeFault.TheVariants as pipe
use Rattle.thes_base.specs.declared.fault.Refusal.{Refusal}
use Rattle.thes_base.specs.declared.fault.Refusal.TheVariants as no
use Rattle.thes_base.specs.declared.pipe.Pipe.{Pipe}
use Rattle.thes_base.specs.Pipe.{IsPartialWrite, KeepsCallLimit, written_bytes}
use Rattle.thes_base.specs.Resources.{Exists, IsScheme}
use Rattle.thes_base.specs.State.{State}
use Rattle.thes_core.specs.CoreView.{CoreView, IsViewOf}
use Rattle.thes_requests.specs.declared.request.Display.{Display}
use Rattle.thes_requests.specs.declared.request.Display.TheVariants as which
use Rattle.thes_display.specs.Alphabetical.{IsAlphabetical}
use Rattle.thes_display.specs.Hierarchical.{IsHierarchicalDisplay}
use Rattle.thes_display.specs.declared.writing.DisplayOutcome.{DisplayOutcome}
use Rattle.thes_display.specs.declared.writing.DisplayOutcome.TheVariants.{Written, No}

-- The text is the scheme's display of this kind, in the language.
abbrev pub IsDisplay : Display → ℕ → List ℕ → State → List ℕ → Type 0
IsDisplay which.Alphabetical scheme tag s text = IsAlphabetical s scheme tag text
IsDisplay which.Hierarchical scheme tag s text = IsHierarchicalDisplay s scheme tag text

-- The number isn't a scheme's, and this is its refusal.
abbrev pub IsSchemeRefusal : List Resource → ℕ → Refusal → Type 0
IsSchemeRefusal resources n no.UnknownResource = Exists resources n → ⊥
IsSchemeRefusal resources n no.WrongKind = Exists resources n × (IsScheme resources n → ⊥)
IsSchemeRefusal resources n _ = ⊥

module _ {W : Type 0} (contents : W → Option (List ℕ)) where
  -- The whole display of the scheme was written; or the number was refused, and nothing was written.
  abbrev pub IsDisplayWritten : List Resource → ℕ → (List ℕ → Type 0) → Pipe W → Pipe W → DisplayOutcome → Type 0
  IsDisplayWritten resources scheme IsText old new Written = IsScheme resources scheme
      × ((text : List ℕ) × IsText text × Appends (written_bytes contents old) (written_bytes contents new) text)
  IsDisplayWritten resources scheme IsText old new (No refusal) = IsSchemeRefusal resources scheme refusal × (new ≡ old)

  -- Only a prefix of the display was written, or nothing if memory ran out.
  abbrev pub IsDisplayStopped : (List ℕ → Type 0) → Pipe W → Pipe W → PipeFault → Type 0
  IsDisplayStopped IsText old new (pipe.Fault OutOfMemory) = new ≡ old
  IsDisplayStopped IsText old new (pipe.Fault _) = ⊥
  IsDisplayStopped IsText old new fault = (text : List ℕ) × IsText text × IsPartialWrite contents text old new fault

-- The whole display of the scheme was written; or the number was refused, and nothing was written; or, after a fault,
-- only a prefix of the display was written, or nothing if memory ran out. The display is that of the state that the
-- core holds: `IsText s` is the property of its text. No more writes were made than one call may make.
pub record DisplayResult {W : Type 0} (contents : W → Option (List ℕ)) (core : CoreView) (scheme : ℕ)
    (IsText : State → List ℕ → Type 0) (old new : Pipe W) (result : Result DisplayOutcome PipeFault) : Type 0 where
  pub outcome : (s : State) → IsViewOf core s → IfOk result
      (IsDisplayWritten contents s.resources scheme (IsText s) old new)
  pub fault : (s : State) → IsViewOf core s → IfErr result (IsDisplayStopped contents (IsText s) old new)
  pub calls : KeepsCallLimit old new
