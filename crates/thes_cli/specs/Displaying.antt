-- The commands `alphabetical` and `hierarchical`: a display of a scheme in a language.
use Rattle.std.specs.Prelude.{◌≡◌, ℕ, List, Option, Result, Ok, Err, MatchResult}
use Rattle.thes_base.specs.State.{State}
use Rattle.thes_base.specs.declared.fault.PipeFault.{PipeFault}
use Rattle.thes_base.specs.declared.pipe.Pipe.{Pipe}
use Rattle.thes_store.specs.Storage.{StorageView}
use Rattle.thes_office.specs.Office.{OfficeView}
use Rattle.thes_display.specs.DisplayWrites.{IsDisplay, IsDisplayWritten, IsDisplayStopped}
use Rattle.thes_display.specs.declared.writing.DisplayOutcome.{DisplayOutcome}
use Rattle.thes_display.specs.declared.writing.DisplayOutcome.TheVariants.{Written, No}
use Rattle.thes_requests.specs.declared.request.Display.{Display}
use Rattle.thes_command_line.specs.Printing.{Prints, fault_line, refusal_line}
use Rattle.thes_cli.specs.Writing.{WritesState}

-- The end of a display: status 0 if it was written; else the refusal or the fault is printed, and the status is 1 or 3.
abbrev pub EndsDisplay : {E : Type 0} → (E → Option (List ℕ)) → Pipe E → Pipe E → Result DisplayOutcome PipeFault → ℕ
    → Type 0
EndsDisplay err old new (Ok Written) status = (new ≡ old) × (status ≡ 0)
EndsDisplay err old new (Ok (No refusal)) status = Prints err old new (refusal_line refusal) × (status ≡ 1)
EndsDisplay err old new (Err fault) status = Prints err old new (fault_line fault) × (status ≡ 3)

module _ {W : Type 0} (out : W → Option (List ℕ)) (display : Display) (scheme : ℕ) (tag : List ℕ) where
  -- The display of a state was written or refused, or a prefix of it was written.
  abbrev pub WritesDisplayOf : State → Pipe W → Pipe W → Result DisplayOutcome PipeFault → Type 0
  WritesDisplayOf s output output' result =
      MatchResult result (IsDisplayWritten out s.resources scheme (IsDisplay display scheme tag s) output output')
      (IsDisplayStopped out (IsDisplay display scheme tag s) output output')

module _ {K W : Type 0} (view : K → StorageView) (out : W → Option (List ℕ))
    (display : Display) (scheme : ℕ) (tag : List ℕ) where
  -- The display of the state that the tables encode was written, refused or stopped, and the tables are unchanged.
  abbrev pub WritesDisplay : OfficeView K → Pipe W → Result DisplayOutcome PipeFault → OfficeView K → Pipe W → Type 0
  WritesDisplay old_office output result new_office output' =
      WritesState view (λ base. WritesDisplayOf out display scheme tag) old_office output result new_office output'

  -- The commands `alphabetical` and `hierarchical`: a display is written, refused or stopped, and the result determines
  -- the status.
  pub record DisplaysStore {E : Type 0} (err : E → Option (List ℕ))
      (old_office : OfficeView K) (output output' : Pipe W) (errors errors' : Pipe E) (status : ℕ)
      (new_office : OfficeView K) : Type 0 where
    pub result : Result DisplayOutcome PipeFault
    pub shows : WritesDisplay old_office output result new_office output'
    pub ends : EndsDisplay err errors errors' result status
