-- The command `script`: the answers to a script over the store.
use Rattle.std.specs.Prelude.{◌≡◌, if◌then◌else◌, ℕ, Bool, List, Option, Some, None, MatchOption, option_map}
use Rattle.std.specs.Prelude.{Result, Ok, Err}
use Rattle.thes_base.specs.Pipe.{KeepsSharedCallLimit}
use Rattle.thes_base.specs.declared.fault.PipeFault.{PipeFault}
use Rattle.thes_base.specs.declared.fault.PipeFault.TheVariants as faults
use Rattle.thes_base.specs.declared.pipe.Pipe.{Pipe}
use Rattle.thes_store.specs.Storage.{StorageView}
use Rattle.thes_office.specs.Office.{OfficeView}
use Rattle.thes_requests.specs.Script.{session, EndsScript}
use Rattle.thes_requests.specs.declared.script.ScriptEnd.{ScriptEnd}
use Rattle.thes_service.specs.OfficeRequests.{OfficeServes, is_always_open, IsReachedByRun}
use Rattle.thes_command_line.specs.Printing.{Prints, fault_line}
use Rattle.thes_cli.specs.declared.streams.Streams.{Streams}

-- The fault that stopped the script, or else the last fault among its answers.
abbrev pub last_fault : Result ScriptEnd PipeFault → Option PipeFault
last_fault (Err fault) = Some fault
last_fault (Ok ended) = option_map faults.Fault ended.fault

-- The status: 3 for a fault, even after refusals; 1 for a refusal or a form fault; and else 0.
abbrev pub status_with : Option PipeFault → Bool → ℕ
status_with (Some fault) refused = 3
status_with None refused = if refused then 1 else 0

-- The status of a script: 3 after a fault, 1 after a refusal or a form fault, and else 0.
abbrev pub status_of : Result ScriptEnd PipeFault → ℕ
status_of (Err fault) = 3
status_of (Ok ended) = status_with (option_map faults.Fault ended.fault) ended.refused

-- The end of a script: its fault, if there was one, is printed, and the status is that of the
-- script.
abbrev pub ReportsScriptEnd : {E : Type 0} → (E → Option (List ℕ)) → Pipe E → Pipe E → Result ScriptEnd PipeFault → ℕ
    → Type 0
ReportsScriptEnd contents old new result status =
    MatchOption (last_fault result) (new ≡ old) (λ fault. Prints contents old new (fault_line fault))
    × (status ≡ status_of result)

module _ {K R W E : Type 0} (view : K → StorageView)
    (remaining : R → Option (List ℕ)) (out : W → Option (List ℕ)) (err : E → Option (List ℕ)) where
  -- The command `script`: the office, which takes plans or doesn't, answered the lines up to the end of the input or a
  -- fault, by a run of the machine, and the end of the script determines the status.
  pub record AnswersScript (takes : Bool) (old_office : OfficeView K) (old : Streams R W E) (status : ℕ)
      (new_office : OfficeView K) (new : Streams R W E) : Type 0 where
    pub result : Result ScriptEnd PipeFault
    pub script : EndsScript remaining out (OfficeServes view takes) is_always_open
        (session old.input old.output old_office) (session new.input new.output new_office) result
    pub reached : IsReachedByRun view old_office new_office
    pub calls : KeepsSharedCallLimit old.input new.input old.output new.output
    pub closes : ReportsScriptEnd err old.errors new.errors result status
