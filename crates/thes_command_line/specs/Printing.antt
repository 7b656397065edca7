-- The lines that the program prints, and the effects of printing them.
use Rattle.std.specs.Prelude.{◌≡◌, ◌⊎◌, ◌++◌, ℕ, Bool, true, MatchBool, Option, Some, None, codes}
use Rattle.std.specs.Io.KnownBytes.{Appends}
use Rattle.thes_base.specs.FaultNames.{form_code, pipe_text, refusal_code}
use Rattle.thes_base.specs.Pipe.{failed_of, denied_of, written_bytes, AppendsPrefix, IsFresh}
use Rattle.thes_base.specs.Types.{Bytes}
use Rattle.thes_base.specs.declared.fault.Fault.{Fault}
use Rattle.thes_base.specs.declared.fault.Fault.TheVariants.{Store}
use Rattle.thes_base.specs.declared.fault.FormFault.{FormFault}
use Rattle.thes_base.specs.declared.fault.PipeFault.{PipeFault}
use Rattle.thes_base.specs.declared.fault.PipeFault.TheVariants.{Read, Write}
use Rattle.thes_base.specs.declared.fault.PipeFault.TheVariants as faults
use Rattle.thes_base.specs.declared.fault.Refusal.{Refusal}
use Rattle.thes_base.specs.declared.pipe.Pipe.{Pipe}
use Rattle.thes_command_line.specs.Trouble.{words_of}
use Rattle.thes_command_line.specs.declared.start_failure.OpenFailure.{OpenFailure}
use Rattle.thes_command_line.specs.declared.start_failure.OpenFailure.TheVariants.{File, Socket, Connection}
use Rattle.thes_command_line.specs.declared.trouble.StoreTrouble.{StoreTrouble}

-- The line of a fault: `thesaurus: fault NAME`, with the table for `BadStore`.
abbrev pub fault_line : PipeFault → Bytes
fault_line fault = codes "thesaurus: fault " ++ pipe_text fault ++ codes "\n"

-- The line for a socket that can't be opened, or a connection that can't be accepted.
abbrev pub net_line : Bytes
net_line = codes "thesaurus: fault Net\n"

-- The lines for a server that may open too few files to serve a connection.
abbrev pub few_files_lines : Bytes
few_files_lines = codes "thesaurus: too few files may be open (ulimit -n)\nthesaurus: fault Net\n"

-- The line of a refusal: `thesaurus: NAME`.
abbrev pub refusal_line : Refusal → Bytes
refusal_line refusal = codes "thesaurus: " ++ (refusal_code refusal).name ++ codes "\n"

-- The line of a form fault: `thesaurus: NAME`.
abbrev pub form_line : FormFault → Bytes
form_line fault = codes "thesaurus: " ++ (form_code fault).name ++ codes "\n"

-- The reason to print with a fault of a store: the given one for Store, and None for any other fault.
abbrev pub trouble_of_fault : Fault → StoreTrouble → Option StoreTrouble
trouble_of_fault Store trouble = Some trouble
trouble_of_fault _ trouble = None

-- The end of the line that names the file of a store: the reason for its fault, if there is one, and a line feed.
abbrev pub file_end : Option StoreTrouble → Bytes
file_end None = codes "\n"
file_end (Some trouble) = codes ": " ++ words_of trouble ++ codes "\n"

-- The line that names the file of a store, with the reason for its fault, if there is one.
abbrev pub file_line : Bytes → Option StoreTrouble → Bytes
file_line file trouble = codes "thesaurus: store " ++ file ++ file_end trouble

-- The lines for a fault of the store in a file: the file's line, and then the fault's.
abbrev pub file_fault_lines : Bytes → StoreTrouble → Fault → Bytes
file_fault_lines file trouble fault = file_line file (trouble_of_fault fault trouble) ++ fault_line (faults.Fault fault)

-- The lines for a fault of a store; for a store in memory no line names a file.
abbrev pub fault_lines : Option Bytes → StoreTrouble → Fault → Bytes
fault_lines None trouble fault = fault_line (faults.Fault fault)
fault_lines (Some file) trouble fault = file_fault_lines file trouble fault

-- The line for a file or socket that couldn't be opened, or the two for a server that may open too few files.
abbrev pub open_failure_line : OpenFailure → Bytes
open_failure_line File = fault_line Read
open_failure_line Socket = net_line
open_failure_line Connection = few_files_lines

-- Neither standard output nor standard error has failed, and neither was denied a call.
pub record AreFreshOutputs {W E : Type 0} (out : Pipe W) (err : Pipe E) : Type 0 where
  pub output : IsFresh out
  pub errors : IsFresh err

-- Only a prefix of the text was written, since the writer failed or a write was denied.
abbrev pub PrintsPrefix : {W : Type 0} → (W → Option Bytes) → Pipe W → Pipe W → Bytes → Type 0
PrintsPrefix contents old new text =
    AppendsPrefix (written_bytes contents old) (written_bytes contents new) text
    × ((failed_of new ≡ true) ⊎ (denied_of new ≡ true))

-- The text was written, or a prefix of it if the writer failed or a write was denied.
abbrev pub Prints : {W : Type 0} → (W → Option Bytes) → Pipe W → Pipe W → Bytes → Type 0
Prints contents old new text =
    Appends (written_bytes contents old) (written_bytes contents new) text ⊎ PrintsPrefix contents old new text

-- The result is whether the text was written; if so, the writer is still fresh.
abbrev pub HasPrinted : {W : Type 0} → (W → Option Bytes) → Pipe W → Pipe W → Bytes → Bool → Type 0
HasPrinted contents old new text result =
    MatchBool result
    (Appends (written_bytes contents old) (written_bytes contents new) text × IsFresh new)
    (PrintsPrefix contents old new text)

-- A failure of standard output is a fault, which is printed to standard error.
module _ {W E : Type 0} (out : W → Option Bytes) (err : E → Option Bytes)
    (output output' : Pipe W) (errors errors' : Pipe E) where
  -- The text is written to standard output, with status 0; or its failure is printed to standard error, with status 3.
  abbrev pub PrintsText : Bytes → ℕ → Type 0
  PrintsText text status =
      (Appends (written_bytes out output) (written_bytes out output') text
      × (errors' ≡ errors) × (status ≡ 0))
      ⊎ (PrintsPrefix out output output' text × Prints err errors errors' (fault_line Write) × (status ≡ 3))

  -- The text is written to standard error, with this status, and standard output is unchanged.
  abbrev pub PrintsError : Bytes → ℕ → ℕ → Type 0
  PrintsError text code status =
      Prints err errors errors' text × (output' ≡ output) × (status ≡ code)
