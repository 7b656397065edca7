-- Early exits: help, the version, and faults of the command line.
use Rattle.std.specs.Prelude.{ℕ, List, codes, Option, string_bytes}
use Rattle.std.specs.declared.io.ErrorKind.{ErrorKind}
use Rattle.std.specs.declared.io.ErrorKind.TheVariants as kinds
use Rattle.thes_base.specs.declared.fault.Fault.TheVariants as faults
use Rattle.thes_base.specs.declared.fault.ReadStop.{ReadStop}
use Rattle.thes_base.specs.declared.fault.ReadStop.TheVariants as stops
use Rattle.thes_base.specs.declared.fault.PipeFault.TheVariants.{Fault}
use Rattle.thes_base.specs.declared.pipe.Pipe.{Pipe}
use Rattle.thes_command_line.specs.Printing.{PrintsError, PrintsText, fault_line, form_line}
use Rattle.thes_command_line.specs.declared.early_exit.EarlyExit.{EarlyExit}
use Rattle.thes_command_line.specs.declared.early_exit.EarlyExit.TheVariants.{Help, Usage, NotText, BadForm, OutOfMemory}

-- The exit status: 0 for help and version, 2 for a fault of the command line, and 3 for running out
-- of memory.
abbrev pub exit_status : EarlyExit → ℕ
exit_status (Help text) = 0
exit_status (Usage text) = 2
exit_status NotText = 2
exit_status (BadForm fault) = 2
exit_status OutOfMemory = 3

-- The early exit is a usage error, or running out of memory.
abbrev pub IsUsageError : EarlyExit → Type 0
IsUsageError (Usage text) = Unit {0}
IsUsageError OutOfMemory = Unit {0}
IsUsageError _ = ⊥

-- The early exit for an error of reading the arguments.
abbrev pub exit_of_error : ErrorKind → EarlyExit
exit_of_error kinds.OutOfMemory = OutOfMemory
exit_of_error _ = NotText

-- The early exit for a value that couldn't be read: its form fault, or running out of memory.
abbrev pub exit_of_stop : ReadStop → EarlyExit
exit_of_stop (stops.Form fault) = BadForm fault
exit_of_stop stops.OutOfMemory = OutOfMemory

-- The line for an argument that isn't UTF-8.
abbrev pub not_text_line : List ℕ
not_text_line = codes "thesaurus: a word of the command line is not UTF-8\n"

-- Help and version are written to standard output, and all else to standard error.
module _ {W E : Type 0} (out : W → Option (List ℕ)) (err : E → Option (List ℕ))
    (output output' : Pipe W) (errors errors' : Pipe E) where
  abbrev pub ExitsEarly : EarlyExit → ℕ → Type 0
  ExitsEarly (Help text) status = PrintsText out err output output' errors errors' (string_bytes text) status
  ExitsEarly (Usage text) status = PrintsError out err output output' errors errors' (string_bytes text) 2 status
  ExitsEarly NotText status = PrintsError out err output output' errors errors' not_text_line 2 status
  ExitsEarly (BadForm fault) status = PrintsError out err output output' errors errors' (form_line fault) 2 status
  ExitsEarly OutOfMemory status = PrintsError out err output output' errors errors'
      (fault_line (Fault faults.OutOfMemory)) 3 status
