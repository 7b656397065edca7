-- Proves that the early exit or job computed from the matches is that of the arguments.
use Rattle.std.proofs.lemmas.Grind.{common_steps}
use Rattle.std.proofs.Common.{arith, ◌≡◌, List, [], ℕ}
use Rattle.std.specs.Prelude.{Option, Result, Err}
use Rattle.clap.specs.Walk.{Row, rows_of}
use Rattle.clap.specs.Words.{HasKind, Kinds, Text, fault_of, found_of, kind_of, matches_of, subcommand_of}
use Rattle.clap.specs.Words.{subcommand_rows_of}
use Rattle.clap.specs.declared.error.Error.{Error}
use Rattle.clap.specs.declared.parser.matches.ArgMatches.{ArgMatches}
use Rattle.clap.specs.declared.error.kind.ErrorKind.TheVariants as kinds
use Rattle.thes_base.specs.Forms.{IsBase}
use Rattle.thes_base.specs.ReadResults.{IsReadResult}
use Rattle.thes_base.specs.declared.fault.FormFault.TheVariants.{BadIri}
use Rattle.thes_base.specs.declared.fault.ReadStop.{ReadStop}
use Rattle.thes_command_line.specs.Commands.{program}
use Rattle.thes_command_line.specs.CommandLine.{base_in, ExitsFor, PlanResult, MatchedPlanResult, ReadsJob, RefusesArguments}
use Rattle.thes_command_line.specs.EarlyExit.{exit_of_stop}
use Rattle.thes_command_line.specs.declared.arguments.Job.{Job}
use Rattle.thes_command_line.specs.declared.early_exit.EarlyExit.{EarlyExit}
use Rattle.thes_command_line.specs.declared.early_exit.EarlyExit.TheVariants.{OutOfMemory}

pub exits_for : (found : Kinds) (e : Error) (early_exit : EarlyExit)
    → (kind_of e ≡ kinds.OutOfMemory → early_exit ≡ OutOfMemory) → ExitsFor (kind_of e) early_exit
    → HasKind found e → RefusesArguments found (Err early_exit)
exits_for found e early_exit memory reports fault = grind (arith, common_steps)

-- The job of the matches that `clap` found is the job of the arguments.
pub plan_found : (arguments : List Text) (m : ArgMatches) (result : Result Job EarlyExit)
    → (rows_of (found_of m) ≡ matches_of program arguments) × (subcommand_rows_of m ≡ subcommand_of program arguments)
    → fault_of program arguments ≡ [] → MatchedPlanResult (rows_of (found_of m)) (subcommand_rows_of m) result
    → PlanResult arguments result
plan_found arguments m result found none by = grind (arith, common_steps)

-- A base that lacks its form leads to the early exit for its form fault.
pub exit_of_unread : (options : List Row) (command : Option (Text × List Row)) (stop : ReadStop)
    → IsReadResult {T = List ℕ} (IsBase (base_in options)) BadIri (λ t. Unit {0}) (Err stop)
    → ReadsJob options command (Err (exit_of_stop stop))
exit_of_unread options command stop reports = grind (arith, common_steps)
