-- The standard streams of the program, as its commands find them.
use Rattle.std.specs.Prelude.{Result, Ok, Err}
use Rattle.thes_base.specs.Pipe.{IsFresh}
use Rattle.thes_command_line.specs.CommandLine.{NamesDisplay, command_of}
use Rattle.thes_command_line.specs.declared.early_exit.EarlyExit.{EarlyExit}
use Rattle.thes_command_line.specs.declared.arguments.Job.{Job}
use Rattle.thes_cli.specs.declared.streams.Streams.{Streams}

-- No stream has failed or ended, and none was denied a call.
pub record AreFresh {R W E : Type 0} (streams : Streams R W E) : Type 0 where
  pub input : IsFresh streams.input
  pub output : IsFresh streams.output
  pub errors : IsFresh streams.errors

-- The command line asks for a display.
abbrev pub AsksForDisplay : Result Job EarlyExit → Type 0
AsksForDisplay (Ok job) = NamesDisplay (command_of job.task)
AsksForDisplay (Err early_exit) = ⊥
