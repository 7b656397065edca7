-- The job that the arguments of the command line describe.
use Rattle.std.specs.Prelude.{◌≡◌, ◌≢◌, ◌⊎◌, ◌≤◌, ℕ, List, [], Option, Some, IsSome, IfSome, IsSomeAnd, option_map}
use Rattle.std.specs.Prelude.{◌&&◌, not, is_some, unwrap_or, IsErrAnd, Result, Ok, Err, Bool, true, false}
use Rattle.std.specs.Prelude.{codes, string_bytes}
use Rattle.std.specs.Option.{option_map_or}
use Rattle.std.specs.Str.{bytes_eq}
use Rattle.std.specs.Str.Parse.{digits_value, without_leading_plus}
use Rattle.clap.specs.Values.{IsUnsignedIn}
use Rattle.clap.specs.Words.{Kinds, Row, Text, IsAmong, fault_of, first_of, matches_of, one_of, subcommand_of}
use Rattle.clap.specs.declared.error.kind.ErrorKind.{ErrorKind}
use Rattle.clap.specs.declared.error.kind.ErrorKind.TheVariants.{DisplayHelp, DisplayVersion}
use Rattle.thes_base.specs.declared.data.Limits.{Limits}
use Rattle.thes_base.specs.Forms.{IsBase, IsNumber, IsNumeral, IsTag, stored_text}
use Rattle.thes_base.specs.declared.fault.FormFault.{FormFault}
use Rattle.thes_base.specs.declared.fault.FormFault.TheVariants.{BadIri, BadNumber, BadTag}
use Rattle.thes_command_line.specs.Commands.{program}
use Rattle.thes_command_line.specs.EarlyExit.{IsUsageError}
use Rattle.thes_command_line.specs.declared.early_exit.EarlyExit.{EarlyExit}
use Rattle.thes_command_line.specs.declared.early_exit.EarlyExit.TheVariants.{Help, Usage, NotText, BadForm, OutOfMemory}
use Rattle.thes_command_line.specs.declared.arguments.Job.{Job}
use Rattle.thes_command_line.specs.declared.arguments.ServeOptions.{ServeOptions}
use Rattle.thes_command_line.specs.declared.arguments.DisplayOptions.{DisplayOptions}
use Rattle.thes_command_line.specs.declared.arguments.Task.{Task}
use Rattle.thes_command_line.specs.declared.arguments.Task.TheVariants.{Script, Import, Export, Alphabetical}
use Rattle.thes_command_line.specs.declared.arguments.Task.TheVariants.{Hierarchical}
use Rattle.thes_command_line.specs.declared.arguments.Task.TheVariants.{Serve, Check, Migrate}

-- The base of a new store if `--base` isn't given.
abbrev pub default_base : Text
default_base = codes "https://thesaurus.example/id/"

-- The base of a new store: the value of `--base`, or else the default.
abbrev pub base_in : List Row → Text
base_in options = unwrap_or (first_of (codes "base") options) default_base

-- The value of decimal digits, with or without a leading plus sign.
abbrev pub number_of : Text → ℕ
number_of text = digits_value 10 (without_leading_plus text)

-- The number of an option, or the default if the option isn't given.
abbrev pub number_of_option : Text → ℕ → List Row → ℕ
number_of_option name default options = option_map_or number_of (first_of name options) default

-- The limits of the store: the values of the options that are given, and defaults for the others.
abbrev pub limits_in : List Row → Limits
limits_in options = record {
  resources = number_of_option (codes "max-resources") 20000 options;
  labels = number_of_option (codes "max-labels") 200000 options;
  links = number_of_option (codes "max-links") 200000 options;
  postings = number_of_option (codes "max-postings") 100000 options;
  moves = number_of_option (codes "max-moves") 1000000 options;
}

-- Whether the flag is given: `clap` sets it to `true`, and one that isn't given to `false`.
abbrev pub is_set : Text → List Row → Bool
is_set name options = option_map_or (λ text. bytes_eq text (codes "true")) (first_of name options) false

-- The name of a task's command, as it is written on the command line.
abbrev pub command_of : Task → Text
command_of (Script options) = codes "script"
command_of (Import file) = codes "import"
command_of Export = codes "export"
command_of (Alphabetical shown) = codes "alphabetical"
command_of (Hierarchical shown) = codes "hierarchical"
command_of (Serve serving) = codes "serve"
command_of Check = codes "check"
command_of Migrate = codes "migrate"

-- The text is the decimal numeral of a number that a scheme can have.
abbrev pub SpellsNumber : Text → ℕ → Type 0
SpellsNumber text n = IsNumber n × IsNumeral text n

-- The number of connections to serve if `--count` isn't given.
abbrev pub default_count : ℕ
default_count = 4294967295

-- The port and the number of connections are those of the options `--port` and `--count`, and plans are taken if
-- `--plans` is given.
pub record IsServeOptions (arguments : List Row) (serving : ServeOptions) : Type 0 where
  pub port : option_map number_of (first_of (codes "port") arguments) ≡ Some serving.port
  pub count : number_of_option (codes "count") default_count arguments ≡ serving.count
  pub from_one : (1 ≤ serving.port) × (1 ≤ serving.count)
  pub plans : is_set (codes "plans") arguments ≡ serving.plans

-- The scheme is the number of `--scheme`, and the language is the tag of `--lang`.
pub record IsDisplayOptions (arguments : List Row) (shown : DisplayOptions) : Type 0 where
  pub scheme : IsSomeAnd (first_of (codes "scheme") arguments) (λ text. SpellsNumber text shown.scheme)
  pub lang : IsSomeAnd (first_of (codes "lang") arguments)
      (λ text. IsTag text × (shown.lang ≡ stored_text true text))

-- The arguments after the command describe this task.
abbrev pub SetsTask : List Row → Task → Type 0
SetsTask arguments (Script options) = is_set (codes "plans") arguments ≡ options.plans
SetsTask arguments (Import file) = first_of (codes "file") arguments ≡ Some (string_bytes file)
SetsTask arguments Export = Unit {0}
SetsTask arguments (Alphabetical shown) = IsDisplayOptions arguments shown
SetsTask arguments (Hierarchical shown) = IsDisplayOptions arguments shown
SetsTask arguments (Serve serving) = IsServeOptions arguments serving
SetsTask arguments Check = Unit {0}
SetsTask arguments Migrate = Unit {0}

-- The form fault of the first option of a display whose value lacks its form.
abbrev pub LacksForm : List Row → FormFault → Type 0
LacksForm arguments BadNumber =
    IsSomeAnd (first_of (codes "scheme") arguments) (λ text. (n : ℕ) → SpellsNumber text n → ⊥)
LacksForm arguments BadTag =
    IsSomeAnd (first_of (codes "scheme") arguments) (λ text. (n : ℕ) × SpellsNumber text n)
    × IsSomeAnd (first_of (codes "lang") arguments) (λ text. ¬ IsTag text)
LacksForm arguments _ = ⊥

-- The options of a display, or the reason for an early exit: a form fault, or running out of memory.
abbrev pub ReadsDisplayOptions : List Row → Result DisplayOptions EarlyExit → Type 0
ReadsDisplayOptions arguments (Ok shown) = IsDisplayOptions arguments shown
ReadsDisplayOptions arguments (Err (BadForm fault)) = LacksForm arguments fault
ReadsDisplayOptions arguments (Err OutOfMemory) = Unit {0}
ReadsDisplayOptions arguments (Err (Help text)) = ⊥
ReadsDisplayOptions arguments (Err (Usage text)) = ⊥
ReadsDisplayOptions arguments (Err NotText) = ⊥

-- The command is `alphabetical` or `hierarchical`.
abbrev pub NamesDisplay : Text → Type 0
NamesDisplay name = (name ≡ codes "alphabetical") ⊎ (name ≡ codes "hierarchical")

-- Whether a task imports a posting file.
abbrev pub is_import : Task → Bool
is_import (Import file) = true
is_import _ = false

-- The task of a command with its arguments, or the reason for an early exit: a form fault, or running out of memory.
abbrev pub PlansTask : Text → List Row → Result Task EarlyExit → Type 0
PlansTask name arguments (Ok task) = (name ≡ command_of task) × SetsTask arguments task
PlansTask name arguments (Err (BadForm fault)) = NamesDisplay name × LacksForm arguments fault
PlansTask name arguments (Err OutOfMemory) = Unit {0}
PlansTask name arguments (Err (Help text)) = ⊥
PlansTask name arguments (Err (Usage text)) = ⊥
PlansTask name arguments (Err NotText) = ⊥

-- The command and its arguments determine the task, and the options before the command determine
-- the store: its file, base and limits, and whether it must exist.
pub record IsJob (options : List Row) (command : Option (Text × List Row)) (job : Job) : Type 0 where
  pub arguments : List Row
  pub command_is : command ≡ Some (command_of job.task, arguments)
  pub task : SetsTask arguments job.task
  pub file : option_map string_bytes job.file ≡ first_of (codes "db") options
  pub base : job.setting.base ≡ base_in options
  pub limits : job.setting.limits ≡ limits_in options
  pub must_exist : job.setting.must_exist ≡ is_set (codes "existing") options

-- The fault is that of the base, or, if the base has its form, that of a display's option.
abbrev pub HasFault : List Row → Option (Text × List Row) → FormFault → Type 0
HasFault options command fault =
    ((fault ≡ BadIri) × ¬ IsBase (base_in options))
    ⊎ (IsBase (base_in options) × IsSomeAnd command (λ c. NamesDisplay c.0 × LacksForm c.1 fault))

-- The job that the options and the command describe, the first form fault, or running out of memory.
abbrev pub ReadsJob : List Row → Option (Text × List Row) → Result Job EarlyExit → Type 0
ReadsJob options command (Ok job) = IsJob options command job
ReadsJob options command (Err (BadForm fault)) = HasFault options command fault
ReadsJob options command (Err OutOfMemory) = Unit {0}
ReadsJob options command (Err (Help text)) = ⊥
ReadsJob options command (Err (Usage text)) = ⊥
ReadsJob options command (Err NotText) = ⊥

-- Whether a store must exist that isn't in a file.
abbrev pub lacks_file : List Row → Bool
lacks_file options = is_set (codes "existing") options && not (is_some (first_of (codes "db") options))

-- The result if `clap` finds no fault: a usage error if a store must exist that isn't in a file; otherwise the job or
-- the first form fault.
abbrev pub MatchedPlanResult : List Row → Option (Text × List Row) → Result Job EarlyExit → Type 0
MatchedPlanResult options command result =
    ((lacks_file options ≡ true) × IsErrAnd result IsUsageError)
    ⊎ ((lacks_file options ≡ false) × ReadsJob options command result)

-- The early exit for a kind of error from `clap`: help, version, usage error, or running out of memory.
abbrev pub ExitsFor : ErrorKind → EarlyExit → Type 0
ExitsFor kind (Help text) = (kind ≡ DisplayHelp) ⊎ (kind ≡ DisplayVersion)
ExitsFor kind (Usage text) = (kind ≢ DisplayHelp) × (kind ≢ DisplayVersion)
ExitsFor kind NotText = ⊥
ExitsFor kind (BadForm fault) = ⊥
ExitsFor kind OutOfMemory = Unit {0}

-- The early exit for one of the errors that `clap` found, or for running out of memory.
abbrev pub RefusesArguments : Kinds → Result Job EarlyExit → Type 0
RefusesArguments kinds (Ok job) = ⊥
RefusesArguments kinds (Err OutOfMemory) = Unit {0}
RefusesArguments kinds (Err early_exit) = (kind : ErrorKind) × IsAmong kind kinds × ExitsFor kind early_exit

-- The result for a command line: an early exit for an error that `clap` finds; if it finds none,
-- the job or the first form fault. Running out of memory may replace each of these.
abbrev pub PlanResult : List Text → Result Job EarlyExit → Type 0
PlanResult arguments result =
    ((fault_of program arguments ≡ []) × MatchedPlanResult (matches_of program arguments)
    (subcommand_of program arguments) result)
    ⊎ RefusesArguments (fault_of program arguments) result

-- The port is from 1 to 65,535, and the number of connections, if it is given, is at least 1; `clap` reads both as they
-- are written.
pub record HasPort (arguments : List Row) : Type 0 where
  pub port : IsSomeAnd (first_of (codes "port") arguments) (IsUnsignedIn 1 65535)
  pub count : IfSome (first_of (codes "count") arguments) (IsUnsignedIn 1 4294967295)
  pub as_written : (one_of (codes "port") arguments ≡ first_of (codes "port") arguments)
      × (one_of (codes "count") arguments ≡ first_of (codes "count") arguments)

-- The number of this option, if it is given, is from 1 to 2³² - 1, and `clap` reads it as it is written.
pub record HasLimit (name : Text) (options : List Row) : Type 0 where
  pub number : IfSome (first_of name options) (IsUnsignedIn 1 4294967295)
  pub as_written : one_of name options ≡ first_of name options

-- The number of each limit that is given is from 1 to 2³² - 1.
pub record HasLimits (options : List Row) : Type 0 where
  pub resources : HasLimit (codes "max-resources") options
  pub labels : HasLimit (codes "max-labels") options
  pub links : HasLimit (codes "max-links") options
  pub postings : HasLimit (codes "max-postings") options
  pub moves : HasLimit (codes "max-moves") options

-- Both options of a display are given.
abbrev pub HasOptions : List Row → Type 0
HasOptions arguments = IsSome (first_of (codes "scheme") arguments) × IsSome (first_of (codes "lang") arguments)

-- The command is one of the program's, and all of its required arguments are given.
pub data IsCompleteCommand (name : Text) (arguments : List Row) : Type 0 where
  script : name ≡ codes "script" → IsCompleteCommand name arguments
  import : name ≡ codes "import" → IsSome (first_of (codes "file") arguments) → IsCompleteCommand name arguments
  export : name ≡ codes "export" → IsCompleteCommand name arguments
  display : NamesDisplay name → HasOptions arguments → IsCompleteCommand name arguments
  serve : name ≡ codes "serve" → HasPort arguments → IsCompleteCommand name arguments
  check : name ≡ codes "check" → IsCompleteCommand name arguments
  migrate : name ≡ codes "migrate" → IsCompleteCommand name arguments

-- A command is given, with all of its required arguments.
abbrev pub HasCommand : Option (Text × List Row) → Type 0
HasCommand command = IsSomeAnd command (λ c. IsCompleteCommand c.0 c.1)
