-- The options and commands of the program, as rules for `clap`.
use Rattle.std.specs.Prelude.{ℕ, List, [], ◌∷◌, Some, true, codes, fold}
use Rattle.clap.specs.Simple.{on_top}
use Rattle.clap.specs.Words.{App, Rule, Text, new_app, new_rule, with_rule, with_subcommand}
use Rattle.clap.specs.declared.builder.action.ArgAction.TheVariants.{SetTrue}
use Rattle.clap.specs.declared.builder.value_parser.ValueParser.TheVariants.{Unsigned}

-- An option, written with two hyphens, that takes one value.
abbrev pub option : Text → Rule
option name = record (new_rule name) { long = Some name; value_names = 1 }

-- An option that takes a number from 1 to `most`.
abbrev pub number_option : Text → ℕ → Rule
number_option name most = record (option name) { parser = Some (Unsigned 1 most) }

-- A flag: an option without a value.
abbrev pub flag : Text → Rule
flag name = record (new_rule name) { long = Some name; action = Some SetTrue }

-- The rule for the same option or argument, but as a required one.
abbrev pub required_rule : Rule → Rule
required_rule rule = record rule { required = true }

-- The required argument that names a file.
abbrev pub required_file : Rule
required_file = required_rule (record (new_rule (codes "file")) { value_names = 1 })

-- A command without options of its own.
abbrev pub command : Text → App
command name = new_app name

-- The command `script`, with the flag for plans.
abbrev pub script : App
script = with_rule (command (codes "script")) (flag (codes "plans"))

-- The command `import`, with its required file.
abbrev pub import : App
import = with_rule (command (codes "import")) required_file

-- A command that prints a display, with the required options `--scheme` and `--lang`.
abbrev pub display : Text → App
display name =
    with_rule (with_rule (command name) (required_rule (option (codes "scheme"))))
    (required_rule (option (codes "lang")))

-- The command `serve`, with its required port, its number of connections, and the flag for plans.
abbrev pub serve : App
serve =
    with_rule
    (with_rule (with_rule (command (codes "serve")) (required_rule (number_option (codes "port") 65535)))
    (number_option (codes "count") 4294967295))
    (flag (codes "plans"))

-- An option for a limit of the store, a number from 1 to 2³² - 1.
abbrev pub limit : Text → Rule
limit name = number_option name 4294967295

-- The program without its other options and its commands: the options `--db` and `--existing`, a version, and a
-- required command.
abbrev pub file_options : App
file_options =
    with_rule
    (with_rule
    (on_top (λ s. record s { disable_help_subcommand = true; subcommand_required = true; has_version = true })
    (new_app (codes "thesaurus")))
    (option (codes "db")))
    (flag (codes "existing"))

-- The program with all its options, without its commands.
abbrev pub program_options : App
program_options =
    with_rule
    (with_rule
    (with_rule
    (with_rule
    (with_rule
    (with_rule file_options
    (option (codes "base")))
    (limit (codes "max-resources")))
    (limit (codes "max-labels")))
    (limit (codes "max-links")))
    (limit (codes "max-postings")))
    (limit (codes "max-moves"))

-- The eight commands, in the order of the help.
abbrev pub commands : List App
commands =
    script ∷ import ∷ command (codes "export") ∷ display (codes "alphabetical")
    ∷ display (codes "hierarchical") ∷ serve ∷ command (codes "check") ∷ command (codes "migrate") ∷ []

-- The program with its options and its commands.
abbrev pub program : App
program = fold (λ app (c : App). with_subcommand app c.top) program_options commands
