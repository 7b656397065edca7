-- Proves which values the getters of `clap` return, from the rows of its matches.
use Rattle.std.proofs.lemmas.Grind.{common_steps}
use Rattle.std.proofs.Common.{◌≡◌, ◌∙◌, ◌<◌, ◌≤◌, ◌^◌, ap, sym, subst, ℕ, List, Option, None, Some, Result, Err, arith}
use Rattle.std.proofs.Common.{true, true≢false, codes}
use Rattle.std.specs.Prelude.{Box, IsSome, IsSomeAnd, IfSome, option_map, unwrap_or}
use Rattle.std.specs.Option.{option_map_or}
use Rattle.std.specs.Borrow.{Bor}
use Rattle.std.specs.Box.{box_value}
use Rattle.std.specs.Str.Parse.{ParsesUnsigned}
use Rattle.clap.specs.Matches.{ReadsOne, one_text}
use Rattle.clap.specs.Values.{IsUnsignedIn}
use Rattle.clap.specs.Walk.{Row, Text, first_of, one_of, rows_of}
use Rattle.clap.specs.Simple.{subcommand_rows}
use Rattle.clap.proofs.WalkLemmas.{first_value-rows, one_text-rows}
use Rattle.clap.specs.declared.parser.matches.Found.{Found}
use Rattle.clap.specs.declared.parser.matches.SubCommand.{SubCommand}
use Rattle.clap.specs.declared.parser.matches.ArgMatches.TheViews.{out-SubCommand}
use Rattle.thes_base.specs.Forms.{IsTag, stored_text}
use Rattle.thes_base.specs.ReadResults.{IsReadResult, IsNumberReadResult}
use Rattle.thes_base.specs.declared.fault.FormFault.{FormFault}
use Rattle.thes_base.specs.declared.fault.FormFault.TheVariants.{BadTag}
use Rattle.thes_base.specs.declared.fault.ReadStop.{ReadStop}
use Rattle.thes_command_line.specs.CommandLine.{LacksForm, ReadsDisplayOptions, SpellsNumber, number_of, default_count}
use Rattle.thes_command_line.specs.EarlyExit.{exit_of_stop}

-- If an option has a value, its getter returns a text.
pub gives : (got : Option (Bor Text)) (o : Option Text) → option_map (λ s. s.now) got ≡ o → IsSome o → IsSome got
gives got o e some = grind (arith, common_steps, true≢false)

-- The text that the getter returns is the option's value.
pub gives_text : (got : Option (Bor Text)) (o : Option Text) (t : Bor Text) → option_map (λ s. s.now) got ≡ o → got
    ≡ Some t → o ≡ Some t.now
gives_text got o t e is = sym e ∙ ap (option_map (λ (s : Bor Text). s.now)) is

pub some_and : (o : Option Text) (t : Text) (P : Text → Type 0) → o ≡ Some t → P t → IsSomeAnd o P
some_and o t P e p = subst (λ (x : Option Text). IsSomeAnd x P) (sym e) p

pub is_some_of : (o : Option Text) (P : Text → Type 0) → IsSomeAnd o P → IsSome o
is_some_of o P h = grind (arith, common_steps)

pub if_some_of : (o : Option Text) (P : Text → Type 0) → IsSomeAnd o P → IfSome o P
if_some_of o P h = grind (arith, common_steps)

-- A text that passed the parser is read as the number that it spells.
read_as_number : (E : Type 0) (G : Text → Result ℕ E → Type 0) (k high : ℕ) (t : Text) (r : Option ℕ) → high < 2 ^ k
    → ReadsOne G t r
    → ((u : Text) (x : Result ℕ E) → G u x → ParsesUnsigned k 10 u x) → IsUnsignedIn 1 high t → r ≡ Some (number_of t)
read_as_number E G k high t r fits read only passed = grind (arith, common_steps)

-- The number of an option is that of its value, if it has one.
pub number_read : (E : Type 0) (G : Text → Result ℕ E → Type 0) (k high : ℕ) (f : Found) (id : Text) (r : Option ℕ)
    → high < 2 ^ k
    → (one_text f id ≡ None → r ≡ None) → ((t : Text) → one_text f id ≡ Some t → ReadsOne G t r)
    → ((u : Text) (x : Result ℕ E) → G u x → ParsesUnsigned k 10 u x)
    → one_of id (rows_of f) ≡ first_of id (rows_of f) → IfSome (first_of id (rows_of f)) (IsUnsignedIn 1 high)
    → r ≡ option_map number_of (first_of id (rows_of f))
number_read E G k high f id r fits none value only same passed =
    go (first_of id (rows_of f)) (one_text-rows f id ∙ same) passed
  where
    go : (o : Option Text) → one_text f id ≡ o → IfSome o (IsUnsignedIn 1 high) → r ≡ option_map number_of o
    go None e p = none e
    go (Some t) e p = read_as_number E G k high t r fits (value t e) only p

pub has_number : (o : Option Text) (r : Option ℕ) → r ≡ option_map number_of o → IsSome o → IsSome r
has_number o r e some = grind (arith, common_steps, true≢false)

pub from_one : (o : Option Text) (high n : ℕ) → IsSomeAnd o (IsUnsignedIn 1 high) → option_map number_of o ≡ Some n
    → 1 ≤ n
from_one o high n p e = grind (arith, common_steps)

pub or_default : (o : Option Text) (r : Option ℕ) (default : ℕ) → r ≡ option_map number_of o → option_map_or number_of o
    default ≡ unwrap_or r default
or_default o r default e = grind (arith, common_steps)

pub default_from_one : (o : Option Text) (n : ℕ) → IfSome o (IsUnsignedIn 1 4294967295) → option_map_or number_of o
    default_count ≡ n → 1 ≤ n
default_from_one o n p e = grind (arith, common_steps)

pub no_scheme : (arguments : List Row) (text : Text) (fault : FormFault) → first_of (codes "scheme") arguments
    ≡ Some text → IsNumberReadResult text (Err fault) → LacksForm arguments fault
no_scheme arguments text fault e reports = grind (arith, common_steps, some_and)

pub no_lang : (arguments : List Row) (scheme lang : Text) (n : ℕ) (stop : ReadStop)
    → first_of (codes "scheme") arguments ≡ Some scheme → SpellsNumber scheme n
    → first_of (codes "lang") arguments ≡ Some lang → IsReadResult {T = List ℕ} (IsTag lang) BadTag
    (λ t. t ≡ stored_text true lang) (Err stop)
    → ReadsDisplayOptions arguments (Err (exit_of_stop stop))
no_lang arguments scheme lang n stop at spells tagged reports = grind (arith, common_steps, some_and)

pub command_rows : {Z : Type 0} (found : Option (Box SubCommand Z)) (name : Text) (arguments : List Row)
    → Some name ≡ option_map (λ b. (out-SubCommand (box_value b)).name.now) found → Some arguments
    ≡ option_map (λ p. p.1) (subcommand_rows found)
    → subcommand_rows found ≡ Some (name, arguments)
command_rows found name arguments command_is reports = grind (arith, common_steps, true≢false)

-- The facts about what the getters return that the proofs of their callers use.
pub ruleset values_read = (common_steps, first_value-rows, gives_text)

pub ruleset display_values_read = (values_read, some_and, no_scheme, no_lang)
