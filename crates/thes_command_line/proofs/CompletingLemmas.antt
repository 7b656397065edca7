-- Proves that arguments without faults name a command of the program and have its required arguments.
use Rattle.std.proofs.lemmas.Grind.{common_steps}
use Rattle.std.proofs.Common.{◌≡◌, ◌∙◌, ◌⊎◌, ap, sym, refl, inl, inr, ℕ, Bool, true, false, not, List, [], ◌∷◌, Option}
use Rattle.std.proofs.Common.{None, Some, length, arith, true≢false}
use Rattle.std.specs.Prelude.{IsSome, IfSome, is_some, find, codes}
use Rattle.std.specs.Str.{bytes_eq}
use Rattle.std.proofs.lemmas.Bool.{not-false, or_parts}
use Rattle.clap.specs.Values.{IsUnsignedIn, read_as}
use Rattle.clap.specs.Walk.{Row, Text, finished, first_of, nothing_held, one_of, rows_after, settled, walk, walk_from}
use Rattle.clap.specs.Words.{App, fault_of, subcommand_of}
use Rattle.clap.specs.Simple.{Shape, argument_words, built, entered, names_of}
use Rattle.clap.specs.Faults.{check_fault, defaults_fault, entered_fault, level_fault, settle_fault, walk_fault}
use Rattle.clap.specs.Takes.{is_given}
use Rattle.clap.specs.declared.builder.value_parser.Reading.{Reading}
use Rattle.clap.specs.declared.builder.value_parser.Reading.TheVariants.{AsWritten}
use Rattle.clap.specs.declared.builder.value_parser.ValueParser.TheVariants.{Unsigned}
use Rattle.clap.proofs.ValueTestLemmas.{accepts-Accepts}
use Rattle.thes_command_line.specs.Commands.{program}
use Rattle.thes_command_line.specs.CommandLine.{IsCompleteCommand, HasCommand, NamesDisplay, script, import, export}
use Rattle.thes_command_line.specs.CommandLine.{display, serve, check, migrate}
use Rattle.thes_command_line.proofs.ReadingLemmas.{if_some_of, some_and}
use Rattle.thes_command_line.proofs.ArgumentWalkLemmas.{AllFit, HasRowWith, both_none, found_given, found_or_none}
use Rattle.thes_command_line.proofs.ArgumentWalkLemmas.{level_fit, wanted_given}

-- The property that every row has.
abbrev Any : Text → Reading → Text → Type 0
Any id how v = Unit {0}

-- The property of the rows of a port and of a number of connections: the value, as written, is a number within its
-- bounds.
abbrev Numbers : Text → Reading → Text → Type 0
Numbers id how v = (id ≡ codes "port" → (how ≡ AsWritten) × IsUnsignedIn 1 65535 v)
    × (id ≡ codes "count" → (how ≡ AsWritten) × IsUnsignedIn 1 4294967295 v)

-- Arguments without faults for this command are complete.
abbrev IsCompleted : Shape → Type 0
IsCompleted s = (arguments : List Text) → level_fault s [] nothing_held arguments false [] ≡ []
    → IsCompleteCommand s.name (rows_after s.rules [] arguments)

abbrev AllCompleted : List Shape → Type 0
AllCompleted [] = Unit {0}
AllCompleted (s ∷ shapes) = IsCompleted s × AllCompleted shapes

-- Joins two facts, one about the first element of a list and one about the rest.
pub and_rest : {A B : Type 0} → A → B → A × B
and_rest a b = (a, b)

command_found : (p : Shape → Bool) (shapes : List Shape) (s : Shape) → AllCompleted shapes → find p shapes ≡ Some s
    → IsCompleted s
command_found p [] s all e = absurd (true≢false (ap (λ (o : Option Shape). is_some o) (sym e)))
command_found p (x ∷ shapes) s all e = grind (arith, common_steps, command_found p shapes s all.1)

given_some : (id : Text) (rows : List Row) → AllFit Any rows → is_given id rows ≡ true → IsSome (first_of id rows)
given_some id rows fit given = grind (arith, common_steps, found_given)

import_completes : IsCompleted (built Rattle.thes_command_line.specs.Commands.import).top
import_completes arguments none =
    let top = (built Rattle.thes_command_line.specs.Commands.import).top in
    let rows = rows_after top.rules [] arguments in
    let fit = level_fit Any top arguments (((refl, λ v e. tt), refl), ((tt, refl), tt)) none in
    let file = or_parts (not (is_given (codes "file") rows)) _ (wanted_given false false _ fit.1) in
    import refl (given_some (codes "file") rows fit.0 (not-false _ file.0))

display_completes : (name : Text) → NamesDisplay name
    → IsCompleted (built (Rattle.thes_command_line.specs.Commands.display name)).top
display_completes name is arguments none =
    let top = (built (Rattle.thes_command_line.specs.Commands.display name)).top in
    let rows = rows_after top.rules [] arguments in
    let fit = level_fit Any top arguments (((refl, λ v e. tt), refl), (((refl, λ v e. tt), refl), ((tt, refl), tt)))
    none in
    let scheme = or_parts (not (is_given (codes "scheme") rows)) _ (wanted_given false false _ fit.1) in
    let lang = or_parts (not (is_given (codes "lang") rows)) _ scheme.1 in
    display is (
      given_some (codes "scheme") rows fit.0 (not-false _ scheme.0),
      given_some (codes "lang") rows
          fit.0 (not-false _ lang.0),
    )

-- If a value is read as it was written, the text that is read as a number is the value.
pub as_written : (id : Text) (rows : List Row) (v : Text) (how : Reading) → first_of id rows ≡ Some v → one_of id rows
    ≡ Some (read_as how v) → how ≡ AsWritten
    → one_of id rows ≡ first_of id rows
as_written id rows v how first one is = one ∙ (ap (λ (h : Reading). Some (read_as h v)) is ∙ sym first)

count_found : (rows : List Row) → ((find (λ r. bytes_eq r.id (codes "count")) rows ≡ None)
    ⊎ HasRowWith Numbers (codes "count") rows)
    → IfSome (first_of (codes "count") rows) (IsUnsignedIn 1 4294967295)
    × (one_of (codes "count") rows ≡ first_of (codes "count") rows)
count_found rows h = grind (arith, common_steps, if_some_of, some_and, as_written)

four_or_five : (n m : ℕ) → n ≡ 4 → m ≡ 5 → n ≡ m → ⊥
four_or_five n m four five e = omega arith

other_names : codes "port" ≡ codes "count" → ⊥
other_names e = four_or_five 4 5 refl refl (ap (λ (t : List ℕ). length t) e)

plans_and_port : codes "plans" ≡ codes "port" → ⊥
plans_and_port e = four_or_five 4 5 refl refl (sym (ap (λ (t : List ℕ). length t) e))

plans_and_count : codes "plans" ≡ codes "count" → ⊥
plans_and_count e = true≢false (ap (λ (t : List ℕ). bytes_eq t (codes "plans")) e)

-- The command `serve` without faults has a port and, if one is given, a number of connections, within their bounds.
serve_completes : IsCompleted (built Rattle.thes_command_line.specs.Commands.serve).top
serve_completes arguments none =
    let top = (built Rattle.thes_command_line.specs.Commands.serve).top in
    let rows = rows_after top.rules [] arguments in
    let fit = level_fit Numbers top arguments
    (and_rest (
      (
        refl,
        λ v e. (
          λ same. (refl, accepts-Accepts false (Unsigned 1 65535) v e),
          λ same. absurd (other_names same),
        ),
      ),
      refl,
    )
    (and_rest (
      (
        refl,
        λ v e. (
          λ same. absurd (other_names (sym same)),
          λ same. (refl, accepts-Accepts false (Unsigned 1 4294967295) v e),
        ),
      ),
      refl,
    )
    (and_rest (
      (refl, codes "true", refl, (λ same. absurd (plans_and_port same), λ same. absurd (plans_and_count same))),
      (codes "false", [], refl, (λ same. absurd (plans_and_port same), λ same. absurd (plans_and_count same))),
    ) (and_rest (tt, refl) tt)))) none in
    let given = or_parts (not (is_given (codes "port") rows)) _ (wanted_given false false _ fit.1) in
    let found = found_given Numbers (codes "port") rows fit.0 (not-false _ given.0) in
    let port = found.4.0 refl in
    let count = count_found rows (found_or_none Numbers (codes "count") rows fit.0) in
    serve refl (record {
      port = some_and (first_of (codes "port") rows) found.0 (IsUnsignedIn 1 65535) found.2 port.1;
      count = count.0;
      as_written = (as_written (codes "port") rows found.0 found.1 found.2 found.3 port.0, count.1);
    })

commands_complete : AllCompleted (built program).subs
commands_complete = and_rest (λ arguments none. script refl) (and_rest import_completes
    (and_rest (λ arguments none. export refl) (and_rest (display_completes (codes "alphabetical") (inl refl))
    (and_rest (display_completes (codes "hierarchical") (inr refl)) (and_rest serve_completes
    (and_rest (λ arguments none. check refl) (and_rest (λ arguments none. migrate refl) tt)))))))

-- A program that requires a command has a fault if none is given.
wants_one : (rows : List Row) (b : Bool) → check_fault (built program).top rows b ≡ [] → b ≡ true
wants_one rows b e = grind (arith, common_steps)

entered_completes : (a : App) (stop : Option (Text × List Text)) → AllCompleted a.subs → is_some (entered a stop)
    ≡ true → entered_fault a stop ≡ []
    → HasCommand (entered a stop)
entered_completes a stop all some none = grind (arith, common_steps, true≢false, command_found)

-- Arguments without faults name a command, and include its required arguments.
pub has_command : (arguments : List Text) → fault_of program arguments ≡ []
    → HasCommand (subcommand_of program arguments)
has_command arguments none =
    let given = argument_words program arguments in
    let top = (built program).top in
    let met = walk top.rules (names_of (built program)) nothing_held given in
    let level = both_none (walk_fault top (names_of (built program)) (walk_from nothing_held) given) _ none in
    let below = both_none (entered_fault (built program) met.stopped) _ level.1 in
    let held = both_none (settle_fault top.rules top.args_override_self met.held) _ below.1 in
    let ends = both_none (defaults_fault (settled top.rules met.held).rows top.rules) _ held.1 in
    entered_completes (built program) met.stopped commands_complete
    (wants_one (finished top.rules met.held) (is_some (entered (built program) met.stopped)) ends.1) below.0
