-- Proves that arguments without faults have a number from 1 in each option for a limit.
use Rattle.std.proofs.lemmas.Grind.{common_steps}
use Rattle.std.proofs.Common.{arith, ◌≡◌, ◌⊎◌, sym, refl, Bool, true, false, List, [], None, true≢false, ◌==◌}
use Rattle.std.specs.Prelude.{find, codes, slice_get}
use Rattle.std.specs.Option.{option_map_or}
use Rattle.std.specs.Str.{bytes_eq}
use Rattle.clap.specs.Values.{IsUnsignedIn}
use Rattle.clap.specs.Walk.{Row, Text, nothing_held, walk, walk_from}
use Rattle.clap.specs.Words.{fault_of, matches_of}
use Rattle.clap.specs.Simple.{argument_words, built, names_of}
use Rattle.clap.specs.Faults.{entered_fault, settle_fault, walk_fault}
use Rattle.clap.specs.declared.builder.value_parser.Reading.{Reading}
use Rattle.clap.specs.declared.builder.value_parser.Reading.TheVariants.{AsWritten}
use Rattle.clap.specs.declared.builder.value_parser.ValueParser.TheVariants.{Unsigned}
use Rattle.clap.proofs.ValueTestLemmas.{accepts-Accepts}
use Rattle.thes_command_line.specs.Commands.{program}
use Rattle.thes_command_line.specs.CommandLine.{HasLimit, HasLimits}
use Rattle.thes_command_line.proofs.ReadingLemmas.{if_some_of, some_and}
use Rattle.thes_command_line.proofs.ArgumentWalkLemmas.{HasRowWith, both_none, finished_fit, found_or_none}
use Rattle.thes_command_line.proofs.CompletingLemmas.{and_rest, as_written}

-- The options for limits are those of the program that begin with an `m`.
abbrev is_limit : Text → Bool
is_limit id = option_map_or (λ byte. byte == 109) (slice_get id 0) false

-- The property of a limit's row: its value, as written, is a number from 1 to 2³² - 1.
abbrev LimitNumbers : Text → Reading → Text → Type 0
LimitNumbers id how v = is_limit id ≡ true → (how ≡ AsWritten) × IsUnsignedIn 1 4294967295 v

limit_found : (name : Text) (rows : List Row) → is_limit name ≡ true
    → ((find (λ r. bytes_eq r.id name) rows ≡ None) ⊎ HasRowWith LimitNumbers name rows) → HasLimit name rows
limit_found name rows is h = grind (arith, common_steps, as_written, if_some_of, some_and)

-- Arguments without faults have a number from 1 in each option for a limit.
pub has_limits : (arguments : List Text) → fault_of program arguments ≡ []
    → HasLimits (matches_of program arguments)
has_limits arguments none =
    let given = argument_words program arguments in
    let top = (built program).top in
    let names = names_of (built program) in
    let met = walk top.rules names nothing_held given in
    let level = both_none (walk_fault top names (walk_from nothing_held) given) _ none in
    let below = both_none (entered_fault (built program) met.stopped) _ level.1 in
    let held = both_none (settle_fault top.rules top.args_override_self met.held) _ below.1 in
    let rows = matches_of program arguments in
    let fit = finished_fit LimitNumbers top names given
    (and_rest ((refl, λ v e same. absurd (true≢false (sym same))), refl)
    (and_rest (
      (refl, codes "true", refl, λ same. absurd (true≢false (sym same))),
      (codes "false", [], refl, λ same. absurd (true≢false (sym same))),
    )
    (and_rest ((refl, λ v e same. absurd (true≢false (sym same))), refl)
    (and_rest ((refl, λ v e same. (refl, accepts-Accepts false (Unsigned 1 4294967295) v e)), refl)
    (and_rest ((refl, λ v e same. (refl, accepts-Accepts false (Unsigned 1 4294967295) v e)), refl)
    (and_rest ((refl, λ v e same. (refl, accepts-Accepts false (Unsigned 1 4294967295) v e)), refl)
    (and_rest ((refl, λ v e same. (refl, accepts-Accepts false (Unsigned 1 4294967295) v e)), refl)
    (and_rest ((refl, λ v e same. (refl, accepts-Accepts false (Unsigned 1 4294967295) v e)), refl)
    (and_rest (tt, refl) (and_rest (tt, refl) tt))))))))))
    level.0 held.0 in
    record {
      resources = limit_found (codes "max-resources") rows refl
          (found_or_none LimitNumbers (codes "max-resources") rows fit);
      labels = limit_found (codes "max-labels") rows refl (found_or_none LimitNumbers (codes "max-labels") rows fit);
      links = limit_found (codes "max-links") rows refl (found_or_none LimitNumbers (codes "max-links") rows fit);
      postings = limit_found (codes "max-postings") rows refl (found_or_none LimitNumbers (codes "max-postings") rows
          fit);
      moves = limit_found (codes "max-moves") rows refl (found_or_none LimitNumbers (codes "max-moves") rows fit);
    }
