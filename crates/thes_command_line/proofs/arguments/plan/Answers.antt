use Rattle.std.proofs.Common.{rules, ◌≡◌, ◌∙◌, ap, sym, refl, subst, true, string_bytes, map, inr, List, []}
use Rattle.clap.specs.Words.{App, HasKind, HasMatchesOf, Text, fault_of, is_simple, is_simple_and_free}
use Rattle.clap.specs.declared.parser.matches.ArgMatches.{ArgMatches}
use Rattle.clap.proofs.OnLiterals.{clap_on_literals}
use Rattle.thes_command_line.specs.Commands.{program}
use Rattle.thes_command_line.specs.CommandLine.{HasCommand, HasLimits}
use Rattle.thes_command_line.proofs.CommandLineLemmas.{exits_for, plan_found}
use Rattle.thes_command_line.proofs.CompletingLemmas.{has_command}
use Rattle.thes_command_line.proofs.LimitLemmas.{has_limits}
use Rattle.thes_command_line.proofs.arguments.plan.Goals as goal

is_free : is_simple_and_free program ≡ true
unfolding clap_on_literals
is_free = refl

is_plain : is_simple program ≡ true
unfolding clap_on_literals
is_plain = refl

-- Arguments that `clap` accepts have no fault, and its matches are those that the definitions give for them.
matches_found : (app : App) (arguments : List Text) (m : ArgMatches) → app ≡ program
    → (is_simple_and_free app ≡ true → fault_of app arguments ≡ []) → HasMatchesOf app arguments m
    → (fault_of program arguments ≡ []) × HasMatchesOf program arguments m
matches_found app arguments m is_program none matches = (
  ap (λ (a : App). fault_of a arguments) (sym is_program) ∙ none (ap is_simple_and_free is_program ∙ is_free),
  subst (λ (a : App). HasMatchesOf a arguments m) is_program matches,
)

pub returns-in_err-program : goal.returns-in_err-program
returns-in_err-program c = inr (search rules)

pub matched_job-requires : goal.matched_job-requires
matched_job-requires c =
    let arguments = map string_bytes c.args.arguments.now in
    let found = matches_found _ arguments c.in-Ok.options c.in_ok-program.ensures c.in-Ok.ensures.kinds
    c.in-Ok.ensures.matches in
    record {
      command = subst HasCommand (sym (found.1 is_plain).1) (has_command arguments found.0);
      limits = subst HasLimits (sym (found.1 is_plain).0) (has_limits arguments found.0);
    }

pub returns-in-Ok : goal.returns-in-Ok
returns-in-Ok c =
    let arguments = map string_bytes c.args.arguments.now in
    let found = matches_found _ arguments c.in-Ok.options c.in_ok-program.ensures c.in-Ok.ensures.kinds
    c.in-Ok.ensures.matches in
    plan_found arguments c.in-Ok.options c.matched_job.result (found.1 is_plain) found.0 c.matched_job.ensures

pub returns-in-Err : goal.returns-in-Err
returns-in-Err c =
    let is_program = c.in_ok-program.ensures in
    inr (exits_for _ c.in-Err.error c.early_exit_of.result c.early_exit_of.ensures.memory c.early_exit_of.ensures.kind
    (subst (λ (a : App). HasKind (fault_of a (map string_bytes c.args.arguments.now)) c.in-Err.error) is_program
    (c.in-Err.ensures.kinds (ap is_simple_and_free is_program ∙ is_free))))
