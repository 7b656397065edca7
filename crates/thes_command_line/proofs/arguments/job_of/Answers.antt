use Rattle.std.proofs.lemmas.Grind.{common_steps}
use Rattle.std.proofs.Common.{arith, ◌∙◌, ap, sym, subst, List, Some, ℕ}
use Rattle.std.specs.Prelude.{option_map}
use Rattle.clap.specs.Words.{found_of, rows_of}
use Rattle.thes_command_line.specs.CommandLine.{HasCommand}
use Rattle.thes_command_line.proofs.ReadingLemmas.{command_rows}
use Rattle.thes_command_line.proofs.CommandLineLemmas.{exit_of_unread}
use Rattle.thes_command_line.proofs.arguments.job_of.Goals as goal

pub returns-in-Err : goal.returns-in-Err
returns-in-Err c = grind (arith, common_steps, exit_of_unread)

pub task_of-requires : goal.task_of-requires
task_of-requires c =
    let command_is = sym (ap (option_map (λ p. p.0.now)) c.unwrap.ensures) ∙ c.subcommand.ensures.name in
    let reports = sym (ap (option_map (λ p. rows_of (found_of p.1.now))) c.unwrap.ensures)
    ∙ c.subcommand.ensures.rows in
    subst HasCommand (command_rows _ _ _ command_is reports) c.requires.command

pub returns-in-Ok-file_argument : goal.returns-in-Ok-file_argument
returns-in-Ok-file_argument c =
    let command_is = sym (ap (option_map (λ p. p.0.now)) c.unwrap.ensures) ∙ c.subcommand.ensures.name in
    let reports = sym (ap (option_map (λ p. rows_of (found_of p.1.now))) c.unwrap.ensures)
    ∙ c.subcommand.ensures.rows in
    let arguments = rows_of (found_of c.unwrap.result.1.now) in
    record {
      arguments = arguments;
      command_is = command_rows _ _ _ command_is reports ∙ ap (λ (name : List ℕ). Some (name, arguments))
          c.in_ok-task.ensures.0;
      task = c.in_ok-task.ensures.1;
      file = c.in-Ok-file_argument.ensures;
      base = c.in-Ok.ensures.1 ∙ c.base_argument.ensures;
      limits = c.limits_argument-limits.ensures;
      must_exist = c.is_set.ensures;
    }
