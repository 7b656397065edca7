use Rattle.thes_command_line.proofs.commands.program.Goals as goal

-- The program has its options and all its commands, added in order.
pub returns : goal.returns
returns c =
    let script = c.with_command-program.ensures _ _ c.program_options-program.ensures c.script.ensures.app in
    let import = c.with_command-program-2.ensures _ _ script c.import.ensures.app in
    let export = c.with_command-program-3.ensures _ _ import c.command-export.ensures.app in
    let alphabetical = c.with_command-program-4.ensures _ _ export c.display-alphabetical.ensures.app in
    let hierarchical = c.with_command-program-5.ensures _ _ alphabetical c.display-hierarchical.ensures.app in
    let serve = c.with_command-program-6.ensures _ _ hierarchical c.serve.ensures.app in
    let check = c.with_command-program-7.ensures _ _ serve c.command-check.ensures.app in
    c.with_command.ensures _ _ check c.command-migrate.ensures.app
