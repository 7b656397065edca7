use Rattle.thes_command_line.proofs.commands.program_options.Goals as goal

-- The program has its options for a file, its base and those for its limits, added in order.
pub returns : goal.returns
returns c =
    let base = c.with_option-program.ensures _ _ c.file_options-program.ensures c.option.ensures.rule in
    let resources = c.with_option-program-2.ensures _ _ base c.limit.ensures.rule in
    let labels = c.with_option-program-3.ensures _ _ resources c.limit-2.ensures.rule in
    let links = c.with_option-program-4.ensures _ _ labels c.limit-3.ensures.rule in
    let postings = c.with_option-program-5.ensures _ _ links c.limit-4.ensures.rule in
    c.with_option.ensures _ _ postings c.limit-5.ensures.rule
