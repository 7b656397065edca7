use Rattle.std.proofs.Common.{◌∙◌, sym, arith}
use Rattle.std.specs.Str.Parse.{ExplainsUnsignedError, HasUnsignedDigitsIfOk, ParsesUnsigned}
use Rattle.clap.specs.Words.{first_of, found_of, rows_of}
use Rattle.thes_command_line.proofs.ReadingLemmas.{number_read, or_default}
use Rattle.thes_command_line.proofs.arguments.limit.Goals as goal

pub returns : goal.returns
returns c =
    let text = first_of c.args.name.now (rows_of (found_of c.args.options.now)) in
    let number = number_read _ (λ t x. ParsesUnsigned 32 10 t x × ExplainsUnsignedError 10 t x × HasUnsignedDigitsIfOk t
    x) 32 4294967295 (found_of c.args.options.now) c.args.name.now c.get_one.result (omega arith)
    c.get_one.ensures.none c.get_one.ensures.value (λ t x g. g.0) c.requires.as_written c.requires.number in
    c.unwrap_or.ensures ∙ sym (or_default text c.get_one.result c.args.default number)
