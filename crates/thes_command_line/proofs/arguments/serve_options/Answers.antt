use Rattle.std.proofs.Common.{◌∙◌, sym, codes, arith}
use Rattle.std.specs.Str.Parse.{ExplainsUnsignedError, HasUnsignedDigitsIfOk, ParsesUnsigned}
use Rattle.clap.specs.Values.{IsUnsignedIn}
use Rattle.clap.specs.Words.{first_of, found_of, rows_of}
use Rattle.thes_command_line.proofs.ReadingLemmas.{default_from_one, from_one, has_number, if_some_of, is_some_of}
use Rattle.thes_command_line.proofs.ReadingLemmas.{number_read, or_default}
use Rattle.thes_command_line.specs.CommandLine.{default_count}
use Rattle.thes_command_line.proofs.arguments.serve_options.Goals as goal

pub unwrap-requires : goal.unwrap-requires
unwrap-requires c =
    let text = first_of (codes "port") (rows_of (found_of c.args.arguments.now)) in
    let port = number_read _ (λ t x. ParsesUnsigned 16 10 t x × ExplainsUnsignedError 10 t x × HasUnsignedDigitsIfOk t
    x) 16 65535 (found_of c.args.arguments.now) (codes "port") c.get_one.result (omega arith)
    c.get_one.ensures.none c.get_one.ensures.value (λ t x g. g.0) c.requires.as_written.0
    (if_some_of text (IsUnsignedIn 1 65535) c.requires.port) in
    has_number text c.get_one.result port (is_some_of text (IsUnsignedIn 1 65535) c.requires.port)

-- The port and the number of connections are the numbers that `clap` read.
pub returns : goal.returns
returns c =
    let text = first_of (codes "port") (rows_of (found_of c.args.arguments.now)) in
    let count_text = first_of (codes "count") (rows_of (found_of c.args.arguments.now)) in
    let port = number_read _ (λ t x. ParsesUnsigned 16 10 t x × ExplainsUnsignedError 10 t x × HasUnsignedDigitsIfOk t
    x) 16 65535 (found_of c.args.arguments.now) (codes "port") c.get_one.result (omega arith)
    c.get_one.ensures.none c.get_one.ensures.value (λ t x g. g.0) c.requires.as_written.0
    (if_some_of text (IsUnsignedIn 1 65535) c.requires.port) in
    let count = number_read _ (λ t x. ParsesUnsigned 32 10 t x × ExplainsUnsignedError 10 t x × HasUnsignedDigitsIfOk
    t x) 32 4294967295 (found_of c.args.arguments.now) (codes "count") c.get_one-2.result (omega arith)
    c.get_one-2.ensures.none c.get_one-2.ensures.value (λ t x g. g.0) c.requires.as_written.1 c.requires.count in
    let port_is = sym port ∙ c.unwrap.ensures in
    let count_is = or_default count_text c.get_one-2.result default_count count ∙ sym c.unwrap_or.ensures in
    record {
      port = port_is;
      count = count_is;
      from_one = (
        from_one text 65535 c.unwrap.result c.requires.port port_is,
        default_from_one count_text
            c.unwrap_or.result c.requires.count count_is,
      );
      plans = sym c.is_set.ensures;
    }
