use Rattle.std.proofs.Common.{rules, length, ◌≤◌, ◌≡◌}
use Rattle.std.specs.Prelude.{unwrap_or}
use Rattle.thes_requests.proofs.LineBufferLemmas.{first_line}
use Rattle.thes_requests.proofs.line_buffer.line_length.Goals as goal

pub returns-clause-one : goal.returns-clause-one
returns-clause-one c =
    let within : c.min-most.result ≤ length c.args.bytes.now = search rules in
    let place : c.unwrap_or.result ≡ unwrap_or c.memchr.result c.min-most.result = search rules in
    rw place (first_line c.args.bytes.now c.min-most.result c.memchr.result within c.memchr.ensures)
