use Rattle.std.proofs.Common.{rules, map}
use Rattle.std.specs.Char.{to_ascii_lowercase}
use Rattle.httparse.specs.Spans.{header_bytes}
use Rattle.thes_http_request.proofs.FieldLemmas.{found_field}
use Rattle.thes_http_request.proofs.fields.has_field.Goals as goal

pub returns : goal.returns
returns c = found_field (map to_ascii_lowercase c.args.name.now) (header_bytes c.args.bytes.now) c.args.headers.now
    c.find_field.result c.is_some.result (search rules) c.find_field.ensures
