use Rattle.std.proofs.Common.{Some, ap, ◌∙◌}
use Rattle.serde_json.specs.Read.{number_of}
use Rattle.thes_requests.proofs.NumeralLemmas.{number_of-digits}
use Rattle.thes_requests.proofs.numeral.number_of.Goals as goal

pub returns-in-Some : goal.returns-in-Some
returns-in-Some c =
    let bytes = c.as_bytes-bytes.result.now in
    let is = number_of-digits bytes c.in-Some.number c.in-Some.ensures.0 c.in-Some.ensures.1 in
    ap Some c.from.ensures ∙ is ∙ ap number_of c.as_bytes-bytes.ensures.value
