use Rattle.std.proofs.Common.{rules}
use Rattle.thes_requests.proofs.MemberReadingLemmas.{gives_line1}
use Rattle.thes_requests.proofs.request.outside_in.Goals as goal

pub returns-in_err-iri : goal.returns-in_err-iri
returns-in_err-iri c = gives_line1 _ _ _ _ _ c.read_text_member.ensures (search rules)

pub returns : goal.returns
returns c = gives_line1 _ _ _ _ _ c.read_text_member.ensures (search rules)
