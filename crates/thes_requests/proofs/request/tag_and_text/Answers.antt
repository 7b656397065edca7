use Rattle.thes_requests.specs.Requests.{a_tag, a_text}
use Rattle.thes_requests.proofs.MemberReadingLemmas.{reads_pair}
use Rattle.thes_requests.proofs.request.tag_and_text.Goals as goal

pub returns : goal.returns
returns c = rw c.both.ensures (reads_pair a_tag a_text _ _ _ c.read_text_member.ensures c.read_text_member-2.ensures)
