use Rattle.thes_requests.specs.MemberReadings.{pair_of}
use Rattle.thes_requests.specs.Requests.{number_at, a_tag, a_text}
use Rattle.thes_requests.proofs.MemberReadingLemmas.{reads_pair}
use Rattle.thes_requests.proofs.request.number_and_text.Goals as goal

pub returns : goal.returns
returns c =
    rw c.both.ensures (reads_pair (number_at c.args.name.now) (pair_of a_tag a_text) _ _ _ c.number_at.ensures
    c.tag_and_text.ensures)
