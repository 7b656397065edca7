use Rattle.std.proofs.Common.{rules}
use Rattle.std.specs.Prelude.{codes}
use Rattle.thes_requests.specs.MemberReadings.{pair_of}
use Rattle.thes_requests.specs.Requests.{number_at, a_key, a_record}
use Rattle.thes_requests.proofs.MemberReadingLemmas.{reads_pair, gives_line3}
use Rattle.thes_requests.proofs.request.post_in.Goals as goal

pub returns-in_err-key : goal.returns-in_err-key
returns-in_err-key c =
    gives_line3 _ _ _ _ _ c.both.result _
    (rw c.both.ensures (reads_pair a_key (pair_of a_record (number_at (codes "concept"))) _ _ _
    c.read_text_member-2.ensures
    (rw c.both-place.ensures (reads_pair _ _ _ _ _ c.read_text_member.ensures c.number_at.ensures)))) (search rules)

pub returns : goal.returns
returns c =
    gives_line3 _ _ _ _ _ c.both.result _
    (rw c.both.ensures (reads_pair a_key (pair_of a_record (number_at (codes "concept"))) _ _ _
    c.read_text_member-2.ensures
    (rw c.both-place.ensures (reads_pair _ _ _ _ _ c.read_text_member.ensures c.number_at.ensures)))) (search rules)
