use Rattle.std.proofs.Common.{rules}
use Rattle.std.specs.Prelude.{codes}
use Rattle.thes_requests.specs.MemberReadings.{pair_of, a_label_value}
use Rattle.thes_requests.specs.Requests.{number_at, a_tag}
use Rattle.thes_requests.proofs.MemberReadingLemmas.{reads_pair, gives_label}
use Rattle.thes_requests.proofs.request.label_in.Goals as goal

pub returns-in_err-owner : goal.returns-in_err-owner
returns-in_err-owner c =
    gives_label _ c.both.result _
    (rw c.both.ensures (reads_pair (number_at (codes "owner")) (pair_of a_tag a_label_value) _ _ _ c.number_at.ensures
    (rw c.both-label.ensures (reads_pair _ _ _ _ _ c.read_text_member.ensures c.label_value_at.ensures))))
    (search rules)

pub returns : goal.returns
returns c =
    gives_label _ c.both.result _
    (rw c.both.ensures (reads_pair (number_at (codes "owner")) (pair_of a_tag a_label_value) _ _ _ c.number_at.ensures
    (rw c.both-label.ensures (reads_pair _ _ _ _ _ c.read_text_member.ensures c.label_value_at.ensures))))
    (search rules)
