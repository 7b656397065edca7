use Rattle.std.proofs.Common.{rules}
use Rattle.thes_requests.proofs.MemberReadingLemmas.{reads_pair, gives_line2}
use Rattle.thes_requests.proofs.request.merge_in.Goals as goal

pub returns-in_err-source : goal.returns-in_err-source
returns-in_err-source c =
    gives_line2 _ _ _ _ c.both-ends.result _
    (rw c.both-ends.ensures (reads_pair _ _ _ _ _ c.number_at.ensures c.number_at-2.ensures)) (search rules)

pub returns : goal.returns
returns c =
    gives_line2 _ _ _ _ c.both-ends.result _
    (rw c.both-ends.ensures (reads_pair _ _ _ _ _ c.number_at.ensures c.number_at-2.ensures)) (search rules)
