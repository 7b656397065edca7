use Rattle.std.proofs.Common.{rules}
use Rattle.thes_requests.proofs.MemberReadingLemmas.{reads_pair, gives_line4}
use Rattle.thes_requests.proofs.request.split_in.Goals as goal

pub returns-in_err-source : goal.returns-in_err-source
returns-in_err-source c = gives_line4 _ _ _ _ _ _ c.both-members.result _
    (rw c.both-members.ensures (reads_pair _ _ _ _ _ c.number_and_text.ensures c.postings_at.ensures)) (search rules)

pub returns : goal.returns
returns c = gives_line4 _ _ _ _ _ _ c.both-members.result _
    (rw c.both-members.ensures (reads_pair _ _ _ _ _ c.number_and_text.ensures c.postings_at.ensures)) (search rules)
