use Rattle.std.proofs.Common.{rules}
use Rattle.std.specs.Prelude.{codes}
use Rattle.thes_requests.specs.MemberReadings.{pair_of}
use Rattle.thes_requests.specs.Requests.{number_at, a_link_kind}
use Rattle.thes_requests.proofs.MemberReadingLemmas.{reads_pair, gives_line3}
use Rattle.thes_requests.proofs.request.link_in.Goals as goal

pub returns-in_err-kind : goal.returns-in_err-kind
returns-in_err-kind c =
    gives_line3 _ _ _ _ _ c.both.result _
    (rw c.both.ensures (reads_pair a_link_kind (pair_of (number_at (codes "a")) (number_at (codes "b"))) _ _ _
    c.link_kind_at.ensures (rw c.both-ends.ensures (reads_pair _ _ _ _ _ c.number_at.ensures c.number_at-2.ensures))))
    (search rules)

pub returns : goal.returns
returns c =
    gives_line3 _ _ _ _ _ c.both.result _
    (rw c.both.ensures (reads_pair a_link_kind (pair_of (number_at (codes "a")) (number_at (codes "b"))) _ _ _
    c.link_kind_at.ensures (rw c.both-ends.ensures (reads_pair _ _ _ _ _ c.number_at.ensures c.number_at-2.ensures))))
    (search rules)
