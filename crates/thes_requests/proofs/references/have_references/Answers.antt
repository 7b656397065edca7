use Rattle.thes_requests.proofs.UnchangedLemmas.{members_unchanged}
use Rattle.thes_requests.proofs.references.have_references.Goals as goal

-- One more member has no reference.
pub loop-member-preserved : goal.loop-member-preserved
loop-member-preserved c = members_unchanged _ _ _ c.loop-member-test.true c.member-item.is c.loop-member.invariant
    (c.has_reference.ensures c.if-has_reference.false)
