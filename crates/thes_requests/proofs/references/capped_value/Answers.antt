use Rattle.thes_requests.proofs.ReferenceLemmas.{capped_next}
use Rattle.thes_requests.proofs.references.capped_value.Goals as goal

pub loop-digit-preserved : goal.loop-digit-preserved
loop-digit-preserved c =
    capped_next c.args.digits.now c.loop-digit.digit-index c.loop-digit.value c.with_digit-value.result c.requires
    c.loop-digit-test.true c.loop-digit.invariant c.with_digit-value.ensures
