use Rattle.std.proofs.Common.{arith, length, refl}
use Rattle.std.proofs.lemmas.Option.{slice_get_read}
use Rattle.thes_plans.proofs.ReferenceLemmas.{bad_at, good_all, good_more}
use Rattle.thes_plans.proofs.references.first_bad_reference.Goals as goal

pub returns-then-not-has_good_references : goal.returns-then-not-has_good_references
returns-then-not-has_good_references c =
    let at = slice_get_read c.args.plan.now (length c.args.plan.now) c.loop-index.index c.index-plan-index.result refl
    (omega arith) c.index-plan-index.is in
    bad_at c.args.plan.now c.loop-index.index c.index-plan-index.result at c.loop-index.invariant
    (λ good. let e = c.has_good_references.ensures.1 good in let f = c.if-not-has_good_references.true in cc)

pub loop-index-preserved : goal.loop-index-preserved
loop-index-preserved c =
    let at = slice_get_read c.args.plan.now (length c.args.plan.now) c.loop-index.index c.index-plan-index.result refl
    (omega arith) c.index-plan-index.is in
    good_more c.args.plan.now c.loop-index.index c.index-plan-index.result at
    (c.has_good_references.ensures.0 c.if-not-has_good_references.false)
    c.loop-index.invariant

pub returns : goal.returns
returns c = good_all c.args.plan.now c.loop-index.index (omega arith) c.loop-index.invariant
