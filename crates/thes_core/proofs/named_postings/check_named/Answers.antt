use Rattle.std.proofs.Common.{arith}
use Rattle.thes_post.proofs.EachLemmas.{each_at}
use Rattle.thes_core.proofs.FactLemmas.{named_at, row_missing}
use Rattle.thes_core.proofs.NamedPostingLemmas.{checked_more}
use Rattle.thes_core.proofs.named_postings.check_named.Goals as goal

pub returns-in-None : goal.returns-in-None
returns-in-None c = grind (arith, each_at, named_at, row_missing)

pub loop-row-preserved : goal.loop-row-preserved
loop-row-preserved c = λ hs is.
    let i = c.loop-row.row-index in
    let next = checked_more hs c.args.source c.args.postings.now c.args.named_postings.now i c.row-item.result
    c.in-Some.row c.loop-row.withdrawn c.loop-row.elsewhere is c.loop-row-test.true c.row-item.is c.in-Some.is
    (c.loop-row.invariant hs is) in
    grind (arith, next)
