use Rattle.std.proofs.lemmas.Grind.{common_steps}
use Rattle.std.proofs.Common.{arith}
use Rattle.thes_store.proofs.AddedRowLemmas.{count_more, count_one, count_none}
use Rattle.thes_store.proofs.added_row.count_added.Goals as goal

pub loop-change-preserved : goal.loop-change-preserved
loop-change-preserved g c =
    let more = count_more g.T.AddedRow.added_row c.args.changes.now c.loop-change.change-index c.change-item.result
    c.loop-change-test.true c.change-item.is in
    grind (arith, common_steps, count_one, count_none)
