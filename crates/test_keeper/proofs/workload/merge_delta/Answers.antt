use Rattle.std.proofs.Common.{◌+◌, List, sym, subst}
use Rattle.thes_tables.specs.declared.change.Change.{Change}
use Rattle.thes_tables.specs.declared.rows.MoveRow.{MoveRow}
use Rattle.test_keeper.specs.PostedTables.{FitUpTo}
use Rattle.test_keeper.proofs.FitLemmas.{fit_next}
use Rattle.test_keeper.proofs.workload.merge_delta.Goals as goal

pub loop-i-preserved : goal.loop-i-preserved
loop-i-preserved c = λ t none.
    let row : MoveRow = record {
      number = c.new.result;
      posting = c.new-in-loop-i.result;
      source = c.args.source;
      target = c.args.target;
    } in
    subst (λ (l : List Change). FitUpTo l t (c.loop-i.i + 1)) (sym c.in_ok-push-2.ensures.ok)
    (fit_next c.loop-i.delta t c.loop-i.i row c.new.ensures (c.loop-i.invariant t none))
