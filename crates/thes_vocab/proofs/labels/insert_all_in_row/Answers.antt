use Rattle.std.proofs.lemmas.Grind.{common_steps}
use Rattle.std.proofs.Common.{arith}
use Rattle.std.proofs.lemmas.Result.{on_ok_weaker, on_err_weaker}
use Rattle.thes_vocab.proofs.LabelTableLemmas.{row_set, row_at, row_put_all, row_kept}
use Rattle.thes_vocab.proofs.labels.insert_all_in_row.Goals as goal

pub returns-in-Some-clause-ok : goal.returns-in-Some-clause-ok
returns-in-Some-clause-ok c = grind (arith, on_ok_weaker, row_at, row_put_all, row_set)

pub returns-in-Some-clause-err : goal.returns-in-Some-clause-err
returns-in-Some-clause-err c = grind (
  arith,
  common_steps,
  on_err_weaker,
  row_at,
  row_kept,
  row_set,
  c.get.ensures.value,
  c.in-Some.ensures.value,
  c.insert_all.ensures.err,
)
