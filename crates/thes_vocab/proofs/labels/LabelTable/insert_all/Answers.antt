use Rattle.std.proofs.Common.{arith}
use Rattle.thes_vocab.proofs.AnswerLemmas.{on_any_err}
use Rattle.thes_vocab.proofs.LabelTableLemmas.{same_labels}
use Rattle.thes_vocab.proofs.MergedRowLemmas.{union_rows}
use Rattle.thes_vocab.proofs.labels.LabelTable.insert_all.Goals as goal

pub invariant_of-self : goal.invariant_of-self
invariant_of-self c = grind (arith, same_labels)

pub returns-in_err-put_all-clause-err : goal.returns-in_err-put_all-clause-err
returns-in_err-put_all-clause-err c = grind (arith, on_any_err, same_labels)

pub invariant_of-self-2 : goal.invariant_of-self-2
invariant_of-self-2 c = grind (arith, union_rows)

pub returns-clause-ok : goal.returns-clause-ok
returns-clause-ok c = grind (arith, union_rows)
