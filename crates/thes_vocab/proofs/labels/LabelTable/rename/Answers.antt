use Rattle.std.proofs.Common.{arith}
use Rattle.thes_vocab.proofs.LabelTableLemmas.{remove_after_insert, renamed_plain, renamed_keeping}
use Rattle.thes_vocab.proofs.labels.LabelTable.rename.Goals as goal

pub returns-in-Err-clause-err : goal.returns-in-Err-clause-err
returns-in-Err-clause-err c = grind (arith, remove_after_insert)

pub returns-clause-ok : goal.returns-clause-ok
returns-clause-ok c = grind (arith, renamed_keeping, renamed_plain)
