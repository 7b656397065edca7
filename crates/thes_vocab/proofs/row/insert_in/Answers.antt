use Rattle.std.proofs.Common.{subst, arith}
use Rattle.std.specs.Prelude.{Ok}
use Rattle.thes_vocab.specs.LabelPositions.{IsLabelPosition}
use Rattle.thes_vocab.proofs.OwnLabelLemmas.{sorted_insert, has_inserted, has_again}
use Rattle.thes_vocab.proofs.row.insert_in.Goals as goal

pub returns-in-Ok-clause-gain : goal.returns-in-Ok-clause-gain
returns-in-Ok-clause-gain c =
    let at = subst (λ own. IsLabelPosition own c.args.label (Ok c.in-Ok.field-0)) c.as_slice.ensures.value
    c.in-Ok.ensures in
    record {
      order = c.requires.sorted;
      labels = has_again c.args.list.now.items c.args.label c.in-Ok.field-0 c.requires.sorted at;
    }

pub returns-in-Err-clause-gain : goal.returns-in-Err-clause-gain
returns-in-Err-clause-gain c = record {
  order = grind (arith, sorted_insert);
  labels =
      λ q. grind (arith, has_inserted);
}
