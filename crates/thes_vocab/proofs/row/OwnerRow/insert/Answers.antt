use Rattle.std.proofs.Common.{◌≡◌, subst, ◌||◌, arith}
use Rattle.std.specs.Prelude.{Ok}
use Rattle.std.specs.Ordering.{eq_by_cmp}
use Rattle.thes_vocab.specs.OwnLabels.{has_own, data_cmp}
use Rattle.thes_vocab.specs.LabelPositions.{IsLabelPosition}
use Rattle.thes_vocab.proofs.OwnLabelLemmas.{found_is, sorted_insert, has_inserted, has_again}
use Rattle.thes_vocab.proofs.row.OwnerRow.insert.Goals as goal

pub invariant_of-self-in-Err : goal.invariant_of-self-in-Err
invariant_of-self-in-Err c = grind (arith, sorted_insert)

pub returns-in-Ok-clause-added : goal.returns-in-Ok-clause-added
returns-in-Ok-clause-added c = grind (arith, found_is)

pub returns-in-Ok-clause-ok : goal.returns-in-Ok-clause-ok
returns-in-Ok-clause-ok c q =
    let at = subst (λ own. IsLabelPosition own c.args.label (Ok c.in-Ok.field-0)) c.as_slice.ensures.value
    c.in-Ok.ensures in
    subst (λ own. has_own own q ≡ (eq_by_cmp data_cmp q c.args.label || has_own own q)) c.self.view_is
    (has_again c.self.inside.labels.items c.args.label c.in-Ok.field-0 c.self.invariant at q)

pub returns-in_ok-insert_at-in-Err-clause-added : goal.returns-in_ok-insert_at-in-Err-clause-added
returns-in_ok-insert_at-in-Err-clause-added c = grind (arith, found_is)

pub returns-in_ok-insert_at-in-Err-clause-ok : goal.returns-in_ok-insert_at-in-Err-clause-ok
returns-in_ok-insert_at-in-Err-clause-ok c q = grind (arith, has_inserted)
