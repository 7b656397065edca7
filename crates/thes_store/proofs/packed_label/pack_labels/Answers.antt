use Rattle.std.proofs.Common.{◌∙◌, ◌++◌, ◌∷◌, [], List, ap, sym}
use Rattle.thes_base.specs.Labels.{Label}
use Rattle.thes_store.specs.AddedRow.{rows_added_by, changed_label}
use Rattle.thes_store.proofs.AddedRowLemmas.{more_added}
use Rattle.thes_store.proofs.packed_label.pack_labels.Goals as goal

pub loop-change-preserved : goal.loop-change-preserved
loop-change-preserved c =
    let change = c.change-item.result in
    c.in_ok-pack_label.ensures
    ∙ ap (λ (l : List Label). l ++ rows_added_by changed_label (change ∷ [])) c.loop-change.invariant
    ∙ sym (more_added changed_label c.args.changes.now c.loop-change.change-index change c.loop-change-test.true
    c.change-item.is)
