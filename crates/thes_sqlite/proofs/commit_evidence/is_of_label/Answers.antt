use mathlib.Core.Logic.{inl, inr}
use Rattle.thes_sqlite.proofs.CommitEvidenceLemmas.{label_decided}
use Rattle.thes_sqlite.proofs.commit_evidence.is_of_label.Goals as goal

pub returns-in-AddLabel : goal.returns-in-AddLabel
returns-in-AddLabel c =
    let same = label_decided c.is_same.result c.in-AddLabel.other c.args.row.now c.is_same.ensures in
    elim c.in-AddLabel.is [ inl is ↦ rw is same | inr is ↦ rw is same ]
