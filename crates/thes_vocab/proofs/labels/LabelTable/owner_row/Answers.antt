use Rattle.std.proofs.Common.{◌∙◌, ap, subst}
use Rattle.std.specs.Prelude.{slice_get}
use Rattle.std.specs.Option.{MatchOption, option_copied}
use Rattle.thes_base.specs.Labels.{Labels}
use Rattle.thes_vocab.specs.LabelRows.{LabelRows, IsRowOfOwner, HasNoLabels}
use Rattle.thes_vocab.proofs.LabelTableLemmas.{row_owns}
use Rattle.thes_vocab.proofs.AnswerLemmas.{match_of_copied}
use Rattle.thes_vocab.proofs.labels.LabelTable.owner_row.Goals as goal

pub returns : goal.returns
returns c =
    let at = row_owns c.self.inside.rows.items c.args.owner (option_copied c.row_of.result)
    (c.row_of.ensures ∙ ap (λ (rows : LabelRows). slice_get rows c.args.owner) c.as_slice.ensures.value) in
    let here = subst (λ (labels : Labels). MatchOption (option_copied c.row_of.result) (HasNoLabels labels c.args.owner)
    (IsRowOfOwner labels c.args.owner)) c.self.view_is at in
    match_of_copied (HasNoLabels c.args.self.now c.args.owner) (IsRowOfOwner c.args.self.now c.args.owner)
    c.row_of.result here
