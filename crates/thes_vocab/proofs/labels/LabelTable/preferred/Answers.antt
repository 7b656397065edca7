use Rattle.std.proofs.Common.{◌∙◌, sym}
use Rattle.thes_base.specs.declared.data.LabelKind.TheVariants.{Pref}
use Rattle.thes_vocab.specs.OwnLabels.{own_label}
use Rattle.thes_vocab.proofs.LabelTableLemmas.{preferred_owned, none_preferred}
use Rattle.thes_vocab.proofs.AnswerLemmas.{match_weaker}
use Rattle.thes_vocab.proofs.labels.LabelTable.preferred.Goals as goal

pub returns-in-Some : goal.returns-in-Some
returns-in-Some c =
    match_weaker _ _ _ _ c.preferred.result
    (preferred_owned c.args.self.now c.args.owner c.args.tag.now c.in-Some.row.now c.in-Some.ensures)
    (λ text has. sym (c.in-Some.ensures (own_label Pref c.args.tag.now text.now)) ∙ has)
    c.preferred.ensures

pub returns-in-None : goal.returns-in-None
returns-in-None c text has = none_preferred c.args.self.now c.args.owner c.args.tag.now text c.in-None.ensures has
