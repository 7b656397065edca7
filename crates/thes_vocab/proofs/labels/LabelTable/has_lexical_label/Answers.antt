use Rattle.std.proofs.Common.{refl}
use Rattle.thes_base.specs.declared.data.LabelKind.TheVariants.{Pref, Alt, Hidden}
use Rattle.thes_vocab.specs.OwnLabels.{own_label}
use Rattle.thes_vocab.proofs.labels.LabelTable.has_lexical_label.Goals as goal

pub returns-in-None : goal.returns-in-None
returns-in-None c =
    let tag = c.args.tag.now in
    let text = c.args.text.now in
    let none = c.in-None.ensures in
    rw (none (own_label Pref tag text), none (own_label Alt tag text), none (own_label Hidden tag text)) refl
