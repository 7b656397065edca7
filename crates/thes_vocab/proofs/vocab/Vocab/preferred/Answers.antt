use Rattle.std.proofs.Common.{◌∙◌, ap}
use Rattle.std.specs.Option.{option_copied}
use Rattle.thes_base.specs.Labels.{preferred_label_in}
use Rattle.thes_vocab.specs.Vocabulary.{Vocabulary}
use Rattle.thes_vocab.proofs.LabelCheckLemmas.{preferred_is}
use Rattle.thes_vocab.proofs.AnswerLemmas.{match_copied}
use Rattle.thes_vocab.proofs.vocab.Vocab.preferred.Goals as goal

pub returns : goal.returns
returns c =
    preferred_is c.self.inside.labels c.args.owner c.args.tag.now c.self.invariant.named.one_preferred
    (option_copied c.preferred.result) (match_copied _ _ c.preferred.result c.preferred.ensures)
    ∙ ap (λ (v : Vocabulary). preferred_label_in v.labels c.args.owner c.args.tag.now) c.self.view_is
