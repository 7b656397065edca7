use Rattle.std.proofs.Common.{refl, rules, lit<}
use Rattle.std.proofs.lemmas.Iterator.{cases_from_all}
use Rattle.std.proofs.lemmas.Iterator.Splits.{YieldsList-from_str_split}
use Rattle.std.specs.Char.{IsAsciiAlphanumeric}
use Rattle.thes_base.specs.Forms.{IsTagPart}
use Rattle.thes_base.proofs.TagLemmas.{all_or_one_fails}
use Rattle.thes_base.proofs.form.are_parts.Goals as goal

pub returns : goal.returns
returns c =
    all_or_one_fails (IsTagPart IsAsciiAlphanumeric) c.all.result _
    (cases_from_all _ _ c.all.result (IsTagPart IsAsciiAlphanumeric)
    (λ part. ¬ IsTagPart IsAsciiAlphanumeric part) c.all.ensures.ran
    (YieldsList-from_str_split 45 c.args.text.now (lit< tt) c.split.ensures.text c.split.ensures.has_more
    c.split.ensures.pattern) (λ x q k. (refl, search rules)) (λ x q k. search rules))
