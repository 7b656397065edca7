use Rattle.std.proofs.Common.{◌∙◌, ap, subst, inl, refl, List, ℕ, drop}
use Rattle.thes_base.specs.Resources.{BeginsWith}
use Rattle.thes_vocab.specs.Vocabulary.{Vocabulary}
use Rattle.thes_vocab.proofs.vocab.Vocab.check_outside.Goals as goal

pub returns-then-starts_with : goal.returns-then-starts_with
returns-then-starts_with c =
    let match_at = c.if-starts_with.ensures.cases in
    let begins : BeginsWith c.as_str.result.now c.as_str-2.result.now =
    (drop match_at.0 c.as_str.result.now, match_at.1.1) in
    let base = c.as_str-2.ensures.text ∙ ap (λ (v : Vocabulary). v.base) c.self.view_is in
    inl (subst (λ (p : List ℕ × List ℕ). BeginsWith p.0 p.1) (λ i. (c.as_str.ensures.text i, base i)) begins, refl)
