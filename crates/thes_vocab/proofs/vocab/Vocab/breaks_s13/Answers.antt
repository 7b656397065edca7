use Rattle.std.proofs.Common.{rules, ◌≡◌, ◌≢◌, ◌∙◌, sym, ap, subst, inl, inr}
use Rattle.thes_base.specs.declared.data.LabelKind.TheVariants.{Scope}
use Rattle.thes_base.specs.Data.{LabelData}
use Rattle.thes_base.specs.Labels.{S13, is_lexical_kind}
use Rattle.thes_base.specs.Machine.{owned_label}
use Rattle.thes_base.specs.Changes.{has_lexical_label}
use Rattle.thes_vocab.specs.Vocabulary.{Vocabulary}
use Rattle.thes_vocab.proofs.AnswerLemmas.{match_bool_cases}
use Rattle.thes_vocab.proofs.LabelCheckLemmas.{breaks_s13, keeps_s13, name_unless_scope}
use Rattle.thes_vocab.proofs.vocab.Vocab.breaks_s13.Goals as goal

pub returns-then-ne : goal.returns-then-ne
returns-then-ne c =
    let v = c.args.self.now in
    let l = owned_label c.args.owner c.args.label.now in
    let apart : c.args.label.now.kind ≢ Scope = search rules in
    let tag = ap (λ (x : LabelData). x.tag) c.label.view_is in
    let s13 = subst (λ (v : Vocabulary). S13 v.labels) c.self.view_is c.self.invariant.named.disjoint in
    let answer : c.has_lexical_label.result ≡ has_lexical_label v.labels l.owner l.tag l.text =
    c.has_lexical_label.ensures ∙ (λ i. has_lexical_label (c.self.view_is i).labels c.args.owner (tag i)
    (c.text.ensures i)) in
    match_bool_cases c.has_lexical_label.result _ _
    (λ yes. breaks_s13 v.labels l c.requires (name_unless_scope l.kind apart) (sym answer ∙ yes))
    (λ never. keeps_s13 v.labels l s13 (inr (sym answer ∙ never)))

pub returns-else-ne : goal.returns-else-ne
returns-else-ne c =
    let v = c.args.self.now in
    let l = owned_label c.args.owner c.args.label.now in
    let is : c.args.label.now.kind ≡ Scope = search rules in
    let s13 = subst (λ (v : Vocabulary). S13 v.labels) c.self.view_is c.self.invariant.named.disjoint in
    let good = keeps_s13 v.labels l s13 (inl (ap is_lexical_kind is)) in
    match_bool_cases c.ne.result _ _ (λ yes. absurd (search rules)) (λ _. good)
