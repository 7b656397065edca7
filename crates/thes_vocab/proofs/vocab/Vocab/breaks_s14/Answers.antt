use Rattle.std.proofs.Common.{rules, ◌≡◌, ap, subst, List, ℕ, arith}
use Rattle.std.specs.Option.{MatchOption}
use Rattle.thes_base.specs.declared.data.LabelKind.TheVariants.{Pref}
use Rattle.thes_base.specs.Data.{LabelData}
use Rattle.thes_base.specs.Labels.{Labels, S14, HasLabel}
use Rattle.thes_base.specs.Machine.{owned_label}
use Rattle.thes_vocab.specs.Vocabulary.{Vocabulary}
use Rattle.thes_vocab.proofs.AnswerLemmas.{match_bool_cases}
use Rattle.thes_vocab.proofs.LabelCheckLemmas.{keeps_s14, answers_s14}
use Rattle.thes_vocab.proofs.vocab.Vocab.breaks_s14.Goals as goal

pub returns-then-eq : goal.returns-then-eq
returns-then-eq c =
    let v = c.args.self.now in
    let l = owned_label c.args.owner c.args.label.now in
    let is : c.args.label.now.kind ≡ Pref = search rules in
    let tag = ap (λ (x : LabelData). x.tag) c.label.view_is in
    let s14 = subst (λ (v : Vocabulary). S14 v.labels) c.self.view_is c.self.invariant.named.one_preferred in
    let found =
    subst (λ (p : Labels × List ℕ). MatchOption c.preferred.result
    ((text : List ℕ) → HasLabel p.0 c.args.owner Pref p.1 text → ⊥)
    (λ text. HasLabel p.0 c.args.owner Pref p.1 text.now)) (λ i. ((c.self.view_is i).labels, tag i))
    c.preferred.ensures in
    answers_s14 v.labels l c.requires is s14 c.preferred.result found c.is_some.result c.is_some.ensures

pub returns-else-eq : goal.returns-else-eq
returns-else-eq c = grind (arith, keeps_s14, match_bool_cases)
