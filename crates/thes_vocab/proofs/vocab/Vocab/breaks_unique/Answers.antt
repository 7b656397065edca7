use Rattle.std.proofs.Common.{◌≡◌, ◌∙◌, sym, ap, subst, inl, inr, List, ℕ}
use Rattle.thes_base.specs.declared.data.LabelKind.TheVariants.{Pref}
use Rattle.thes_base.specs.Data.{LabelData, label_value_kind, label_value_text}
use Rattle.thes_base.specs.Machine.{owned_label}
use Rattle.thes_vocab.specs.Rivals.{HasRival}
use Rattle.thes_vocab.proofs.AnswerLemmas.{match_bool_cases}
use Rattle.thes_vocab.proofs.LabelCheckLemmas.{breaks_unique, keeps_unique, not_pref}
use Rattle.thes_vocab.proofs.vocab.Vocab.breaks_unique.Goals as goal

pub returns-in-Pref : goal.returns-in-Pref
returns-in-Pref c =
    let v = c.args.self.now in
    let l = owned_label c.args.owner c.args.label.now in
    let kind = sym (ap (λ (x : LabelData). x.kind) c.label.view_is) ∙ ap label_value_kind c.in-Pref.is in
    let tag = ap (λ (x : LabelData). x.tag) c.label.view_is in
    let text = sym (ap label_value_text c.in-Pref.is) ∙ ap (λ (x : LabelData). x.text) c.label.view_is in
    let to = subst (λ (p : List ℕ × List ℕ). HasRival v.resources v.labels c.args.owner p.0 p.1)
    (λ i. (tag i, text i)) in
    let from = subst (λ (p : List ℕ × List ℕ). HasRival v.resources v.labels c.args.owner p.0 p.1)
    (λ i. (sym tag i, sym text i)) in
    match_bool_cases c.has_rival.result _ _
    (λ yes. breaks_unique v.labels l v.resources kind (to (c.has_rival.ensures.0 yes)))
    (λ never. keeps_unique v.labels l v.resources c.requires
    (inr (λ rival. let yes = c.has_rival.ensures.1 (from rival) in cc)))

pub returns-in_default : goal.returns-in_default
returns-in_default c =
    let v = c.args.self.now in
    let l = owned_label c.args.owner c.args.label.now in
    let apart = λ (e : c.args.label.now.kind ≡ Pref). not_pref c.label.inside.value c.in_default.not-Pref
    (ap (λ (x : LabelData). x.kind) c.label.view_is ∙ e) in
    keeps_unique v.labels l v.resources c.requires (inl apart)
