use Rattle.std.proofs.Common.{rules, ◌≡◌, ◌≢◌, ◌∙◌, sym, ap, subst, inl, inr, refl, true}
use Rattle.std.specs.FinSet as set
use Rattle.thes_base.specs.declared.data.LabelKind.TheVariants.{Pref}
use Rattle.thes_base.specs.Data.{LabelData}
use Rattle.thes_base.specs.Changes.{label}
use Rattle.thes_base.specs.Machine.{owned_label}
use Rattle.thes_base.specs.Refusals.{LeavesPreferred}
use Rattle.thes_vocab.specs.Vocabulary.{Vocabulary}
use Rattle.thes_vocab.specs.Rivals.{HasTwoPreferred}
use Rattle.thes_vocab.proofs.LabelCheckLemmas.{leaves_of_two}
use Rattle.thes_vocab.proofs.vocab.Vocab.check_drop.Goals as goal
use Rattle.thes_vocab.proofs.vocab.Vocab.check_drop.Goals.{else-eq-via-then-eq+else-not-has_two_preferred}
use Rattle.thes_vocab.proofs.vocab.Vocab.check_drop.Goals.{else-eq-via-else-eq}

pub returns : goal.returns
returns c =
    let v = c.args.self.now in
    let l = owned_label c.args.owner c.args.label.now in
    let tag = ap (λ (x : LabelData). x.tag) c.label.view_is in
    let there : set.contains v.labels l ≡ true =
    (λ i. set.contains (sym c.self.view_is i).labels (label c.args.owner (sym c.kind.ensures i) (sym tag i)
    (sym c.text.ensures i))) ∙ sym c.contains.ensures ∙ c.if-not-contains.false in
    let leaves : LeavesPreferred v.labels l = elim c.else-eq.branch [
      | else-eq-via-then-eq+else-not-has_two_preferred w ↦
          let two : HasTwoPreferred c.self.inside.labels c.args.owner = search rules in
          leaves_of_two v.labels l (subst (λ (v : Vocabulary). HasTwoPreferred v.labels c.args.owner) c.self.view_is
          two)
      | else-eq-via-else-eq w ↦ let apart : c.args.label.now.kind ≢ Pref = search rules in inl apart
    ] in
    inr (there, inr (leaves, refl))
