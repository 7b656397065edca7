use Rattle.std.proofs.Common.{rules, ◌≡◌, ap, subst, List, ℕ}
use Rattle.std.specs.Option.{MatchOption}
use Rattle.thes_base.specs.declared.data.LabelKind.TheVariants.{Pref}
use Rattle.thes_base.specs.Data.{LabelData}
use Rattle.thes_base.specs.Labels.{HasLabel}
use Rattle.thes_vocab.proofs.LoadingLemmas.{some_preferred}
use Rattle.thes_vocab.proofs.load.repeats_preferred.Goals as goal

pub returns-then-eq : goal.returns-then-eq
returns-then-eq c =
    let is : c.args.label.now.kind ≡ Pref = search rules in
    let tag = ap (λ (x : LabelData). x.tag) c.label.view_is in
    let found =
    subst (λ (t : List ℕ). MatchOption c.preferred.result
    ((text : List ℕ) → HasLabel c.args.labels.now c.args.owner Pref t text → ⊥)
    (λ text. HasLabel c.args.labels.now c.args.owner Pref t text.now)) tag c.preferred.ensures in
    let some = some_preferred (HasLabel c.args.labels.now c.args.owner Pref c.args.label.now.tag) c.preferred.result
    c.is_some.result found c.is_some.ensures in
    (λ t. (is, some.0 t), λ h. some.1 h.1)
