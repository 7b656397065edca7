use Rattle.std.proofs.Common.{rules, subst, sym, []}
use Rattle.std.specs.Option.{MatchOption}
use Rattle.std.proofs.lemmas.Fn.{always_returns_same}
use Rattle.thes_base.specs.Data.{LabelData}
use Rattle.thes_base.specs.declared.data.LabelKind.TheVariants.{Pref}
use Rattle.thes_vocab.specs.OwnLabels.{language_cmp, own_label, HasNoOwnPreferred}
use Rattle.thes_vocab.specs.LabelPositions.{IsPreferredAt}
use Rattle.thes_vocab.proofs.OwnLabelLemmas.{preferred_searched, found_option}
use Rattle.thes_vocab.proofs.row.preferred_position.Goals as goal

pub returns : goal.returns
returns c =
    let facts = c.binary_search_by.ensures in
    let found = facts.position (λ (l : LabelData). language_cmp l (own_label Pref c.args.tag.now []))
    (always_returns_same _ _ _ (λ a r f called. search rules)) in
    let at = preferred_searched c.args.labels.now c.args.tag.now c.binary_search_by.result c.requires facts.bound
    found in
    subst (λ o. MatchOption o (HasNoOwnPreferred c.args.labels.now c.args.tag.now)
    (IsPreferredAt c.args.labels.now c.args.tag.now)) (sym c.ok.ensures.value)
    (found_option _ _ c.binary_search_by.result at)
