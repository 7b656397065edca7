use Rattle.std.proofs.Common.{◌≡◌, ℕ, Contains, false, Some, ap, sym, subst, ◌∙◌}
use Rattle.std.proofs.lemmas.Option.{same_Some}
use Rattle.thes_walks.proofs.SideSearchLemmas.{IsSearchResult-same}
use Rattle.thes_walks.proofs.side_search.take.Goals as goal

pub returns : goal.returns
returns c =
    IsSearchResult-same c.args.nodes.now c.meet.new.self c.args.goals.now (λ y. c.in-Some.y ≡ y)
    (λ y. c.args.next ≡ Some y)
    (λ y same. c.in-Some.is ∙ ap Some same) (λ y is. same_Some _ _ (sym c.in-Some.is ∙ is))
    false (
      c.in_ok-meet.ensures.grows,
      λ y has same. c.if-has.ensures (let P : ℕ → Type 0 =
          λ w. Contains c.args.goals.now w in subst P (sym same) has),
    )
