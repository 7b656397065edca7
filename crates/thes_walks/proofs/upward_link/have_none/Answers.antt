use Rattle.std.proofs.Common.{ℕ, get_or, length, below_more, arith, ap, sym, subst, ◌∙◌}
use Rattle.std.proofs.lemmas.List.{get_or_default}
use Rattle.thes_links.specs.declared.relation.Relation.TheVariants.{Related}
use Rattle.thes_links.specs.LinkEdit.{HeldAfter}
use Rattle.thes_walks.specs.Ends.{IsEnd}
use Rattle.thes_walks.proofs.upward_link.have_none.Goals as goal
use Rattle.thes_walks.proofs.SideSearchLemmas.{item_at}

pub loop-x-preserved : goal.loop-x-preserved
loop-x-preserved g c =
    let P : ℕ → Type 0 = λ n. IsEnd Related (HeldAfter c.args.edit.now (g.L.Links.net c.args.links.now).links) n in
    let item = item_at _ c.args.xs.now c.loop-x.x-index c.x-item.result c.as_slice-x-items.ensures c.loop-x-test.true
    c.x-item.is in
    below_more (λ k. P (get_or c.args.xs.now k 0)) c.loop-x.x-index c.loop-x.invariant
    (subst P item.1 (c.is_end_after.ensures.end c.if-not-is_end_after.false))

pub returns : goal.returns
returns g c = λ _ x (k, lt, is).
    let P : ℕ → Type 0 = λ n. IsEnd Related (HeldAfter c.args.edit.now (g.L.Links.net c.args.links.now).links) n in
    subst P (sym (sym is ∙ get_or_default c.args.xs.now k x 0 lt))
    (c.loop-x.invariant k (omega (arith, lt, c.loop-x-test.false, ap length c.as_slice-x-items.ensures)))
