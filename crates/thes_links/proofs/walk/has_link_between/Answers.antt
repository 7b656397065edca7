use Rattle.std.proofs.Common.{ℕ, get_or, below_more, arith, sym, subst, ◌∙◌}
use Rattle.std.proofs.lemmas.List.{get_or_default}
use Rattle.thes_links.specs.Steps.{Ties}
use Rattle.thes_base.specs.declared.data.Link.{Link}
use Rattle.thes_links.proofs.walk.has_link_between.Goals as goal

pub loop-link-preserved : goal.loop-link-preserved
loop-link-preserved c k d lt =
    below_more (λ (k : ℕ). (d : Link) → Ties c.args.relation (get_or c.args.links.now k d) c.args.xs.now c.args.ys.now
    → ⊥) c.loop-link.link-index
    (λ k lt d. c.loop-link.invariant k d lt)
    (λ d tied. c.if-ties.ensures (let P : Link → Type 0 = λ w. Ties c.args.relation w c.args.xs.now c.args.ys.now in
    subst P (get_or_default c.args.links.now c.loop-link.link-index d c.link-item.result (omega arith)
    ∙ sym c.link-item.is) tied))
    k lt d

pub returns : goal.returns
returns c l (k, within, is) tied =
    c.loop-link.invariant k l (omega arith)
    (let P : Link → Type 0 = λ w. Ties c.args.relation w c.args.xs.now c.args.ys.now in subst P (sym is) tied)
