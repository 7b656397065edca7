use Rattle.std.proofs.Common.{◌≡◌, ◌∙◌, ◌++◌, ◌∷◌, [], ap, true, subst, arith}
use Rattle.thes_base.specs.Listing.{IsListing}
use Rattle.thes_display.specs.ChildLists.{child, child_cmp}
use Rattle.thes_display.specs.HierarchyParts.{IsTopByHomes}
use Rattle.thes_display.proofs.TopLemmas.{tops_none, tops_more, tops_same}
use Rattle.thes_display.proofs.hierarchy.tops_of.Goals as goal
use Rattle.thes_display.proofs.hierarchy.tops_of.Goals.{then-is_homeless+in_ok-push, else-is_homeless}

pub loop-rank-init : goal.loop-rank-init
loop-rank-init c = tops_none c.args.homes.now _ c.new-tops.ensures.items

pub loop-rank-preserved : goal.loop-rank-preserved
loop-rank-preserved c =
    elim c.if-is_homeless.branch [
      | then-is_homeless+in_ok-push w ↦ tops_more c.args.homes.now c.loop-rank.rank c.loop-rank.tops.items
          c.if-is_homeless.tops.items c.loop-rank.invariant (c.is_homeless.ensures.none w.if-is_homeless.true)
          (ap (λ v. v.items) w.tops-is ∙ w.in_ok-push.ensures.items
          ∙ ap (λ t. c.loop-rank.tops.items ++ child c.loop-rank.rank t true ∷ []) w.untyped.ensures)
      | else-is_homeless w ↦ tops_same c.args.homes.now c.loop-rank.rank c.loop-rank.tops.items
          c.if-is_homeless.tops.items c.loop-rank.invariant (c.is_homeless.ensures.some w.if-is_homeless.false)
          (ap (λ v. v.items) w.tops-is)
    ]

pub returns : goal.returns
returns c =
    let past = c.loop-rank-test.false in
    let within = c.loop-rank.auto.rank-end in
    let all : c.loop-rank.rank ≡ c.args.count = omega (arith, past, within) in
    subst (λ m. IsListing child_cmp (IsTopByHomes c.args.homes.now m) c.loop-rank.tops.items) all c.loop-rank.invariant
