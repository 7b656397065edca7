use Rattle.std.proofs.Common.{◌∙◌, ◌+◌, ap, subst, take, take_all, List, arith}
use Rattle.std.proofs.lemmas.List.{take_more}
use Rattle.thes_display.specs.declared.walk.Child.{Child}
use Rattle.thes_display.specs.HierarchyParts.{AreHomesSet, rank_at}
use Rattle.thes_display.proofs.HomeLemmas.{home_kept, home_set, homes_start}
use Rattle.thes_display.proofs.hierarchy.set_homes.Goals as goal
use Rattle.thes_display.proofs.hierarchy.set_homes.Goals.{then-child+in_ok-set_value, else-child}

pub loop-child-init : goal.loop-child-init
loop-child-init c = homes_start c.args.rank c.args.homes.now.items

pub loop-child-preserved : goal.loop-child-preserved
loop-child-preserved c =
    let xs : List Child = c.args.children.now in
    let i = c.loop-child.child-index in
    elim c.if-child.branch [
      | then-child+in_ok-set_value w ↦ home_set c.args.rank (take i xs) (take (i + 1) xs) _
          (take_more xs i _ (omega arith)) c.args.homes.now.items c.loop-child.homes.items c.if-child.homes.items
          c.loop-child.invariant w.if-child.true
          (ap (λ v. rank_at v.items _) w.homes-is ∙ w.in_ok-set_value.ensures.here)
          (λ m ne. ap (λ v. rank_at v.items m) w.homes-is ∙ w.in_ok-set_value.ensures.other m ne)
      | else-child w ↦ home_kept c.args.rank (take i xs) (take (i + 1) xs) _ (take_more xs i _ (omega arith))
          c.args.homes.now.items c.loop-child.homes.items c.if-child.homes.items c.loop-child.invariant
          w.if-child.false (ap (λ v. v.items) w.homes-is)
    ]

pub returns : goal.returns
returns c =
    subst (λ (xs : List Child). AreHomesSet c.args.rank xs c.args.homes.now.items c.loop-child.homes.items)
    (take_all c.loop-child.child-index c.args.children.now (omega arith)) c.loop-child.invariant
