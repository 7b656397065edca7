use Rattle.std.proofs.lemmas.Grind.{common_steps}
use Rattle.std.proofs.Common.{arith, rules}
use Rattle.thes_store.proofs.CoverLemmas.{so_far_begins, so_far_continues, covers_when_stopped, so_far_ends, moves_few}
use Rattle.thes_store.proofs.posting_indexes.cover_all.Goals as goal

pub loop-change-init : goal.loop-change-init
loop-change-init c = grind (arith, common_steps, so_far_begins)

pub cover-requires : goal.cover-requires
cover-requires c = grind (arith, common_steps)

pub loop-change-preserved : goal.loop-change-preserved
loop-change-preserved c =
    let changes = c.args.changes.now in
    let i = c.loop-change.change-index in
    let a = c.loop-change.invariant.0 in
    let few = moves_few c.change-item.result in
    let next = c.in_ok-step.ensures.next in (
      omega (arith, a, few, next),
      λ t fits len covers. so_far_continues c.loop-change.indexes c.cover.new.self changes i c.change-item.result t
          c.loop-change.step _ c.loop-change-test.true c.change-item.is fits
          (c.loop-change.invariant.1 t fits len covers) c.cover.ensures.grows c.in_ok-step.ensures.reaches next,
    )

pub returns-in_err-step : goal.returns-in_err-step
returns-in_err-step c =
    λ t fits len covers. (
      covers_when_stopped c.loop-change.indexes c.cover.new.self c.args.changes.now c.loop-change.change-index
          c.change-item.result t c.loop-change.step c.loop-change-test.true c.change-item.is fits
          (c.loop-change.invariant.1 t fits len covers) c.cover.ensures.grows,
      search rules,
    )

pub returns : goal.returns
returns c = grind (arith, common_steps, so_far_ends)
