use Rattle.std.proofs.Common.{arith, get_or, rules}
use Rattle.std.proofs.lemmas.Grind.{common_steps}
use Rattle.thes_store.proofs.IndexPositionLemmas.{in_take}
use Rattle.thes_store.proofs.position_sets.PositionSets.insert_all.Goals as goal

pub loop-position-preserved : goal.loop-position-preserved
loop-position-preserved c =
    let positions = c.args.positions.now in
    let i = c.loop-position.position-index in (
      λ n position at. c.insert.ensures.keeps n position (c.loop-position.invariant.0 n position at),
      λ position h. let m = in_take positions i (get_or positions i 0) position c.loop-position-test.true (search rules)
          h in
          grind (arith, common_steps),
    )
