use Rattle.std.proofs.Common.{◌≡◌, ◌≤◌, ◌∙◌, ◌+◌, ◌∷◌, [], length, subst, sym, take, arith}
use Rattle.std.specs.Prelude.{vec_len}
use Rattle.thes_store.specs.AddedRow.{rows_added_by}
use Rattle.thes_store.specs.PositionLists.{HasListedPosition}
use Rattle.thes_store.specs.Slots.{AreExpected}
use Rattle.thes_store.proofs.AddedRowLemmas.{more_added, count_more, at_most_one, expected_more, same_len}
use Rattle.thes_store.proofs.slots.Slots.expect.Goals as goal

pub loop-change-preserved : goal.loop-change-preserved
loop-change-preserved g c =
    let i = c.loop-change.change-index in
    let change = c.change-item.result in
    let added_row = g.T.AddedRow.added_row in
    let so_far = c.loop-change.invariant in
    let more = count_more added_row c.args.changes.now i change c.loop-change-test.true c.change-item.is in
    let one : length (rows_added_by added_row (change ∷ [])) ≤ 1 = at_most_one (added_row change) in
    let next = c.in_ok-position.ensures.next in
    let position = so_far.position in
    let least = so_far.least in
    let len : vec_len c.loop-change.self.rows ≡ vec_len c.args.self.now.rows =
    same_len c.args.self.now c.loop-change.self so_far.keeps.rows in
    let at : c.loop-change.position ≡ vec_len c.loop-change.self.rows
    + length (rows_added_by added_row (take i c.args.changes.now)) = omega (arith, position, len) in
    record {
      keeps = record {
        rows = c.expect_one.ensures.keeps.rows ∙ so_far.keeps.rows;
        index = λ n p h. c.expect_one.ensures.keeps.index n p (so_far.keeps.index n p h);
      };
      position = omega (arith, more, next, position);
      least = omega (arith, next, least, one);
      expected = subst (AreExpected g.T.IndexedRow.number_of c.expect_one.new.self)
          (sym (more_added added_row c.args.changes.now i change c.loop-change-test.true c.change-item.is))
          (expected_more g.T.IndexedRow.number_of c.loop-change.self c.expect_one.new.self
          (rows_added_by added_row (take i c.args.changes.now)) (added_row change) so_far.expected
          c.expect_one.ensures.keeps.index c.expect_one.ensures.keeps.rows
          (λ row e. subst (HasListedPosition c.expect_one.new.self.index (g.T.IndexedRow.number_of row))
          at (c.in_ok-position.ensures.ok row e)));
    }
