use Rattle.std.proofs.Common.{arith, ◌≡◌, ◌+◌, ◌∷◌, drop, ◌∙◌}
use Rattle.sqlite.specs.State.{HasCleanDisk}
use Rattle.sqlite.specs.Held.{state}
use Rattle.thes_sql.proofs.TransactionLemmas.{drop_next_change, under_way_next, keeps_then, survives_on}
use Rattle.thes_sql.proofs.commit.apply_all.Goals as goal

pub loop-change-preserved : goal.loop-change-preserved
loop-change-preserved g c =
    let old = state g.S.Store c.args.tx.now.conn.now in
    let mid = state g.S.Store c.loop-change.tx.conn.now in
    let new = state g.S.Store c.apply.new.tx.conn.now in
    let changes = c.args.changes.now in
    let i = c.loop-change.change-index in
    let left : drop i changes ≡ c.change-item.result ∷ drop (i + 1) changes =
    drop_next_change changes i c.change-item.result c.loop-change-test.true c.change-item.is in
    let was : HasCleanDisk new → HasCleanDisk mid = λ (clean : HasCleanDisk new). omega
    (arith, c.apply.ensures.stays.1.clean) in
    record {
      same = c.apply.ensures.same_reference ∙ c.loop-change.invariant.same;
      far = λ clean inside. let far = c.loop-change.invariant.far (was clean) inside in
          under_way_next changes _ _ c.change-item.result old mid new left far
          (c.in_ok-apply.ensures.does clean far.inside);
      kept = λ clean inside. let far = c.loop-change.invariant.far (was clean) inside in
          keeps_then old mid new (c.loop-change.invariant.kept (was clean) inside)
          (c.apply.ensures.stays.0 clean far.inside);
      survives = survives_on old mid new c.loop-change.invariant.survives c.apply.ensures.stays.1;
    }
