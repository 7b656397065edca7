use Rattle.std.proofs.Common.{◌≡◌, IsTrue, drop}
use Rattle.sqlite.specs.State.{HasCleanDisk, KeepsCommit, Survives}
use Rattle.sqlite.specs.Held.{state}
use Rattle.thes_sql.specs.TransactionEffects.{IsUnderWay}
use Rattle.thes_sql.proofs.commit.apply_all.Given as goal

abbrev pub invariant-loop-change : goal.invariant-loop-change
invariant-loop-change g l =
    let old = state g.S.Store l.fn.tx.conn.now in
    let now = state g.S.Store l.tx.conn.now in
    record {
      same : l.tx.conn.ghost_name ≡ l.fn.tx.conn.ghost_name;
      far : HasCleanDisk now → IsTrue old.in_transaction → IsUnderWay l.changes (drop l.change-index l.changes) old now;
      kept : HasCleanDisk now → IsTrue old.in_transaction → KeepsCommit old now;
      survives : Survives old now (λ _. ⊥);
    }
