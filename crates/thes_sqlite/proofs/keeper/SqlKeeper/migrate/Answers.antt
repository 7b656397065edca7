use Rattle.std.proofs.Common.{sym, subst}
use Rattle.sqlite.specs.Held.{state}
use Rattle.thes_sql.specs.OldStore.{KeepsOld}
use Rattle.thes_sqlite.specs.KeeperView.{KeeperView, IsKeeperUp, IsUp, raw_of_keeper}
use Rattle.thes_sqlite.specs.MigrationEffects.{Migrates, ServesRows}
use Rattle.thes_sqlite.proofs.MigrationLemmas.{serves_current, serves_migrated}
use Rattle.thes_sqlite.proofs.keeper.SqlKeeper.migrate.Goals as goal

pub returns-in-Ok-clause-serves : goal.returns-in-Ok-clause-serves
returns-in-Ok-clause-serves g c =
    let old = c.self.inside.conn in
    let new = c.migrate_database-ended.new.conn in
    let view : KeeperView _ = record {
      conn = old;
      failures = c.self.inside.failures;
      first = c.self.inside.first.value;
    } in
    let migrates = subst (Migrates g.S.Store old new) c.in-Ok.is c.migrate_database-ended.ensures in
    record {
      current = subst (λ (k : KeeperView _). IsKeeperUp g.S.Store k → IsUp (state g.S.Store new)
          → IsUp (state g.S.Store k.first) × ServesRows g.S.Store (record {
            conn = new;
            failures = c.self.inside.failures;
            first = c.of.result.value;
          }) (state g.S.Store k.first).now.schema (raw_of_keeper g.S.Store k)) c.self.view_is
          (serves_current g.S.Store view new c.of.result.value c.of.ensures c.in-Ok.version c.self.inside.failures
          c.self.invariant migrates);
      older = λ up t was. serves_migrated g.S.Store old new c.of.result.value c.of.ensures c.in-Ok.version migrates up t
          (subst (λ (k : KeeperView _). KeepsOld (state g.S.Store k.conn).now t) (sym c.self.view_is) was)
          c.self.inside.failures;
    }
