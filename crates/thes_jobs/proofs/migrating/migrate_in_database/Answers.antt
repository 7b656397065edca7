use Rattle.std.proofs.Common.{Ok, Err, refl, sym, subst}
use Rattle.thes_sqlite.specs.KeeperView.{KeeperView}
use Rattle.thes_sqlite.specs.MigrationEffects.{Migrates}
use Rattle.thes_jobs.proofs.migrating.migrate_in_database.Goals as goal

pub returns-in-Ok : goal.returns-in-Ok
returns-in-Ok g c = record {
  result = Ok c.in-Ok.field-0;
  migrates = subst (λ (k : KeeperView _). Migrates g.S.Store k.conn c.into_connection-conn.result (Ok c.in-Ok.field-0))
      c.adopt-keeper.ensures.is
      (subst (λ h. Migrates g.S.Store c.adopt-keeper.result.conn h (Ok c.in-Ok.field-0))
      (sym c.into_connection-conn.ensures.is) c.in-Ok.ensures.migrates);
  reports = c.print_version.ensures;
}

pub returns-in-Err : goal.returns-in-Err
returns-in-Err g c = record {
  result = Err c.in-Err.fault;
  migrates = subst (λ (k : KeeperView _). Migrates g.S.Store k.conn c.into_connection-conn.result (Err c.in-Err.fault))
      c.adopt-keeper.ensures.is
      (subst (λ h. Migrates g.S.Store c.adopt-keeper.result.conn h (Err c.in-Err.fault))
      (sym c.into_connection-conn.ensures.is) c.in-Err.ensures.migrates);
  reports = record {
    cause = c.cause-cause.result;
    silent = refl;
    prints_it = rw (← c.trouble_of-trouble.ensures) c.report_in_file.ensures.reports;
    status_is =
        c.report_in_file.ensures.status;
  };
}
