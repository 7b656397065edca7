use Rattle.std.proofs.Common.{◌≡◌, rules, sym, subst, Err}
use Rattle.thes_sqlite.specs.MigrationEffects.{Migrates}
use Rattle.thes_sqlite.proofs.MigrationLemmas.{migration_refused, migration_current, migration_succeeds}
use Rattle.thes_sqlite.proofs.MigrationLemmas.{migration_failed, migrate_fault_of_keeper}
use Rattle.thes_sqlite.proofs.migrating.migrate_database.Goals as goal

pub returns-in_err-check_migration : goal.returns-in_err-check_migration
returns-in_err-check_migration g c =
    let fault = c.in_err-check_migration.field-0.0 in
    let stop : c.from_residual.result ≡ Err fault = search rules in
    let e = c.in_err-check_migration.ensures in
    subst (Migrates g.S.Store c.args.conn.now c.check_migration.new.conn) (sym stop)
    (migration_refused g.S.Store c.args.conn.now c.check_migration.new.conn c.requires
    (λ opened. c.is_autocommit-settled.ensures.settled c.if-prove.false opened)
    e.frame.effect fault e.frame.fault e.judged)

pub returns-then-not-branch : goal.returns-then-not-branch
returns-then-not-branch g c =
    let e = c.in_ok-check_migration.ensures in
    let done = c.if-not-branch.true in
    migration_current g.S.Store c.args.conn.now c.check_migration.new.conn c.requires
    (λ opened. c.is_autocommit-settled.ensures.settled c.if-prove.false opened) e.frame.effect e.frame.database
    (rw done at e.judged)

pub returns-in-Ok : goal.returns-in-Ok
returns-in-Ok g c =
    let e = c.in_ok-check_migration.ensures in
    let done = c.if-not-branch.false in
    let own = c.in-Ok.ensures.own in
    migration_succeeds g.S.Store c.args.conn.now c.check_migration.new.conn c.migrate_tables.new.conn c.requires
    e.frame.effect e.frame.database (rw done at e.judged) c.migrate_tables.ensures.clean
    c.migrate_tables.ensures.crash own
    (λ clean t was. c.in-Ok.ensures.all clean (own.begins (e.frame.effect.tables.mode c.requires)) t was)

pub returns-in-Err : goal.returns-in-Err
returns-in-Err g c =
    let e = c.in_ok-check_migration.ensures in
    let done = c.if-not-branch.false in
    let own = c.in-Err.ensures.own in
    migration_failed g.S.Store c.args.conn.now c.check_migration.new.conn c.migrate_tables.new.conn c.requires
    e.frame.effect e.frame.database (rw done at e.judged) c.migrate_tables.ensures.clean
    c.migrate_tables.ensures.crash own c.fault_with_cause.result
    c.fault_with_cause.ensures.kind (migrate_fault_of_keeper c.fault_with_cause.result c.fault_with_cause.ensures.kind)
    (λ up. own.none up.0 up.1)
