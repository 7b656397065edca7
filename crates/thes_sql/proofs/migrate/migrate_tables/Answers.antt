use Rattle.std.proofs.Common.{rules}
use Rattle.sqlite.specs.Held.{state}
use Rattle.thes_sql.proofs.TransactionLemmas.{migrated_or_old}
use Rattle.thes_sql.proofs.migrate.migrate_tables.Goals as goal

pub returns-in_err-commit-clause-crash : goal.returns-in_err-commit-clause-crash
returns-in_err-commit-clause-crash g c =
    let made = migrated_or_old g.S.Store c.args.conn.now c.transaction-tx.result.conn.now
    (state g.S.Store c.migrate_all.new.tx.conn.now) _ c.transaction-tx.ensures.begun c.migrate_all.ensures.stays.1
    c.in_ok-migrate_all.ensures.does c.commit.ensures.survives in
    search (rules, made)

pub returns-clause-crash : goal.returns-clause-crash
returns-clause-crash g c =
    let made = migrated_or_old g.S.Store c.args.conn.now c.transaction-tx.result.conn.now
    (state g.S.Store c.migrate_all.new.tx.conn.now) _ c.transaction-tx.ensures.begun c.migrate_all.ensures.stays.1
    c.in_ok-migrate_all.ensures.does c.commit.ensures.survives in
    search (rules, made)
