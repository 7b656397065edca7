use Rattle.std.proofs.Common.{rules}
use Rattle.sqlite.specs.Held.{state}
use Rattle.thes_sql.proofs.TransactionLemmas.{all_or_old, users_or_old}
use Rattle.thes_sql.proofs.commit.commit_all.Goals as goal

pub returns-in_err-commit-clause-crash : goal.returns-in_err-commit-clause-crash
returns-in_err-commit-clause-crash g c =
    let made = all_or_old g.S.Store c.args.conn.now c.transaction-tx.result.conn.now c.args.changes.now
    (state g.S.Store c.apply_all.new.tx.conn.now) _ c.transaction-tx.ensures.begun c.apply_all.ensures.stays.1
    c.in_ok-apply_all.ensures.does c.commit.ensures.survives in
    search (rules, made)

pub returns-clause-crash : goal.returns-clause-crash
returns-clause-crash g c =
    let made = all_or_old g.S.Store c.args.conn.now c.transaction-tx.result.conn.now c.args.changes.now
    (state g.S.Store c.apply_all.new.tx.conn.now) _ c.transaction-tx.ensures.begun c.apply_all.ensures.stays.1
    c.in_ok-apply_all.ensures.does c.commit.ensures.survives in
    search (rules, made)

pub returns-in_err-commit-clause-crash_users : goal.returns-in_err-commit-clause-crash_users
returns-in_err-commit-clause-crash_users g c =
    let made = users_or_old g.S.Store c.args.conn.now c.transaction-tx.result.conn.now c.args.changes.now
    (state g.S.Store c.apply_all.new.tx.conn.now) _ c.transaction-tx.ensures.begun c.apply_all.ensures.stays.1
    c.in_ok-apply_all.ensures.does c.commit.ensures.survives in
    search (rules, made)

pub returns-clause-crash_users : goal.returns-clause-crash_users
returns-clause-crash_users g c =
    let made = users_or_old g.S.Store c.args.conn.now c.transaction-tx.result.conn.now c.args.changes.now
    (state g.S.Store c.apply_all.new.tx.conn.now) _ c.transaction-tx.ensures.begun c.apply_all.ensures.stays.1
    c.in_ok-apply_all.ensures.does c.commit.ensures.survives in
    search (rules, made)
