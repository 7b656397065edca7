use Rattle.std.proofs.Common.{ap, subst}
use Rattle.sqlite.specs.Held.{state}
use Rattle.sqlite.specs.State.{Survives}
use Rattle.thes_sqlite.specs.Commits.{MakesAll}
use Rattle.thes_sqlite.specs.KeeperView.{KeeperView}
use Rattle.thes_sqlite.proofs.KeeperLemmas.{applies_done, makes_all, frame_of_success, frame_of_fault}
use Rattle.thes_sqlite.proofs.keeper.SqlKeeper.commit_anew.Goals as goal

pub returns-in-Ok-clause-database : goal.returns-in-Ok-clause-database
returns-in-Ok-clause-database g c =
    frame_of_success g.S.Store _ _ c.commit_all-ended.new.conn (ap (λ (k : KeeperView _). k.conn) c.self.view_is)
    c.self.invariant.autocommit c.commit_all-ended.ensures.crash c.commit_all-ended.ensures.own _

pub returns-in-Err-clause-database : goal.returns-in-Err-clause-database
returns-in-Err-clause-database g c =
    frame_of_fault g.S.Store _ _ c.commit_all-ended.new.conn (ap (λ (k : KeeperView _). k.conn) c.self.view_is)
    c.self.invariant.autocommit c.commit_all-ended.ensures.crash c.commit_all-ended.ensures.own c.in-Err.error _
    c.in-Err.is

pub returns-in-Ok-clause-applies : goal.returns-in-Ok-clause-applies
returns-in-Ok-clause-applies g c = applies_done g.S.Store _ _ c.commit_all-ended.new.conn c.args.changes.now
    c.commit_all-ended.result _ c.in-Ok.is (ap (λ (k : KeeperView _). k.conn) c.self.view_is)
    c.self.invariant.autocommit c.commit_all-ended.ensures.own c.commit_all-ended.ensures.all
    c.commit_all-ended.ensures.users

pub returns-in-Ok-clause-whole : goal.returns-in-Ok-clause-whole
returns-in-Ok-clause-whole g c = subst (λ (k : KeeperView _). Survives (state g.S.Store k.conn)
    (state g.S.Store c.commit_all-ended.new.conn) (MakesAll c.args.changes.now (state g.S.Store k.conn))) c.self.view_is
    (makes_all g.S.Store c.self.inside.conn c.commit_all-ended.new.conn c.args.changes.now
    c.commit_all-ended.ensures.crash c.commit_all-ended.ensures.crash_users)

pub returns-in-Err-clause-whole : goal.returns-in-Err-clause-whole
returns-in-Err-clause-whole g c = subst (λ (k : KeeperView _). Survives (state g.S.Store k.conn)
    (state g.S.Store c.commit_all-ended.new.conn) (MakesAll c.args.changes.now (state g.S.Store k.conn))) c.self.view_is
    (makes_all g.S.Store c.self.inside.conn c.commit_all-ended.new.conn c.args.changes.now
    c.commit_all-ended.ensures.crash c.commit_all-ended.ensures.crash_users)
