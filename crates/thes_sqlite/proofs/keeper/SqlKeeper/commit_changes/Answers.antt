use Rattle.std.proofs.lemmas.Grind.{common_steps}
use Rattle.std.proofs.Common.{arith, ap, subst}
use Rattle.sqlite.specs.Held.{state}
use Rattle.sqlite.specs.State.{Survives}
use Rattle.thes_sqlite.specs.Commits.{MakesAll}
use Rattle.thes_sqlite.specs.KeeperView.{KeeperView}
use Rattle.thes_sqlite.proofs.KeeperLemmas.{applies_done, makes_all, is_done, is_either, frame_of_success, frame_of_fault}
use Rattle.thes_sqlite.proofs.keeper.SqlKeeper.commit_changes.Goals as goal

pub invariant_of-self : goal.invariant_of-self
invariant_of-self g c =
    (is_done g.S.Store _ _ c.self.view_is c.commit_all.new.conn c.args.changes.now c.self.invariant c.requires
    c.commit_all.ensures.crash (λ h. g.met.S.Store.settled h.store) c.in-Ok.ensures.own c.in-Ok.ensures.all).kept

pub returns-in-Ok-clause-ok : goal.returns-in-Ok-clause-ok
returns-in-Ok-clause-ok g c = λ up.
    (is_done g.S.Store _ _ c.self.view_is c.commit_all.new.conn c.args.changes.now c.self.invariant c.requires
    c.commit_all.ensures.crash (λ h. g.met.S.Store.settled h.store) c.in-Ok.ensures.own c.in-Ok.ensures.all).ok
    up.0 up.1

pub returns-in-Ok-clause-crash : goal.returns-in-Ok-clause-crash
returns-in-Ok-clause-crash g c = record {
  atomicity = is_either g.S.Store _ _ c.self.view_is c.commit_all.new.conn c.args.changes.now c.self.invariant
      c.requires c.commit_all.ensures.crash (λ h. g.met.S.Store.settled h.store);
  durability = (is_done g.S.Store _ _ c.self.view_is c.commit_all.new.conn c.args.changes.now c.self.invariant
      c.requires c.commit_all.ensures.crash (λ h. g.met.S.Store.settled h.store) c.in-Ok.ensures.own
      c.in-Ok.ensures.all).durable;
}

pub returns-in-Err-clause-crash : goal.returns-in-Err-clause-crash
returns-in-Err-clause-crash g c = record {
  atomicity = is_either g.S.Store _ _ c.self.view_is c.commit_all.new.conn c.args.changes.now c.self.invariant
      c.requires c.commit_all.ensures.crash (λ h. g.met.S.Store.settled h.store);
  durability = tt;
}

pub returns-in-Ok-clause-frame : goal.returns-in-Ok-clause-frame
returns-in-Ok-clause-frame g c = record {
  storage = grind (arith, common_steps);
  database = frame_of_success g.S.Store _ _ c.commit_all.new.conn (ap (λ (k : KeeperView _). k.conn) c.self.view_is)
      c.self.invariant.autocommit c.commit_all.ensures.crash c.commit_all.ensures.own _;
  first = ap (λ (k : KeeperView _). k.first) c.self.view_is;
}

pub returns-in-Err-clause-frame : goal.returns-in-Err-clause-frame
returns-in-Err-clause-frame g c = record {
  storage = grind (arith, common_steps);
  database = frame_of_fault g.S.Store _ _ c.commit_all.new.conn (ap (λ (k : KeeperView _). k.conn) c.self.view_is)
      c.self.invariant.autocommit c.commit_all.ensures.crash c.commit_all.ensures.own c.in-Err.error _ c.in-Err.is;
  first = ap (λ (k : KeeperView _). k.first) c.self.view_is;
}

pub returns-in-Ok-clause-applies : goal.returns-in-Ok-clause-applies
returns-in-Ok-clause-applies g c = applies_done g.S.Store _ _ c.commit_all.new.conn c.args.changes.now
    c.commit_all.result _ c.in-Ok.is (ap (λ (k : KeeperView _). k.conn) c.self.view_is) c.self.invariant.autocommit
    c.commit_all.ensures.own c.commit_all.ensures.all c.commit_all.ensures.users

pub returns-in-Ok-clause-whole : goal.returns-in-Ok-clause-whole
returns-in-Ok-clause-whole g c = subst (λ (k : KeeperView _). Survives (state g.S.Store k.conn)
    (state g.S.Store c.commit_all.new.conn) (MakesAll c.args.changes.now (state g.S.Store k.conn))) c.self.view_is
    (makes_all g.S.Store c.self.inside.conn c.commit_all.new.conn c.args.changes.now
    c.commit_all.ensures.crash c.commit_all.ensures.crash_users)

pub returns-in-Err-clause-whole : goal.returns-in-Err-clause-whole
returns-in-Err-clause-whole g c = subst (λ (k : KeeperView _). Survives (state g.S.Store k.conn)
    (state g.S.Store c.commit_all.new.conn) (MakesAll c.args.changes.now (state g.S.Store k.conn))) c.self.view_is
    (makes_all g.S.Store c.self.inside.conn c.commit_all.new.conn c.args.changes.now
    c.commit_all.ensures.crash c.commit_all.ensures.crash_users)
