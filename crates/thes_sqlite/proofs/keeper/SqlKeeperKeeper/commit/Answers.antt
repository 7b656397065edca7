use Rattle.std.proofs.Common.{List, subst}
use Rattle.thes_tables.specs.declared.change.Change.{Change}
use Rattle.thes_sqlite.specs.Commits.{IsCrashSafe}
use Rattle.thes_sqlite.proofs.keeper.SqlKeeperKeeper.commit.Goals as goal

pub returns-clause-crash : goal.returns-clause-crash
returns-clause-crash g c =
    subst (λ (changes : List Change). IsCrashSafe g.S.Store changes c.args.self.now c.commit_changes.new.self
    c.commit_changes.result) c.as_slice.ensures c.commit_changes.ensures.crash
