use Rattle.std.proofs.Common.{take}
use Rattle.thes_sqlite.proofs.FoundRowLemmas.{FoundProgress}
use Rattle.thes_sqlite.proofs.KeeperLoadLemmas.{LoadProgress}
use Rattle.thes_sqlite.proofs.keeper.SqlKeeper.yield_tables.Given as goal

abbrev pub invariant-loop-name : goal.invariant-loop-name
invariant-loop-name g l = LoadProgress g.S.Store g.R.RowSink.gives (take l.name-index l.names) l.fn.self l.self
    l.fn.sink l.sink
    × FoundProgress g.R.RowSink.gives g.S.Store (take l.name-index l.names) l.fn.self.conn l.self.conn l.fn.sink l.sink
