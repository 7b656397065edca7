use Rattle.std.proofs.Common.{◌≡◌, []}
use Rattle.thes_sql.specs.Reads.{read_text}
use Rattle.thes_sqlite.proofs.RowStreamLemmas.{Streams}
use Rattle.thes_sqlite.proofs.TableStreamLemmas.{IsTableRow}
use Rattle.thes_sqlite.proofs.row_streams.yield_rows.Given as goal

abbrev pub invariant-rows : goal.invariant-rows
invariant-rows g l = (l.rows.conn.ghost_name ≡ l.initial.rows.conn.ghost_name)
    × Streams g.S.Store g.R.RowSink.gives (IsTableRow l.fn.name) (read_text l.fn.name) [] l.fn.conn l.rows.conn.now
    l.fn.sink l.sink
