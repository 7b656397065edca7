use Rattle.std.proofs.Common.{◌≡◌, pos, [], ◌∷◌}
use Rattle.sqlite.specs.declared.types.Value.TheVariants.{Int}
use Rattle.thes_sql.specs.Reads.{assigned_numbers_text}
use Rattle.thes_sqlite.proofs.RowStreamLemmas.{Streams}
use Rattle.thes_sqlite.proofs.TableStreamLemmas.{IsNumberRow, AppendsNumber}
use Rattle.thes_sqlite.proofs.row_streams.collect_numbers.Given as goal

abbrev pub invariant-numbers : goal.invariant-numbers
invariant-numbers g l = (l.rows.conn.ghost_name ≡ l.initial.rows.conn.ghost_name)
    × Streams g.S.Store AppendsNumber IsNumberRow assigned_numbers_text (Int (pos l.fn.concept) ∷ []) l.fn.conn
    l.rows.conn.now [] l.numbers.items
