use Rattle.std.proofs.Common.{◌≡◌, pos, [], ◌∷◌}
use Rattle.sqlite.specs.declared.types.Value.TheVariants.{Int}
use Rattle.thes_sql.specs.Reads.{assigned_text}
use Rattle.thes_sqlite.proofs.RowStreamLemmas.{Streams}
use Rattle.thes_sqlite.proofs.TableStreamLemmas.{IsPostingRow}
use Rattle.thes_sqlite.proofs.row_streams.yield_postings.Given as goal

abbrev pub invariant-postings : goal.invariant-postings
invariant-postings g l = (l.postings.conn.ghost_name ≡ l.initial.postings.conn.ghost_name)
    × Streams g.S.Store g.P.PostingSink.gives IsPostingRow assigned_text (Int (pos l.fn.concept) ∷ []) l.fn.conn
    l.postings.conn.now l.fn.sink l.sink
