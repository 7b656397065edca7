use Rattle.std.proofs.Common.{List, get_or, refl, sym, subst, append-nil, rules}
use Rattle.std.specs.Prelude.{Option, Ok}
use Rattle.std.proofs.lemmas.List.{take_all}
use Rattle.thes_base.specs.declared.fault.Table.{Table}
use Rattle.thes_base.specs.declared.fault.Table.TheVariants as table
use Rattle.thes_tables.specs.declared.cells.Cell.{Cell}
use Rattle.thes_tables.specs.Cells.{RawTable}
use Rattle.thes_store.specs.Sinks.{SinkAcceptsAll, sink_rows_of_table, sink_rows_of_tables}
use Rattle.thes_store.proofs.SinkLemmas.{tables_append, part_accepted}
use Rattle.thes_office.specs.LoaderFeed.{FeedResult}
use Rattle.thes_row_lists.specs.SortedRows.{raw_of}
use Rattle.thes_row_lists.proofs.row_lists.feed_tables.Goals as goal

pub loop-name-preserved : goal.loop-name-preserved
loop-name-preserved c =
    let raw = raw_of c.args.rows.now in
    let name = get_or c.args.names.now c.loop-name.name-index table.Meta in
    let takes = subst (λ (rows : RawTable). SinkAcceptsAll FeedResult c.loop-name.loader (sink_rows_of_table name rows)
    c.feed_table.new.loader) c.rows_of.ensures c.in_ok-feed_table.ensures.takes in
    let one = subst (λ (l : List (Table × Option (List Cell))). SinkAcceptsAll FeedResult c.loop-name.loader l
    c.feed_table.new.loader) (sym (append-nil _)) takes in
    part_accepted FeedResult (sink_rows_of_tables raw) (tables_append raw) c.args.names.now c.loop-name.name-index name
    c.args.loader.now c.loop-name.loader c.feed_table.new.loader (Ok tt) tt c.loop-name-test.true (search rules)
    c.loop-name.invariant refl one

pub returns-clause-takes : goal.returns-clause-takes
returns-clause-takes c =
    subst (λ (l : List Table). SinkAcceptsAll FeedResult c.args.loader.now
    (sink_rows_of_tables (raw_of c.args.rows.now) l) c.loop-name.loader)
    (take_all c.loop-name.name-index c.args.names.now c.loop-name-test.false) c.loop-name.invariant
