use Rattle.std.proofs.Common.{take}
use Rattle.thes_store.specs.Sinks.{SinkAcceptsAll, sink_rows_of_tables}
use Rattle.thes_office.specs.LoaderFeed.{FeedResult}
use Rattle.thes_row_lists.specs.SortedRows.{raw_of}
use Rattle.thes_row_lists.proofs.row_lists.feed_tables.Given as goal

abbrev pub invariant-loop-name : goal.invariant-loop-name
invariant-loop-name l = SinkAcceptsAll FeedResult l.fn.loader
    (sink_rows_of_tables (raw_of l.rows) (take l.name-index l.names)) l.loader
