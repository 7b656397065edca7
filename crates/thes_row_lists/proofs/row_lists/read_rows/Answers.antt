use Rattle.std.proofs.Common.{List, subst}
use Rattle.thes_base.specs.declared.fault.Table.{Table}
use Rattle.thes_store.specs.Sinks.{SinkAcceptsAll, sink_rows_of_tables}
use Rattle.thes_office.specs.LoaderFeed.{FeedResult}
use Rattle.thes_office.proofs.StoreFeedLemmas.{loader_reads_all}
use Rattle.thes_row_lists.specs.SortedRows.{raw_of}
use Rattle.thes_row_lists.proofs.row_lists.read_rows.Goals as goal

pub returns-clause-knows : goal.returns-clause-knows
returns-clause-knows c =
    loader_reads_all c.args.limits (raw_of c.args.rows.now) c.new-loader.result c.feed_tables.new.loader
    c.new-loader.ensures
    (subst (λ (names : List Table). SinkAcceptsAll FeedResult c.new-loader.result
    (sink_rows_of_tables (raw_of c.args.rows.now) names) c.feed_tables.new.loader)
    c.tables_in_order.ensures c.in_ok-feed_tables.ensures.takes)
