-- The law of a loader over a whole store.
use Rattle.std.specs.Prelude.{◌≡◌}
use Rattle.thes_base.specs.declared.data.Limits.{Limits}
use Rattle.thes_tables.specs.Cells.{Raw}
use Rattle.thes_store.specs.Sinks.{SinkAcceptsAll, sink_rows}
use Rattle.thes_office.specs.declared.loader.Loader.{Loader}
use Rattle.thes_office.specs.LoaderFeed.{IsBegun, KnowsRows, FeedResult}

-- A loader that begins without rows and accepts all rows of a store has received exactly these
-- rows, and has its limits unchanged.
abbrev pub LoaderReadsStore : Type 0
LoaderReadsStore =
    (limits : Limits) (raw : Raw) (old new : Loader) → IsBegun limits old → SinkAcceptsAll FeedResult old
    (sink_rows raw) new
    → KnowsRows new raw × (new.limits ≡ limits)
