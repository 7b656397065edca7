use Rattle.std.proofs.Common.{◌∙◌, ap, subst}
use Rattle.thes_tables.specs.Cells.{cells_of_tables}
use Rattle.thes_tables.specs.Tables.{Tables}
use Rattle.thes_store.specs.Sinks.{SinkOutcome, sink_rows}
use Rattle.thes_store.proofs.FoundLemmas.{passes_known}
use Rattle.test_failures.specs.declared.faltering.Faltering.{Faltering}
use Rattle.test_failures.proofs.faltering.FalteringKeeper.load.Goals as goal

pub returns-clause-found : goal.returns-clause-found
returns-clause-found g c =
    passes_known (λ (k : Faltering). cells_of_tables k.keeper) g.S.RowSink.gives c.args.self.now _ c.args.sink.now
    c.load.result c.load.new.sink
    (subst (λ (t : Tables). SinkOutcome g.S.RowSink.gives c.args.sink.now (sink_rows (cells_of_tables t)) c.load.result
    c.load.new.sink) c.is_due.ensures.same (c.load.ensures.yields tt))
    (c.load.ensures.asks.same tt ∙ ap cells_of_tables c.is_due.ensures.same)
