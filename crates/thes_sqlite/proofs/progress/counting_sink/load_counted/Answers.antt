use Rattle.std.proofs.Common.{rules}
use Rattle.thes_sqlite.proofs.PassingLemmas.{found_lent, outcome_lent}
use Rattle.thes_sqlite.proofs.progress.counting_sink.load_counted.Goals as goal

pub returns-clause-yields : goal.returns-clause-yields
returns-clause-yields g c = λ up.
    outcome_lent g.R.RowSink.gives _ _ c.load-loaded.result c.load-loaded.new.sink _ (c.load-loaded.ensures.yields up)
    (search rules)

pub returns-clause-found : goal.returns-clause-found
returns-clause-found g c =
    found_lent g.R.RowSink.gives _ _ _ c.load-loaded.result c.load-loaded.new.sink _ c.load-loaded.ensures.found
    (search rules)
