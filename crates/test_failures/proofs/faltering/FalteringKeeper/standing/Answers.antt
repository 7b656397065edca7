use Rattle.thes_store.specs.Reading.{assigned_posting_rows}
use Rattle.thes_store.proofs.SinkLemmas.{none_accepted}
use Rattle.test_failures.proofs.faltering.FalteringKeeper.standing.Goals as goal

pub returns-then-is_due-clause-yields : goal.returns-then-is_due-clause-yields
returns-then-is_due-clause-yields g c = λ up t same. none_accepted g.S.PostingSink.gives
    (assigned_posting_rows c.args.concept t.posting) c.fail.result c.args.sink.now
