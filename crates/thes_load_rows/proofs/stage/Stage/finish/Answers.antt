use Rattle.std.proofs.Common.{subst}
use Rattle.thes_load_rows.specs.declared.stage.Stage.{Stage}
use Rattle.thes_load_rows.specs.Progress.{HasRead}
use Rattle.thes_load_rows.proofs.LoadResultLemmas.{stopped_end}
use Rattle.thes_load_rows.proofs.stage.Stage.finish.Goals as goal

pub returns-in-Move : goal.returns-in-Move
returns-in-Move c = λ raw h.
    c.close_moves.ensures raw (subst (λ (s : Stage). HasRead s raw) c.in-Move.is (c.in_ok-other.ensures.1 raw h))

pub returns-in-Stopped : goal.returns-in-Stopped
returns-in-Stopped c = λ raw h.
    stopped_end c.in-Stopped.fault c.in-Stopped.field-1 raw (subst (λ (s : Stage). HasRead s raw) c.in-Stopped.is
    (c.in_ok-other.ensures.1 raw h))
