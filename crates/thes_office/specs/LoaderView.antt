-- The view of a loader in contracts.
use Rattle.thes_base.specs.declared.data.Limits.{Limits}
use Rattle.thes_load_rows.specs.declared.stage.Stage.{Stage}

-- A loader as contracts see it: the stage of its load, and the limits of the core that it will build.
pub record LoaderView : Type 0 where
  pub stage : Stage
  pub limits : Limits
