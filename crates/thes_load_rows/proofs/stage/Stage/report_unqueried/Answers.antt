use Rattle.std.proofs.Common.{◌∙◌, refl, sym, subst, arith}
use Rattle.thes_base.specs.declared.fault.Fault.TheVariants.{BadStore}
use Rattle.thes_base.specs.declared.fault.Table.{Table}
use Rattle.thes_load_rows.specs.declared.stage.Stage.TheVariants as stage
use Rattle.thes_load_rows.specs.Progress.{HasRead, raw_without_table}
use Rattle.thes_load_rows.proofs.LostTableLemmas.{table_lost, stopped_lost}
use Rattle.thes_load_rows.proofs.stage.Stage.report_unqueried.Goals as goal

pub returns-then-is_stopped : goal.returns-then-is_stopped
returns-then-is_stopped c = grind (arith, stopped_lost)

pub returns : goal.returns
returns c =
    let s = c.in_ok-stage.stage in (
      refl,
      λ raw h. subst (λ (current_table : Table). HasRead (stage.Stopped (BadStore current_table) current_table)
          (raw_without_table current_table raw)) c.in_ok-stage.ensures.0
          (table_lost s (sym c.is_stopped.ensures ∙ c.if-is_stopped.false) raw (c.in_ok-stage.ensures.1 raw h)),
    )
