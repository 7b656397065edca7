use Rattle.std.proofs.Common.{refl, sym, subst, false, arith}
use Rattle.thes_base.specs.declared.fault.Fault.TheVariants.{BadStore}
use Rattle.thes_base.specs.declared.fault.Table.{Table}
use Rattle.thes_load_rows.specs.declared.stage.Stage.{Stage}
use Rattle.thes_load_rows.specs.declared.stage.Stage.TheVariants as stage
use Rattle.thes_load_rows.specs.Progress.{raw_with_row, HasRead, HasRow, ReadsRow}
use Rattle.thes_load_rows.proofs.stage.Stage.row.Goals as goal

pub returns-in-Ok-true : goal.returns-in-Ok-true
returns-in-Ok-true c = grind (arith)

pub returns-in-Ok-false : goal.returns-in-Ok-false
returns-in-Ok-false c =
    let bad : ReadsRow c.advance.new.self c.read.new.self c.args.cells.now false =
    subst (ReadsRow c.advance.new.self c.read.new.self c.args.cells.now) c.in-Ok-false.field-0-test
    c.in-Ok-false.ensures in
    subst (λ (new : Stage). HasRow c.args.self.now new c.args.table c.args.cells.now) (sym c.stop.ensures) (
      refl,
      λ raw h. subst (λ (current_table : Table). HasRead (stage.Stopped (BadStore current_table) current_table)
          (raw_with_row current_table c.args.cells.now raw)) c.in_ok-advance.ensures.0
          (bad raw (c.in_ok-advance.ensures.1 raw h)),
    )
