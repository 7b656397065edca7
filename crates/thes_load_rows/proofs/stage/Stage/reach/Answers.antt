use Rattle.std.proofs.Common.{◌∙◌, sym, ap, arith}
use Rattle.thes_tables.specs.TableOrder.{table_no}
use Rattle.thes_load_rows.specs.Progress.{stage_table}
use Rattle.thes_load_rows.proofs.TableOrderLemmas.{table_same, next_no, last_no}
use Rattle.thes_load_rows.proofs.stage.Stage.reach.Goals as goal

pub loop-i-init : goal.loop-i-init
loop-i-init c = (sym (c.table_number-i.ensures ∙ ap table_no c.current_table.ensures), λ raw h. h)

pub loop-i-preserved : goal.loop-i-preserved
loop-i-preserved c = grind (arith, last_no, next_no)

pub returns : goal.returns
returns c =
    let current_table = c.loop-i.invariant.0 in
    let done = c.loop-i-test.false in
    let start = c.table_number-i.ensures ∙ ap table_no c.current_table.ensures in
    let end = c.table_number-i-end.ensures in
    let order = c.requires in
    let within = c.loop-i.auto.i-end (omega (arith, start, end, order)) in (
      table_same (stage_table c.loop-i.stage) c.args.table (omega (arith, current_table, done, within, end)),
      c.loop-i.invariant.1,
    )
