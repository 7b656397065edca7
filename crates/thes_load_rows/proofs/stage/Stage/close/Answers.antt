use Rattle.std.proofs.Common.{sym, subst}
use Rattle.thes_base.specs.declared.fault.Table.{Table}
use Rattle.thes_load_rows.specs.declared.stage.Stage.{Stage}
use Rattle.thes_load_rows.specs.declared.stage.Stage.TheVariants as stage
use Rattle.thes_load_rows.specs.Progress.{Closes}
use Rattle.thes_load_rows.proofs.StageCloseLemmas.{link_good, stopped_on}
use Rattle.thes_load_rows.proofs.stage.Stage.close.Goals as goal

pub returns-in-Link : goal.returns-in-Link
returns-in-Link c = subst (λ (old : Stage). Closes old (stage.Hier c.in-Link.linked_vocab)) (sym c.in-Link.is)
    (link_good c.in-Link.linked_vocab)

pub returns-in-Stopped : goal.returns-in-Stopped
returns-in-Stopped c =
    subst (λ (old : Stage). Closes old (stage.Stopped c.in-Stopped.fault c.next_table.result)) (sym c.in-Stopped.is)
    (subst (λ (current_table : Table). Closes (stage.Stopped c.in-Stopped.fault c.in-Stopped.current_table)
    (stage.Stopped c.in-Stopped.fault current_table)) (sym c.next_table.ensures)
    (stopped_on c.in-Stopped.fault c.in-Stopped.current_table))
