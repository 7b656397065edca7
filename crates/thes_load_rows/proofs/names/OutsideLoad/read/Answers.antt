use Rattle.std.proofs.Common.{◌++◌, ◌∷◌, subst}
use Rattle.thes_tables.specs.Cells.{outside_cells}
use Rattle.thes_tables.proofs.CellLemmas.{outside_one}
use Rattle.thes_load_rules.specs.Rules.{OutsideRule}
use Rattle.thes_load_rows.specs.NamesSoFar.{HasOutside}
use Rattle.thes_load_rows.specs.Forms.{HasOutsideForm}
use Rattle.thes_load_rows.specs.CellSpelling.{Spells}
use Rattle.thes_load_rows.proofs.NextRowLemmas.{in_next}
use Rattle.thes_load_rows.proofs.RowFormLemmas.{outside_form}
use Rattle.thes_load_rows.proofs.ReadResultLemmas.{reads_row, reads_none}
use Rattle.thes_load_rows.proofs.names.OutsideLoad.read.Goals as goal

pub returns-in_ok-good-in-Some : goal.returns-in_ok-good-in-Some
returns-in_ok-good-in-Some c = λ base rs rows few has.
    reads_row outside_cells outside_one (HasOutside base rs c.take.new.self.vocab c.take.new.self.last)
    (OutsideRule base rs) rows c.args.cells.now c.in-Some.row
    ((subst (Spells outside_cells HasOutsideForm c.args.cells.now) c.in-Some.is c.in_ok-row.ensures)).1
    c.in_ok-good-in-Some.good (c.in_ok-good-in-Some.ensures base rs rows has)

pub returns-in-None : goal.returns-in-None
returns-in-None c = λ base rs rows few has.
    reads_none outside_cells outside_one (HasOutside base rs c.args.self.now.vocab c.args.self.now.last)
    (OutsideRule base rs) rows c.args.cells.now HasOutsideForm
    (subst (Spells outside_cells HasOutsideForm c.args.cells.now) c.in-None.is c.in_ok-row.ensures)
    (λ y rest all. outside_form rs few base (rows ++ y ∷ rest) y all (in_next rows y rest))
