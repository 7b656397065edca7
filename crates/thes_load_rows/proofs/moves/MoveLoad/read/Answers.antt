use Rattle.std.proofs.Common.{◌++◌, ◌∷◌}
use Rattle.thes_tables.specs.Cells.{move_cells}
use Rattle.thes_tables.proofs.CellLemmas.{move_one}
use Rattle.thes_load_rules.specs.Rules.{MoveRule}
use Rattle.thes_load_rows.specs.RowsSoFar.{HasMoves}
use Rattle.thes_load_rows.specs.Forms.{HasMoveForm}
use Rattle.thes_load_rows.proofs.NextRowLemmas.{in_next}
use Rattle.thes_load_rows.proofs.RowFormLemmas.{move_form}
use Rattle.thes_load_rows.proofs.ReadResultLemmas.{reads_row, reads_none}
use Rattle.thes_load_rows.proofs.moves.MoveLoad.read.Goals as goal

pub returns-in-Some : goal.returns-in-Some
returns-in-Some c = λ ps rows posting has.
    reads_row move_cells move_one (HasMoves c.args.resources.now ps c.take.new.self.taken
    c.take.new.self.places.items) (MoveRule c.args.resources.now ps) rows c.args.cells.now c.in-Some.row
    c.in-Some.ensures.1 c.take.result (c.take.ensures ps rows has)

pub returns-in-None : goal.returns-in-None
returns-in-None c = λ ps rows posting has.
    reads_none move_cells move_one (HasMoves c.args.resources.now ps c.args.self.now.taken
    c.args.self.now.places.items) (MoveRule c.args.resources.now ps) rows c.args.cells.now HasMoveForm
    c.in-None.ensures (λ y rest all. move_form c.args.resources.now c.requires ps (rows ++ y ∷ rest) y posting all
    (in_next rows y rest))
