use Rattle.std.proofs.Common.{◌++◌, ◌∷◌, subst}
use Rattle.thes_tables.specs.Cells.{label_cells}
use Rattle.thes_tables.proofs.CellLemmas.{label_one}
use Rattle.thes_load_rules.specs.Rules.{LabelRule}
use Rattle.thes_load_rows.specs.NamesSoFar.{HasLabels}
use Rattle.thes_load_rows.specs.Forms.{HasLabelForm}
use Rattle.thes_load_rows.specs.CellSpelling.{Spells}
use Rattle.thes_load_rows.proofs.NextRowLemmas.{in_next}
use Rattle.thes_load_rows.proofs.RowFormLemmas.{label_form}
use Rattle.thes_load_rows.proofs.NameLoadLemmas.{label_step}
use Rattle.thes_load_rows.proofs.ReadResultLemmas.{reads_row, reads_none}
use Rattle.thes_load_rows.proofs.names.read_label.Goals as goal

pub returns-in_ok-good-in-Some : goal.returns-in_ok-good-in-Some
returns-in_ok-good-in-Some c = λ base rs outside rows few has.
    let new = c.take_label.new.self in
    let spelled = subst (Spells label_cells HasLabelForm c.args.cells.now) c.in-Some.is c.in_ok-row.ensures in
    reads_row label_cells label_one (HasLabels base rs outside new) (LabelRule rs) rows c.args.cells.now c.in-Some.row
    spelled.1 c.in_ok-good-in-Some.good
    (label_step base rs outside c.args.vocab.now new rows c.in-Some.row has c.in_ok-good-in-Some.good spelled.0
    (rw c.row.view_is at c.in_ok-good-in-Some.ensures))

pub returns-in-None : goal.returns-in-None
returns-in-None c = λ base rs outside rows few has.
    reads_none label_cells label_one (HasLabels base rs outside c.args.vocab.now) (LabelRule rs) rows c.args.cells.now
    HasLabelForm (subst (Spells label_cells HasLabelForm c.args.cells.now) c.in-None.is c.in_ok-row.ensures)
    (λ y rest all. label_form rs few (rows ++ y ∷ rest) y all (in_next rows y rest))
