use Rattle.std.proofs.Common.{◌++◌, ◌∷◌, subst}
use Rattle.thes_tables.specs.Cells.{posting_cells}
use Rattle.thes_tables.proofs.CellLemmas.{posting_one}
use Rattle.thes_load_rules.specs.Rules.{PostingRule}
use Rattle.thes_load_rows.specs.RowsSoFar.{HasPostings}
use Rattle.thes_load_rows.specs.Forms.{HasPostingForm}
use Rattle.thes_load_rows.specs.CellSpelling.{Spells}
use Rattle.thes_load_rows.proofs.NextRowLemmas.{in_next}
use Rattle.thes_load_rows.proofs.RowFormLemmas.{posting_form}
use Rattle.thes_load_rows.proofs.ReadResultLemmas.{reads_row, reads_none}
use Rattle.thes_load_rows.proofs.postings.PostingLoad.read.Goals as goal

pub returns-in_ok-good-in-Some : goal.returns-in_ok-good-in-Some
returns-in_ok-good-in-Some c = λ rows has.
    reads_row posting_cells posting_one (HasPostings c.args.resources.now c.take.new.self.keys.keys
    c.take.new.self.firsts.items c.take.new.self.stored_places.items c.take.new.self.tally)
    (PostingRule c.args.resources.now) rows c.args.cells.now c.in-Some.row
    ((subst (Spells posting_cells HasPostingForm c.args.cells.now) c.in-Some.is c.in_ok-row.ensures)).1
    c.in_ok-good-in-Some.good (c.in_ok-good-in-Some.ensures rows has)

pub returns-in-None : goal.returns-in-None
returns-in-None c = λ rows has.
    reads_none posting_cells posting_one (HasPostings c.args.resources.now c.args.self.now.keys.keys
    c.args.self.now.firsts.items c.args.self.now.stored_places.items c.args.self.now.tally)
    (PostingRule c.args.resources.now) rows c.args.cells.now HasPostingForm
    (subst (Spells posting_cells HasPostingForm c.args.cells.now) c.in-None.is c.in_ok-row.ensures)
    (λ y rest all. posting_form c.args.resources.now c.requires (rows ++ y ∷ rest) y all (in_next rows y rest))
