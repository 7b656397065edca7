use Rattle.std.proofs.Common.{◌++◌, ◌∷◌}
use Rattle.thes_tables.specs.Cells.{hier_cells}
use Rattle.thes_tables.proofs.CellLemmas.{hier_one}
use Rattle.thes_load_rules.specs.Rules.{HierRule}
use Rattle.thes_load_rows.specs.LinksSoFar.{HasLinks}
use Rattle.thes_load_rows.specs.Forms.{HasHierForm}
use Rattle.thes_load_rows.proofs.NextRowLemmas.{in_next}
use Rattle.thes_load_rows.proofs.RowFormLemmas.{hier_form}
use Rattle.thes_load_rows.proofs.ReadResultLemmas.{reads_row, reads_none}
use Rattle.thes_load_rows.proofs.LinkedVocabLemmas.{hier_step}
use Rattle.thes_load_rows.proofs.links.LinkedVocab.read_hier.Goals as goal

pub returns-in_ok-good-in-Some-clause-reads : goal.returns-in_ok-good-in-Some-clause-reads
returns-in_ok-good-in-Some-clause-reads c = λ links rows has.
    let rs = c.args.self.now.vocab.resources in
    let graph = c.add_legal.new.self.graph in
    reads_row hier_cells hier_one (HasLinks rs graph links) (HierRule rs links) rows c.args.cells.now c.in-Some.row
    c.in-Some.ensures.1 c.in_ok-good-in-Some.good
    (hier_step rs c.args.self.now.graph graph links rows c.in-Some.row has c.in_ok-good-in-Some.good
    (rw c.link_of.ensures at c.in_ok-good-in-Some.ensures.adds))

pub returns-in-None-clause-reads : goal.returns-in-None-clause-reads
returns-in-None-clause-reads c = λ links rows has.
    let rs = c.args.self.now.vocab.resources in
    reads_none hier_cells hier_one (HasLinks rs c.args.self.now.graph links) (HierRule rs links) rows
    c.args.cells.now HasHierForm c.in-None.ensures
    (λ y rest all. hier_form rs c.args.self.now.few links (rows ++ y ∷ rest) y all (in_next rows y rest))
