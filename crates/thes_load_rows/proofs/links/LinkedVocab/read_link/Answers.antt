use Rattle.std.proofs.Common.{◌++◌, ◌∷◌, []}
use Rattle.thes_tables.specs.Cells.{link_cells}
use Rattle.thes_tables.proofs.CellLemmas.{link_one}
use Rattle.thes_load_rules.specs.Rules.{LinkRule}
use Rattle.thes_load_rows.specs.LinksSoFar.{HasLinks}
use Rattle.thes_load_rows.specs.Forms.{HasLinkForm}
use Rattle.thes_load_rows.proofs.NextRowLemmas.{in_next}
use Rattle.thes_load_rows.proofs.RowFormLemmas.{link_form}
use Rattle.thes_load_rows.proofs.ReadResultLemmas.{reads_row, reads_none}
use Rattle.thes_load_rows.proofs.LinkedVocabLemmas.{link_step}
use Rattle.thes_load_rows.proofs.links.LinkedVocab.read_link.Goals as goal

pub returns-in_ok-good-in-Some-clause-reads : goal.returns-in_ok-good-in-Some-clause-reads
returns-in_ok-good-in-Some-clause-reads c = λ rows has.
    let rs = c.args.self.now.vocab.resources in
    let graph = c.add_legal.new.self.graph in
    reads_row link_cells link_one (λ more. HasLinks rs graph more []) (LinkRule rs) rows c.args.cells.now c.in-Some.link
    c.in-Some.ensures.1 c.in_ok-good-in-Some.good
    (link_step rs c.args.self.now.graph graph rows c.in-Some.link has c.in_ok-good-in-Some.good c.in-Some.ensures.0
    c.in_ok-good-in-Some.ensures.adds)

pub returns-in-None-clause-reads : goal.returns-in-None-clause-reads
returns-in-None-clause-reads c = λ rows has.
    let rs = c.args.self.now.vocab.resources in
    reads_none link_cells link_one (λ more. HasLinks rs c.args.self.now.graph more []) (LinkRule rs) rows
    c.args.cells.now HasLinkForm c.in-None.ensures
    (λ y rest all. link_form rs c.args.self.now.few (rows ++ y ∷ rest) y all (in_next rows y rest))
