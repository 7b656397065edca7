use Rattle.std.proofs.Common.{◌≡◌, ◌∷◌, [], List, rules, subst}
use Rattle.std.specs.Prelude.{Some}
use Rattle.thes_tables.specs.declared.cells.Cell.{Cell}
use Rattle.thes_tables.specs.declared.cells.Cell.TheVariants.{Text}
use Rattle.thes_tables.specs.Cells.{number_cell, flag_cell}
use Rattle.thes_store.specs.Sinks.{SinkOutcome}
use Rattle.thes_store.proofs.row_encoding.PostingRowAsCells.yield_to.Goals as goal

pub returns-clause-yields : goal.returns-clause-yields
returns-clause-yields g c =
    let row = c.args.self.now in
    let number : c.int-number.result ≡ number_cell row.number = search rules in
    let key : c.in_ok-key.key ≡ Text row.key = search rules in
    let rec : c.in_ok-rec.rec ≡ Text row.rec = search rules in
    let first : c.int-first.result ≡ number_cell row.first = search rules in
    let place : c.int-place.result ≡ number_cell row.place = search rules in
    let withdrawn : c.int-withdrawn.result ≡ flag_cell row.withdrawn = search rules in
    subst (λ (cells : List Cell). SinkOutcome g.S.RowSink.gives c.args.sink.now ((c.args.name, Some cells) ∷ [])
    c.yield_row.result c.yield_row.new.sink)
    (λ i. number i ∷ key i ∷ rec i ∷ first i ∷ place i ∷ withdrawn i ∷ []) c.yield_row.ensures.yields
