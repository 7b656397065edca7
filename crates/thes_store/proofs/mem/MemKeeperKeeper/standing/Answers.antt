use Rattle.std.proofs.Common.{arith, ◌≡◌, ◌∙◌, ap, subst, List}
use Rattle.std.proofs.lemmas.Grind.{common_steps}
use Rattle.thes_tables.specs.declared.rows.PostingRow.{PostingRow}
use Rattle.thes_tables.specs.Tables.{Tables, is_assigned_row}
use Rattle.thes_tables.proofs.CellLemmas.{listed_one}
use Rattle.thes_store.specs.PositionSets.{ArePositions}
use Rattle.thes_store.specs.Covers.{Covers}
use Rattle.thes_store.specs.Sinks.{SinkOutcome}
use Rattle.thes_store.specs.RowsAtPositions.{rows_at_positions}
use Rattle.thes_store.proofs.SinkLemmas.{fault_before_first}
use Rattle.thes_store.proofs.IndexLookUpLemmas.{standing_all}
use Rattle.thes_store.proofs.mem.MemKeeperKeeper.standing.Goals as goal

pub returns-in_err-positions-clause-yields : goal.returns-in_err-positions-clause-yields
returns-in_err-positions-clause-yields g c = grind (arith, common_steps, fault_before_first)

pub returns-clause-yields : goal.returns-clause-yields
returns-clause-yields g c = λ up t same.
    let x = c.self.inside.indexes in
    let is = c.self.view_is ∙ listed_one c.args.self.now t same in
    let positions = c.in_ok-positions.positions.items in
    let concept = c.args.concept in
    let are = subst (λ n. ArePositions x.standing n positions) c.get.ensures.value c.in_ok-positions.ensures in
    let all = standing_all x t concept positions (subst (Covers x) is c.self.invariant.0) are in
    let rows : c.as_slice.result.now ≡ t.posting = c.as_slice.ensures.value ∙ ap (λ (u : Tables). u.posting) is in
    let whole = ap (λ (rs : List PostingRow). rows_at_positions (is_assigned_row concept) rs c.as_slice-2.result.now)
    rows ∙ ap (rows_at_positions (is_assigned_row concept) t.posting) c.as_slice-2.ensures.value ∙ all in
    subst (λ (l : List PostingRow). SinkOutcome g.S.PostingSink.gives c.args.sink.now l c.yield_postings.result
    c.yield_postings.new.sink) whole c.yield_postings.ensures.yields
