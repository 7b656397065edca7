use Rattle.std.proofs.Common.{◌≡◌, ◌∙◌, ap, subst, List, map}
use Rattle.thes_tables.specs.declared.rows.PostingRow.{PostingRow}
use Rattle.thes_tables.specs.Tables.{Tables, is_assigned_row}
use Rattle.thes_tables.proofs.CellLemmas.{listed_one}
use Rattle.thes_store.specs.PositionSets.{ArePositions}
use Rattle.thes_store.specs.Covers.{Covers}
use Rattle.thes_store.specs.RowsAtPositions.{rows_at_positions}
use Rattle.thes_store.specs.Reading.{row_number}
use Rattle.thes_store.proofs.IndexLookUpLemmas.{standing_all}
use Rattle.thes_store.proofs.mem.MemKeeperKeeper.standing_numbers.Goals as goal

pub returns-clause-ok : goal.returns-clause-ok
returns-clause-ok c = λ up t same.
    let x = c.self.inside.indexes in
    let is = c.self.view_is ∙ listed_one c.args.self.now t same in
    let positions = c.in_ok-at_concept.at_concept.items in
    let concept = c.args.concept in
    let are = subst (λ n. ArePositions x.standing n positions) c.get.ensures.value c.in_ok-at_concept.ensures in
    let all = standing_all x t concept positions (subst (Covers x) is c.self.invariant.0) are in
    let rows : c.as_slice-rows.result.now ≡ t.posting = c.as_slice-rows.ensures.value ∙ ap (λ (u : Tables). u.posting)
    is in
    let whole = ap (λ (rs : List PostingRow). rows_at_positions (is_assigned_row concept) rs c.as_slice.result.now) rows
    ∙ ap (rows_at_positions (is_assigned_row concept) t.posting) c.as_slice.ensures.value ∙ all in
    c.in_ok-numbers_at.ensures ∙ ap (map row_number) whole
