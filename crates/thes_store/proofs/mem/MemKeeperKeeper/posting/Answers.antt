use Rattle.std.proofs.Common.{◌≡◌, ◌∙◌, ◌-◌, ◌≤◌, ap, subst, rules, map}
use Rattle.std.specs.Prelude.{Some, slice_get}
use Rattle.thes_base.specs.Resources.{entry_at}
use Rattle.thes_base.proofs.NumberedLemmas.{numbered_at}
use Rattle.thes_tables.specs.Tables.{Tables, recorded_move}
use Rattle.thes_tables.proofs.CellLemmas.{listed_one}
use Rattle.thes_store.specs.PositionSets.{ArePositions}
use Rattle.thes_store.specs.Covers.{Covers}
use Rattle.thes_store.specs.RowsAtPositions.{is_move_of, rows_at_positions}
use Rattle.thes_store.proofs.IndexLookUpLemmas.{moves_all}
use Rattle.thes_store.proofs.mem.MemKeeperKeeper.posting.Goals as goal

pub returns-clause-ok : goal.returns-clause-ok
returns-clause-ok c = λ up t same.
    let x = c.self.inside.indexes in
    let is = c.self.view_is ∙ listed_one c.args.self.now t same in
    let positions = c.in_ok-positions.positions.items in
    let there : slice_get c.self.inside.tables.posting.items (c.args.number - 1) ≡ Some c.in_ok-row.row =
    search rules in
    let least : 1 ≤ c.args.number = search rules in
    let row = numbered_at c.self.inside.tables.posting.items c.args.number least ∙ there in
    let moves : c.in_ok-moves.moves
    ≡ map recorded_move (rows_at_positions (is_move_of c.args.number) c.self.inside.tables.steps.items positions) =
    search rules in
    let are = subst (λ n. ArePositions x.moves n positions) c.get-2.ensures.value c.in_ok-positions.ensures in (
      subst (λ (u : Tables). entry_at u.posting c.args.number ≡ Some c.in_ok-row.row) is row,
      moves ∙ ap (λ (u : Tables). map recorded_move (rows_at_positions (is_move_of c.args.number) u.move positions)) is
          ∙ ap (map recorded_move) (moves_all x t c.args.number positions (subst (Covers x) is c.self.invariant.0) are),
    )
