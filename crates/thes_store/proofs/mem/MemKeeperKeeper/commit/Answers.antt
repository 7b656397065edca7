use Rattle.std.proofs.Common.{◌≡◌, ◌∙◌, List, refl, ap, sym, subst, rules}
use Rattle.std.specs.Prelude.{Ok}
use Rattle.thes_tables.specs.declared.change.Change.{Change}
use Rattle.thes_tables.specs.Rows.{tables_after_delta}
use Rattle.thes_tables.specs.Cells.{cells_of_tables}
use Rattle.thes_tables.proofs.CellLemmas.{listed_one}
use Rattle.thes_store.specs.Covers.{Covers, IndexesByPlaceThroughout}
use Rattle.thes_store.specs.Room.{tables_in_memory}
use Rattle.thes_store.proofs.CoverLemmas.{covers_both}
use Rattle.thes_store.proofs.mem.MemKeeperKeeper.commit.Goals as goal

pub invariant_of-self-in_err-cover_all : goal.invariant_of-self-in_err-cover_all
invariant_of-self-in_err-cover_all c = (
  (covers_both _ _ c.args.delta c.as_slice-given.result.now c.len-moves.result (tables_in_memory c.make_room.new.self)
      _ _ _ c.cover_all.ensures (search rules) c.make_room.ensures.same c.self.view_is
      (c.requires.fits tt c.args.self.now refl) (search rules) c.self.invariant.0).0,
  c.make_room.ensures.found c.self.invariant.1,
)

pub apply_changes-requires-clause-standing : goal.apply_changes-requires-clause-standing
apply_changes-requires-clause-standing c =
    let copies : c.as_slice-given.result.now ≡ c.into_changes-changes.result.items = search rules in
    let both = covers_both _ _ c.args.delta c.as_slice-given.result.now c.len-moves.result
    (tables_in_memory c.make_room.new.self) _ _ (Ok c.in_ok-cover_all.field-0) c.in_ok-cover_all.ensures
    (search rules) c.make_room.ensures.same c.self.view_is (c.requires.fits tt c.args.self.now refl)
    (search rules) c.self.invariant.0 in
    subst (λ (l : List Change). IndexesByPlaceThroughout c.cover_all.new.indexes.standing l
    (tables_in_memory c.make_room.new.self)) copies both.1.standing

pub invariant_of-self-2 : goal.invariant_of-self-2
invariant_of-self-2 c =
    let copies : c.as_slice-given.result.now ≡ c.into_changes-changes.result.items = search rules in
    let both = covers_both _ _ c.args.delta c.as_slice-given.result.now c.len-moves.result
    (tables_in_memory c.make_room.new.self) _ _ (Ok c.in_ok-cover_all.field-0) c.in_ok-cover_all.ensures
    (search rules) c.make_room.ensures.same c.self.view_is (c.requires.fits tt c.args.self.now refl)
    (search rules) c.self.invariant.0 in (
      subst (Covers c.cover_all.new.indexes)
          (ap (λ (l : List Change). tables_after_delta l (tables_in_memory c.make_room.new.self)) copies
          ∙ sym c.apply_changes.ensures.tables) both.1.last,
      c.apply_changes.ensures.found,
    )

pub returns-clause-ok : goal.returns-clause-ok
returns-clause-ok c = λ up t same.
    ap cells_of_tables (search rules ∙ ap (tables_after_delta c.args.delta) (listed_one c.args.self.now t same))
