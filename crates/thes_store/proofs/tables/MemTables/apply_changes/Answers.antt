use Rattle.std.proofs.Common.{arith, List, ◌≡◌, ◌∙◌, ◌+◌, ap, sym, subst, drop, length, length-append, [], ◌∷◌, ◌++◌}
use Rattle.std.proofs.lemmas.Grind.{common_steps}
use Rattle.std.proofs.lemmas.Iterator.Adapters.{YieldsList-from_vec}
use Rattle.std.proofs.lemmas.Iterator.Consumers.{YieldsList-turn, YieldsList-so_far}
use Rattle.std.proofs.lemmas.List.{map-id}
use Rattle.thes_tables.specs.declared.change.Change.{Change}
use Rattle.thes_tables.specs.Tables.{Tables}
use Rattle.thes_tables.specs.Rows.{tables_after_change, tables_after_delta}
use Rattle.thes_tables.proofs.DeltaAppendLemmas.{all_append}
use Rattle.thes_store.specs.Covers.{IndexesByPlace}
use Rattle.thes_store.specs.Room.{tables_in_memory, IsReadyForChanges}
use Rattle.thes_store.proofs.RoomLemmas.{drop_none, ready_next, room_first}
use Rattle.thes_store.proofs.tables.MemTables.apply_changes.Goals as goal

pub loop-change-init : goal.loop-change-init
loop-change-init c = grind (arith, common_steps, drop_none)

pub apply_change-requires-clause-standing : goal.apply_change-requires-clause-standing
apply_change-requires-clause-standing c =
    let done = c.loop-change.yielded in
    let all = c.args.changes.items in
    let given = c.into_iter-change-iterator.ensures.into_iter_gives in
    let road = YieldsList-from_vec {s = c.into_iter-change-iterator.result} all given.0
    (given.1 ∙ c.args.changes.ok.0) in
    let first = sym (YieldsList-so_far road done c.loop-change.change-iterator c.loop-change.yielded_by)
    ∙ map-id done in
    subst (λ (t : Tables). IndexesByPlace c.args.standing.now t.posting)
    (ap (λ (l : List Change). tables_after_delta l (tables_in_memory c.args.self.now)) first
    ∙ sym c.loop-change.invariant.tables) (c.requires.standing (length done))

pub apply_change-requires-clause-ready : goal.apply_change-requires-clause-ready
apply_change-requires-clause-ready c =
    let done = c.loop-change.yielded in
    let all = c.args.changes.items in
    let given = c.into_iter-change-iterator.ensures.into_iter_gives in
    let road = YieldsList-from_vec {s = c.into_iter-change-iterator.result} all given.0
    (given.1 ∙ c.args.changes.ok.0) in
    let t = YieldsList-turn road done c.loop-change.change-iterator c.loop-change.yielded_by c.next.result
    c.next.new.self c.in-Some.change c.in-Some.is c.next.ensures.steps in
    let ready = ready_next c.loop-change.self all (length done) c.in-Some.change t.0 t.1
    c.loop-change.invariant.ready in
    record {
      room = room_first c.loop-change.self c.in-Some.change (drop (length done + 1) all) ready.room;
      index = ready.index;
    }

pub loop-change-preserved : goal.loop-change-preserved
loop-change-preserved c =
    let done = c.loop-change.yielded in
    let change = c.in-Some.change in
    let all = c.args.changes.items in
    let given = c.into_iter-change-iterator.ensures.into_iter_gives in
    let road = YieldsList-from_vec {s = c.into_iter-change-iterator.result} all given.0
    (given.1 ∙ c.args.changes.ok.0) in
    let t = YieldsList-turn road done c.loop-change.change-iterator c.loop-change.yielded_by c.next.result
    c.next.new.self change c.in-Some.is c.next.ensures.steps in
    let e : length (done ++ change ∷ []) ≡ length done + 1 = length-append done (change ∷ []) in
    let rest = c.apply_change.ensures.ready (drop (length done + 1) all)
    (ready_next c.loop-change.self all (length done) change t.0 t.1 c.loop-change.invariant.ready) in
    record {
      tables = c.apply_change.ensures.tables ∙ ap (tables_after_change change) c.loop-change.invariant.tables
          ∙ sym (all_append done (change ∷ []) (tables_in_memory c.args.self.now));
      ready = subst (λ n. IsReadyForChanges (drop n all) c.apply_change.new.self) (sym e) rest;
    }
