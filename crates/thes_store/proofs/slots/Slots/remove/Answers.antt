use Rattle.std.proofs.Common.{arith, ◌∙◌}
use Rattle.std.proofs.lemmas.Grind.{common_steps}
use Rattle.thes_store.proofs.SlotLemmas.{fewer_rows, others_stay, position_in_bounds, none_left, found_emptied}
use Rattle.thes_store.proofs.SlotLemmas.{ready_emptied}
use Rattle.thes_store.proofs.slots.Slots.remove.Goals as goal

pub removing-smaller : goal.removing-smaller
removing-smaller g c = grind (arith, common_steps, fewer_rows)

pub removing-preserved : goal.removing-preserved
removing-preserved g c = record {
  rows = others_stay g.T.IndexedRow.same c.args.row.now c.removing.self c.empty.new.self c.in-Some.position
      c.in-Some.ensures.some c.empty.ensures.rows ∙ c.removing.invariant.rows;
  found = found_emptied g.T.IndexedRow.number_of c.removing.self c.empty.new.self c.in-Some.position
      c.empty.ensures.rows
      c.empty.ensures.index c.removing.invariant.found;
  ready = λ rest ready. ready_emptied g.T.IndexedRow.number_of c.removing.self c.empty.new.self c.in-Some.position rest
      (position_in_bounds g.T.IndexedRow.same c.args.row.now c.removing.self c.empty.new.self c.in-Some.position
      c.in-Some.ensures.some c.empty.ensures.rows) c.empty.ensures.room c.empty.ensures.index
      (c.removing.invariant.ready rest ready);
}

pub returns : goal.returns
returns g c = record {
  rows = none_left g.T.IndexedRow.same c.args.row.now c.removing.self
      (c.in_default.ensures.none c.removing.invariant.found) ∙ c.removing.invariant.rows;
  index = c.removing.invariant.found;
  room = c.removing.invariant.ready;
}
