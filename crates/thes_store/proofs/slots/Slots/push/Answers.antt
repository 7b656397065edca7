use Rattle.std.proofs.lemmas.Grind.{common_steps}
use Rattle.std.proofs.Common.{◌≡◌, ◌+◌, refl, subst, arith}
use Rattle.std.specs.Prelude.{vec_len}
use Rattle.thes_store.specs.declared.slots.Slots.{Slots}
use Rattle.thes_store.specs.PositionLists.{HasListedPosition}
use Rattle.thes_store.proofs.SlotLemmas.{rows_pushed, found_pushed, ready_pushed}
use Rattle.thes_store.proofs.slots.Slots.push.Goals as goal

pub returns : goal.returns
returns g c =
    let number = g.T.IndexedRow.number_of in
    let s = c.args.self.now in
    let new : Slots g.row.T.Denot = record { rows = c.push_reserved.new.self; index = s.index } in
    let at = subst (HasListedPosition s.index (number c.args.row)) (let e : vec_len s.rows + 0 ≡ vec_len s.rows = omega
    arith
    in e) (c.requires.expected 0 c.args.row refl) in
    record {
      rows = grind (arith, common_steps, rows_pushed);
      index = found_pushed number s new c.args.row c.push_reserved.ensures.items refl at;
      room = λ rest ready. ready_pushed number s new c.args.row rest refl c.push_reserved.ensures.len
          c.push_reserved.ensures.capacity ready;
    }
