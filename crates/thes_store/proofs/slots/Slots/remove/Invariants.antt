use Rattle.std.proofs.Common.{◌≡◌, List, length, not, filter}
use Rattle.thes_store.specs.Slots.{rows_in, AreIndexedBy, IsReady}
use Rattle.thes_store.proofs.slots.Slots.remove.Given as goal

abbrev pub invariant-removing : goal.invariant-removing
invariant-removing g l = record {
  rows : filter (λ x. not (g.T.IndexedRow.same x l.row)) (rows_in l.self)
      ≡ filter (λ x. not (g.T.IndexedRow.same x l.row)) (rows_in l.fn.self);
  found : AreIndexedBy g.T.IndexedRow.number_of l.self;
  ready : (rest : List g.row.T.Denot) → IsReady g.T.IndexedRow.number_of l.fn.self rest
      → IsReady g.T.IndexedRow.number_of l.self rest;
}

abbrev pub decreases-removing : goal.decreases-removing
decreases-removing g l = length (rows_in l.self)
