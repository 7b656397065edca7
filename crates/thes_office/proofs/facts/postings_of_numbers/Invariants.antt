use Rattle.std.proofs.Common.{take}
use Rattle.thes_office.proofs.FactLemmas.{RowsReadSoFar}
use Rattle.thes_office.proofs.facts.postings_of_numbers.Given as goal

abbrev pub invariant-loop-posting : goal.invariant-loop-posting
invariant-loop-posting g l =
    RowsReadSoFar (g.K.Keeper.view l.fn.keeper) (g.K.Keeper.view l.keeper)
    (take l.posting-index l.postings) l.rows.items
