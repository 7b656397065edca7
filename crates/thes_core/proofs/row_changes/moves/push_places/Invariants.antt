use Rattle.std.proofs.Common.{◌≡◌, ◌++◌, drop, map}
use Rattle.thes_core.specs.Deltas.{place_change}
use Rattle.thes_core.proofs.row_changes.moves.push_places.Given as goal

-- The changes so far, followed by those of the remaining postings, are the whole list of changes.
abbrev pub invariant-loop-posting : goal.invariant-loop-posting
invariant-loop-posting l = l.delta ++ map (place_change l.target) (drop l.posting-index l.postings) ≡ l.fn.delta
    ++ map (place_change l.target) l.postings
