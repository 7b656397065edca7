use Rattle.std.proofs.Common.{◌≡◌, ◌<◌, ℕ}
use Rattle.std.specs.Prelude.{Some, slice_get}
use Rattle.thes_load_rows.proofs.moves.has_stored_places.Given as goal

-- The stored places compared so far are at the same index in `places`.
abbrev pub invariant-loop-i : goal.invariant-loop-i
invariant-loop-i l = (j : ℕ) (y : ℕ) → j < l.i → slice_get l.stored_places j ≡ Some y → slice_get l.places j ≡ Some y
