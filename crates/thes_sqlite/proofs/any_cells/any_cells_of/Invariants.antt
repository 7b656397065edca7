use Rattle.std.proofs.Common.{◌≡◌, take, map}
use Rattle.thes_sqlite.specs.ValueCells.{cell_of}
use Rattle.thes_sqlite.proofs.any_cells.any_cells_of.Given as goal

abbrev pub invariant-columns : goal.invariant-columns
invariant-columns l = l.cells.items ≡ map cell_of (take l.at l.row)
