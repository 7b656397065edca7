use Rattle.std.proofs.Common.{◌≡◌, take}
use Rattle.thes_sql.specs.StoredRows.{values}
use Rattle.thes_sqlite.proofs.rows.cells_of.Given as goal

abbrev pub invariant-columns : goal.invariant-columns
invariant-columns l = values l.cells.items ≡ take l.at l.row
