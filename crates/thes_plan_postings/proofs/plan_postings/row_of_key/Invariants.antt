use Rattle.std.proofs.Common.{◌≢◌, take}
use Rattle.thes_tables.specs.declared.rows.PostingRow.{PostingRow}
use Rattle.thes_tables.specs.Tables.{IsIn}
use Rattle.thes_plan_postings.proofs.plan_postings.row_of_key.Given as goal

abbrev pub invariant-loop-row : goal.invariant-loop-row
invariant-loop-row l = (row : PostingRow) → IsIn row (take l.row-index l.rows) → row.key ≢ l.key
