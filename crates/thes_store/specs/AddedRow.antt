-- The rows that a change inserts into each table.
use Rattle.std.specs.Prelude.{ℕ, List, Option, None, Some}
use Rattle.std.specs.List.{filter_map}
use Rattle.thes_base.specs.declared.data.Resource.{Resource}
use Rattle.thes_base.specs.declared.data.Link.{Link}
use Rattle.thes_base.specs.Labels.{Label}
use Rattle.thes_tables.specs.declared.rows.HierRow.{HierRow}
use Rattle.thes_tables.specs.declared.rows.PostingRow.{PostingRow}
use Rattle.thes_tables.specs.declared.rows.MoveRow.{MoveRow}
use Rattle.thes_tables.specs.declared.change.Change.{Change}
use Rattle.thes_tables.specs.declared.change.Change.TheVariants as change

-- The resource that a change inserts; None for other changes.
abbrev pub added_resource : Change → Option Resource
added_resource (change.AddResource n row) = Some row
added_resource _ = None

-- The number and IRI of the outside concept that a change inserts; None for other changes.
abbrev pub added_outside : Change → Option (ℕ × List ℕ)
added_outside (change.AddOutside n iri) = Some (n, iri)
added_outside _ = None

-- The label that a change inserts; None for other changes.
abbrev pub added_label : Change → Option Label
added_label (change.AddLabel row) = Some row
added_label _ = None

-- The label that a change inserts or deletes; None for other changes.
abbrev pub changed_label : Change → Option Label
changed_label (change.AddLabel row) = Some row
changed_label (change.DropLabel row) = Some row
changed_label _ = None

-- The link that a change inserts into table link; None for other changes.
abbrev pub inserted_link : Change → Option Link
inserted_link (change.AddLink row) = Some row
inserted_link _ = None

-- The hierarchical link that a change inserts into table hier; None for other changes.
abbrev pub added_hier : Change → Option HierRow
added_hier (change.AddHier row) = Some row
added_hier _ = None

-- The posting that a change inserts; None for other changes.
abbrev pub added_posting : Change → Option PostingRow
added_posting (change.AddPosting row) = Some row
added_posting _ = None

-- The move that a change inserts; None for other changes.
abbrev pub added_move : Change → Option MoveRow
added_move (change.AddMove row) = Some row
added_move _ = None

-- The rows of one table that changes insert, in the order of the changes; `added_row` gives that of one change.
abbrev pub rows_added_by : {A : Type 0} → (Change → Option A) → List Change → List A
rows_added_by added_row changes = filter_map added_row changes
