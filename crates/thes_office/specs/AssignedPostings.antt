-- The postings assigned to a concept, as a sink receives them.
use Rattle.std.specs.Prelude.{◌≡◌, ℕ, List, map, Option, None, Some, Result, Ok, Err}
use Rattle.thes_base.specs.declared.fault.Fault.{Fault}
use Rattle.thes_base.specs.declared.fault.Refusal.{Refusal}
use Rattle.thes_base.specs.RuleParts.{unless_concept}
use Rattle.thes_base.specs.State.{State}
use Rattle.thes_base.specs.Views.{assigned_histories}
use Rattle.thes_tables.specs.Cells.{Raw}
use Rattle.thes_tables.specs.Tables.{posting_row}
use Rattle.thes_tables.specs.declared.rows.PostingRow.{PostingRow}
use Rattle.thes_store.specs.Sinks.{SinkAcceptsAll, SinkAcceptsPrefix}
use Rattle.thes_office.specs.QueryFrames.{InStateOfTables}

-- The rows of the postings assigned to the concept, in the order of their numbers.
abbrev pub rows_assigned_to : State → ℕ → List PostingRow
rows_assigned_to s concept = map posting_row (assigned_histories concept s.histories)

-- The sink receives all rows, in order; or none, if the number isn't a concept's; or a prefix of them, before a fault.
abbrev pub AssignedPostingsResult : {S : Type 0} → (S → PostingRow → Result (Unit {0}) Fault → S → Type 0) → Raw → ℕ
    → S → Result (Option Refusal) Fault → S → Type 0
AssignedPostingsResult gives raw concept old (Ok None) new =
    InStateOfTables raw (λ s. unless_concept s concept None × SinkAcceptsAll gives old (rows_assigned_to s concept) new)
AssignedPostingsResult gives raw concept old (Ok (Some refusal)) new =
    (new ≡ old) × InStateOfTables raw (λ s. unless_concept s concept (Some refusal))
AssignedPostingsResult gives raw concept old (Err fault) new =
    InStateOfTables raw (λ s. SinkAcceptsPrefix gives fault old (rows_assigned_to s concept) new)
