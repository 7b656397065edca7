-- The effects and results of queries of the storage.
use Rattle.std.specs.Prelude.{◌≡◌, ◌≢◌, ◌⊎◌, ◌<◌, ◌≤◌, ℕ, List, map, Option, Result, OnOk, IfErr}
use Rattle.thes_base.specs.declared.fault.Fault.{Fault}
use Rattle.thes_base.specs.declared.fault.Fault.TheVariants as faults
use Rattle.thes_base.specs.declared.data.History.{History}
use Rattle.thes_base.specs.declared.request.Command.{Command}
use Rattle.thes_base.specs.Resources.{entry_at}
use Rattle.thes_base.specs.State.{State}
use Rattle.thes_tables.specs.Cells.{Raw}
use Rattle.thes_tables.specs.declared.rows.PostingRow.{PostingRow}
use Rattle.thes_core.specs.Facts.{AreFacts, IsRowOfKey, posting_row_at, assigned_posting_numbers}
use Rattle.thes_core.specs.declared.facts.Facts.{Facts}
use Rattle.thes_store.specs.Causes.{max_failures}
use Rattle.thes_store.specs.Storage.{StorageView}
use Rattle.thes_office.specs.TablesOfState.{TablesOfState}

-- The effect of a load: the tables are unchanged if the storage is still up, and a Store fault is counted as a failure
-- of the storage, unless the count is at its maximum; any other fault leaves the count unchanged.
pub record LoadFrame {T : Type 0} (old new : StorageView) (result : Result T Fault) : Type 0 where
  pub same : new.is_up → new.rows ≡ old.rows
  pub was : new.is_up → old.is_up
  pub later : old.failures ≤ new.failures
  pub count : OnOk result (new.failures ≡ old.failures)
  pub store : IfErr result (λ f. f ≡ faults.Store → (old.failures < new.failures) ⊎ (old.failures ≡ max_failures))
  pub other_faults : IfErr result (λ f. f ≢ faults.Store → new.failures ≡ old.failures)

-- The property holds in every state that the rows encode.
abbrev pub InStateOfTables : Raw → (State → Type 0) → Type 0
InStateOfTables raw P = (base : List ℕ) (s : State) → TablesOfState raw base s → P s

-- In every state that the rows encode, the facts are those that the command needs about the postings.
abbrev pub FactsInTables : Raw → Command → Facts → Type 0
FactsInTables raw command facts = InStateOfTables raw (λ s. AreFacts command s.histories facts)

-- In every state that the rows encode, the result is the row of the posting with this key, or None if there is none.
abbrev pub KeyInTables : Raw → List ℕ → Option PostingRow → Type 0
KeyInTables raw key found = InStateOfTables raw (λ s. IsRowOfKey key s.histories found)

-- In every state that the rows encode, the result is the row of the posting with this number, or None if there is
-- none.
abbrev pub RowInTables : Raw → ℕ → Option PostingRow → Type 0
RowInTables raw n row = InStateOfTables raw (λ s. row ≡ posting_row_at s.histories n)

-- In every state that the rows encode, the result is the history of the posting with this number, or None if there is
-- none.
abbrev pub HistoryInTables : Raw → ℕ → Option History → Type 0
HistoryInTables raw n told = InStateOfTables raw (λ s. told ≡ entry_at s.histories n)

-- In every state that the rows encode, the results are the rows of the postings with these numbers, in that order.
abbrev pub RowsInTables : Raw → List ℕ → List (Option PostingRow) → Type 0
RowsInTables raw ns rows = InStateOfTables raw (λ s. rows ≡ map (posting_row_at s.histories) ns)

-- In every state that the rows encode, the numbers are those of the postings assigned to the concept, in increasing
-- order.
abbrev pub AssignedInTables : Raw → ℕ → List ℕ → Type 0
AssignedInTables raw concept numbers = InStateOfTables raw (λ s. numbers ≡ assigned_posting_numbers concept s.histories)
