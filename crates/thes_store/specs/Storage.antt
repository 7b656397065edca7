-- A storage as contracts see it, and what its calls leave unchanged.
use Rattle.std.specs.Prelude.{◌≡◌, ℕ, List, Result, OnErr}
use Rattle.thes_base.specs.declared.fault.Fault.{Fault}
use Rattle.thes_tables.specs.declared.change.Change.{Change}
use Rattle.thes_tables.specs.Cells.{Raw, cells_of_tables}
use Rattle.thes_tables.specs.Rows.{tables_after_delta, DeltaFits}
use Rattle.thes_tables.specs.Tables.{Tables}
use Rattle.thes_store.specs.Causes.{HasCause}

-- A storage as contracts see it.
pub record StorageView : Type 1 where
  -- The rows of all tables, as cells.
  pub rows : Raw
  -- The storage works, and what it reads is what was committed. If this is false once, it stays false.
  pub is_up : Type 0
  -- The number of failures other than running out of memory.
  pub failures : ℕ

-- Nothing is changed, and no failure is counted: if the storage works now, it did before, and has the same rows.
pub record KeepsStorage (old new : StorageView) : Type 0 where
  pub same : new.is_up → new.rows ≡ old.rows
  pub was : new.is_up → old.is_up
  pub count : new.failures ≡ old.failures

-- The effect of every query: the rows are unchanged if the storage still works, and the count of failures agrees with
-- the result.
pub record QueryFrame {T : Type 0} (old new : StorageView) (result : Result T Fault) : Type 0 where
  pub same : new.is_up → new.rows ≡ old.rows
  pub was : new.is_up → old.is_up
  pub cause : HasCause old.failures new.failures result

-- The effect of every commit, apart from its changes: after a fault the rows are unchanged if the storage still works,
-- and the count of failures agrees with the result.
pub record CommitFrame {T : Type 0} (old new : StorageView) (result : Result T Fault) : Type 0 where
  pub same : OnErr result (new.is_up → new.rows ≡ old.rows)
  pub was : new.is_up → old.is_up
  pub cause : HasCause old.failures new.failures result

-- If the storage works and its rows encode tables, the changes fit these.
abbrev pub DeltaFitsStorage : List Change → StorageView → Type 0
DeltaFitsStorage changes old = old.is_up → (t : Tables) → old.rows ≡ cells_of_tables t → DeltaFits changes t

-- The new rows encode the tables after the changes, if the old rows encode tables.
abbrev pub RawAfterChanges : List Change → Raw → Raw → Type 0
RawAfterChanges changes old new =
    (t : Tables) → old ≡ cells_of_tables t → new ≡ cells_of_tables (tables_after_delta changes t)
