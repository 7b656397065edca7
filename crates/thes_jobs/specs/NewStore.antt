-- The making of a store's tables, if its database was opened for a new store and has none.
use Rattle.std.specs.Prelude.{◌≡◌, ◌↔◌, IsTrue, Bool, List, ℕ, Result, Ok, Err}
use Rattle.sqlite.specs.Held.{Held, state}
use Rattle.sqlite.specs.State.{HasCleanDisk}
use Rattle.sqlite.specs.declared.error.Error.{Error}
use Rattle.sqlite_trees.specs.declared.store.Store.{Ghosts}
use Rattle.thes_base.specs.declared.fault.Fault.{Fault}
use Rattle.thes_base.specs.declared.fault.Fault.TheVariants.{BadStore}
use Rattle.thes_base.specs.declared.fault.Table.TheVariants as table
use Rattle.thes_tables.specs.Tables.{empty_tables}
use Rattle.thes_sql.specs.TransactionEffects.{IsEmpty}
use Rattle.thes_sql.specs.Schema.{empty_schema, store_schema}
use Rattle.thes_sql.specs.StoredRows.{KeepsIn}
use Rattle.thes_sqlite.specs.Causes.{error_cause}
use Rattle.thes_sqlite.specs.Faults.{error_fault}
use Rattle.thes_sqlite.specs.KeeperView.{IsUp}
use Rattle.thes_sqlite.specs.MigrationEffects.{IsUnwritten}
use Rattle.thes_command_line.specs.Opening.{preparation_of}
use Rattle.thes_command_line.specs.declared.opening.Opening.{Opening}
use Rattle.thes_command_line.specs.declared.opening.Preparation.{Preparation}
use Rattle.thes_command_line.specs.declared.opening.Preparation.TheVariants.{MakeTables, RemoveMark, RefuseBlank}
use Rattle.thes_command_line.specs.declared.trouble.StoreTrouble.{StoreTrouble}
use Rattle.thes_command_line.specs.declared.trouble.StoreTrouble.TheVariants.{Unreadable, Unwritable}
use Rattle.thes_jobs.specs.Trouble.{trouble_of}

-- The fault of a database without tables in which none are to be made, with its reason: a store that lacks table meta.
abbrev pub blank_fault : StoreTrouble × Fault
blank_fault = (Unreadable, BadStore table.Meta)

module _ {S : Type 0} (store : Ghosts S) where
  -- The tables couldn't be made: the fault and its reason are those of an error, and a database that is up is
  -- unchanged.
  pub record IsUnmade (old : Held S) (trouble : StoreTrouble) (fault : Fault) (new : Held S) : Type 0 where
    pub error : Error
    pub trouble_is : trouble ≡ trouble_of (error_cause error) Unwritable
    pub fault_is : fault ≡ error_fault error
    pub leaves : IsUp (state store new) → IsUnwritten (state store old) (state store new)

  -- If the database was empty and the disk hasn't failed silently, it has the tables of a new store with this base; or
  -- an error left a database that is up unchanged.
  abbrev pub MakesStore : List ℕ → Held S → Result (Unit {0}) (StoreTrouble × Fault) → Held S → Type 0
  MakesStore base old (Ok done) new =
      HasCleanDisk (state store new) → IsEmpty empty_schema (state store old).now
      → KeepsIn store_schema (state store new).committed (empty_tables base)
      × KeepsIn store_schema (state store new).now (empty_tables base)
  MakesStore base old (Err reported) new = IsUnmade old reported.0 reported.1 new

  -- The effect of a preparation: MakeTables makes the tables of a new store; the others leave the database as it is,
  -- and RefuseBlank refuses it.
  abbrev pub Prepares : Preparation → List ℕ → Held S → Result (Unit {0}) (StoreTrouble × Fault) → Held S → Type 0
  Prepares MakeTables base old result new = MakesStore base old result new
  Prepares RemoveMark base old result new = (result ≡ Ok tt) × (new ≡ old)
  Prepares RefuseBlank base old result new = (result ≡ Err blank_fault) × (new ≡ old)

  -- The database of a store was prepared as it had to be, by how it was opened and whether it has tables.
  pub record PreparesStore (opening : Opening) (base : List ℕ) (old : Held S)
      (result : Result (Unit {0}) (StoreTrouble × Fault)) (new : Held S) : Type 0 where
    pub is_blank : Bool
    pub blank : IsTrue is_blank ↔ ((state store old).now.schema ≡ empty_schema)
    pub prepares : Prepares (preparation_of opening is_blank) base old result new
