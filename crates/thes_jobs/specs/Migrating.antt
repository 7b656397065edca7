-- The command `migrate`: the migration of a store from version 1 to version 2.
use Rattle.std.specs.Prelude.{◌≡◌, ℕ, List, codes, Option, Result, Ok, Err}
use Rattle.sqlite.specs.Held.{Held}
use Rattle.sqlite_trees.specs.declared.store.Store.{Ghosts}
use Rattle.thes_base.specs.declared.fault.Fault.{Fault}
use Rattle.thes_base.specs.declared.pipe.Pipe.{Pipe}
use Rattle.thes_sqlite.specs.MigrationEffects.{Migrates}
use Rattle.thes_sqlite.specs.declared.cause.Cause.{Cause}
use Rattle.thes_command_line.specs.Printing.{Prints, PrintsText, file_fault_lines}
use Rattle.thes_command_line.specs.declared.trouble.StoreTrouble.TheVariants.{Unwritable}
use Rattle.thes_jobs.specs.Trouble.{trouble_of}

-- The line of a store's version after a migration.
abbrev pub version_line : List ℕ
version_line = codes "version 2\n"

module _ {W E : Type 0} (out : W → Option (List ℕ)) (err : E → Option (List ℕ))
    (output output' : Pipe W) (errors errors' : Pipe E) where
  -- The store couldn't be migrated: the fault is printed, after a line with the name of the store's file and, for
  -- Store, the reason that some cause gives; the status is 3.
  pub record ReportsUnmigrated (file : List ℕ) (fault : Fault) (status : ℕ) : Type 0 where
    pub cause : Cause
    pub silent : output' ≡ output
    pub prints_it : Prints err errors errors' (file_fault_lines file (trouble_of cause Unwritable) fault)
    pub status_is : status ≡ 3

  -- The result of a migration is printed: the version, or the fault.
  abbrev pub ReportsMigration : List ℕ → Result ℕ Fault → ℕ → Type 0
  ReportsMigration file (Ok version) status = PrintsText out err output output' errors errors' version_line status
  ReportsMigration file (Err fault) status = ReportsUnmigrated file fault status

  module _ {S : Type 0} (store : Ghosts S) where
    -- The command `migrate` over an existing store: the database is migrated, or a fault prevents that; the version or
    -- the fault is printed.
    pub record MigratesDatabase (file : List ℕ) (conn : Held S) (status : ℕ) (back : Held S) : Type 0 where
      pub result : Result ℕ Fault
      pub migrates : Migrates store conn back result
      pub reports : ReportsMigration file result status
