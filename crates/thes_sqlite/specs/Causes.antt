-- The causes of failures of storage in a database.
use Rattle.std.specs.IoError.{error_kind}
use Rattle.std.specs.declared.io.ErrorKind.{ErrorKind}
use Rattle.std.specs.declared.io.ErrorKind.TheVariants as kinds
use Rattle.sqlite.specs.declared.error.Error.{Error}
use Rattle.sqlite.specs.declared.error.Error.TheVariants.{SqliteFailure}
use Rattle.sqlite.specs.declared.error.ErrorCode.TheVariants as codes
use Rattle.sqlite.specs.declared.file.Leftover.{Leftover}
use Rattle.sqlite.specs.declared.file.Leftover.TheVariants as left
use Rattle.sqlite_disk.specs.declared.Disk as disk
use Rattle.sqlite_std_file.specs.declared.pair.OpenError.{OpenError}
use Rattle.sqlite_std_file.specs.declared.pair.OpenError.TheVariants as opening
use Rattle.thes_base.specs.declared.fault.Fault.{Fault}
use Rattle.thes_base.specs.declared.fault.Fault.TheVariants as faults
use Rattle.thes_sqlite.specs.declared.cause.Cause.{Cause}
use Rattle.thes_sqlite.specs.declared.cause.Cause.TheVariants as causes

-- The fault that has a cause: OutOfMemory if memory ran out, and else Store.
abbrev pub fault_of_cause : Cause → Fault
fault_of_cause causes.NoMemory = faults.OutOfMemory
fault_of_cause _ = faults.Store

-- The cause for an error of the database.
abbrev pub error_cause : Error → Cause
error_cause (SqliteFailure codes.OutOfMemory) = causes.NoMemory
error_cause (SqliteFailure codes.DatabaseBusy) = causes.Locked
error_cause (SqliteFailure codes.NotADatabase) = causes.NotADatabase
error_cause (SqliteFailure codes.DatabaseCorrupt) = causes.Damaged
error_cause (SqliteFailure codes.DiskFull) = causes.Full
error_cause _ = causes.Other

-- The cause of an error in opening a database. NotADatabase becomes a more exact cause by how far the opening got:
-- UnknownSchema if to the schema, Damaged if to the rows, which must obey the schema.
abbrev pub cause_at : {D : Type 0} {g : disk.Ghosts D} → Cause → Leftover D g → Cause
cause_at causes.NotADatabase (left.Files files) = causes.NotADatabase
cause_at causes.NotADatabase (left.Unopened files) = causes.UnknownSchema
cause_at causes.NotADatabase (left.Store store) = causes.Damaged
cause_at cause _ = cause

-- The cause of an error in opening a database, given what the failed opening left.
abbrev pub opening_cause : {D : Type 0} {g : disk.Ghosts D} → Error → Leftover D g → Cause
opening_cause error rest = cause_at (error_cause error) rest

-- The cause of an error in opening or making a file for reading and writing.
abbrev pub kind_cause : ErrorKind → Cause
kind_cause kinds.OutOfMemory = causes.NoMemory
kind_cause kinds.NotFound = causes.Missing
kind_cause kinds.StorageFull = causes.Full
kind_cause _ = causes.Unwritable

-- The cause of an error in opening the two files of a database.
abbrev pub files_cause : OpenError → Cause
files_cause opening.OutOfMemory = causes.NoMemory
files_cause opening.Busy = causes.Locked
files_cause opening.HotJournal = causes.Journal
files_cause (opening.Io error) = kind_cause (error_kind error)

-- A failure before the files of a database are open can have this cause: it isn't UnknownSchema or Damaged, which are
-- found in the files.
abbrev pub PrecedesOpening : Cause → Type 0
PrecedesOpening causes.UnknownSchema = ⊥
PrecedesOpening causes.Damaged = ⊥
PrecedesOpening _ = Unit {0}
