-- Faults of storage in a database.
use Rattle.std.specs.Prelude.{◌≡◌, ◌⊎◌, false, IsSome}
use Rattle.sqlite.specs.State.{State}
use Rattle.sqlite.specs.declared.error.Error.{Error}
use Rattle.sqlite.specs.declared.error.Error.TheVariants.{SqliteFailure}
use Rattle.sqlite.specs.declared.error.ErrorCode.TheVariants as codes
use Rattle.sqlite_disk.specs.Disk.{MoreFaults}
use Rattle.thes_base.specs.declared.fault.Fault.{Fault}
use Rattle.thes_base.specs.declared.fault.Fault.TheVariants as faults

-- The fault is one that the storage returns: OutOfMemory or Store.
abbrev pub IsKeeperFault : Fault → Type 0
IsKeeperFault fault = (fault ≡ faults.OutOfMemory) ⊎ (fault ≡ faults.Store)

-- The fault of an error of the database: OutOfMemory if memory ran out, and Store for any other error.
abbrev pub error_fault : Error → Fault
error_fault (SqliteFailure codes.OutOfMemory) = faults.OutOfMemory
error_fault _ = faults.Store

-- The disk has failed, an earlier failure had shut the database, or its queries have a limit of steps.
abbrev pub HasDeviceFailed : State → State → Type 0
HasDeviceFailed old new = MoreFaults old.faults new.faults ⊎ ((old.is_open ≡ false) ⊎ IsSome old.step_limit)

-- The store has failed: the fault is OutOfMemory, or it is Store because of the device.
abbrev pub HasFailed : State → State → Fault → Type 0
HasFailed old new fault = (fault ≡ faults.OutOfMemory) ⊎ ((fault ≡ faults.Store) × HasDeviceFailed old new)
