-- The opening of an office over the tables of a storage.
use Rattle.std.specs.Prelude.{◌≡◌, ◌⊎◌, ℕ, List, false, Err}
use Rattle.thes_base.specs.declared.data.Limits.{Limits}
use Rattle.thes_base.specs.declared.fault.Fault.{Fault}
use Rattle.thes_base.specs.declared.fault.Fault.TheVariants.{OutOfMemory, Store}
use Rattle.thes_base.specs.State.{State}
use Rattle.thes_tables.specs.Cells.{Raw}
use Rattle.thes_core.specs.CoreView.{CoreView}
use Rattle.thes_store.specs.Storage.{KeepsStorage, StorageView}
use Rattle.thes_load_rules.specs.Verdicts.{HasVerdict}
use Rattle.thes_office.specs.FoundStates.{IsCopyOfFound, IsFaultOfFound}
use Rattle.thes_office.specs.Office.{IsCopy, OfficeView}
use Rattle.thes_office.specs.QueryFrames.{LoadFrame}
use Rattle.thes_office.specs.TablesOfState.{TablesOfState}

-- A load of a storage's tables. The storage is `keeper` before the load and `back` after it; `finds keeper` holds for
-- the rows that the load may find.
module _ {K : Type 0} (view : K → StorageView) (is_open : K → Type 0) (finds : K → Raw → Type 0) (keeper back : K) where
  -- The load built a usable core with these limits. If the storage is still up, the core holds the state of its tables;
  -- if it is still open, that of rows that the load may find.
  pub record LoadsCore (limits : Limits) (core : CoreView) : Type 0 where
    pub unspent : core.spent ≡ false
    pub copy : (view back).is_up → IsCopy (view keeper).rows limits core
    pub copy_of_found : is_open back → IsCopyOfFound (finds keeper) limits core

  -- The load built no core. If the storage is still up, the fault is OutOfMemory, Store, or the verdict on its tables;
  -- if it is still open, OutOfMemory, Store, or the verdict on rows that the load may find.
  pub record LoadsNone (fault : Fault) : Type 0 where
    pub verdict : (view back).is_up → (fault ≡ OutOfMemory) ⊎ (fault ≡ Store)
        ⊎ HasVerdict (view keeper).rows (Err fault)
    pub verdict_on_found : is_open back → IsFaultOfFound (finds keeper) fault

module _ {K : Type 0} (view : K → StorageView) where
  -- The office is opened with these limits over the tables of the storage, which, if it is still up, encode a state and
  -- are unchanged.
  pub record IsOpened (limits : Limits) (keeper : K) (office : OfficeView K) : Type 0 where
    pub limits_are : office.limits ≡ limits
    pub fresh : office.stale ≡ false
    pub keeps : KeepsStorage (view keeper) (view office.keeper)
    pub shows : (view office.keeper).is_up → (base : List ℕ) × (s : State)
        × TablesOfState (view office.keeper).rows base s

  -- No office is opened. If the storage is still up, the fault is OutOfMemory, Store, or the verdict on the rows, and
  -- the load leaves the tables unchanged.
  pub record IsUnopened (keeper : K) (fault : Fault) (back : K) : Type 0 where
    pub keeps : LoadFrame {T = CoreView} (view keeper) (view back) (Err fault)
    pub verdict : (view back).is_up → (fault ≡ OutOfMemory) ⊎ (fault ≡ Store)
        ⊎ HasVerdict (view keeper).rows (Err fault)
