-- The results of loading storage whose tables may contain any rows.
use Rattle.std.specs.Prelude.{◌≡◌, ◌⊎◌, ℕ, List, Err}
use Rattle.thes_base.specs.declared.data.Limits.{Limits}
use Rattle.thes_base.specs.declared.fault.Fault.{Fault}
use Rattle.thes_base.specs.declared.fault.Fault.TheVariants.{OutOfMemory, Store}
use Rattle.thes_base.specs.State.{State}
use Rattle.thes_tables.specs.Cells.{Raw}
use Rattle.thes_core.specs.CoreView.{CoreView}
use Rattle.thes_load_rules.specs.Verdicts.{HasVerdict}
use Rattle.thes_office.specs.Office.{IsCopy}
use Rattle.thes_office.specs.TablesOfState.{TablesOfState}

-- The core holds the state of some rows that a load may find.
abbrev pub IsCopyOfFound : (Raw → Type 0) → Limits → CoreView → Type 0
IsCopyOfFound finds limits copy = (raw : Raw) × finds raw × IsCopy raw limits copy

-- Some rows that a load may find encode a legal state.
abbrev pub FindsLegalState : (Raw → Type 0) → Type 0
FindsLegalState finds = (raw : Raw) × finds raw × ((base : List ℕ) × (s : State) × TablesOfState raw base s)

-- The fault is OutOfMemory or Store, or the verdict on rows that a load may find.
abbrev pub IsFaultOfFound : (Raw → Type 0) → Fault → Type 0
IsFaultOfFound finds fault =
    (fault ≡ OutOfMemory) ⊎ ((fault ≡ Store) ⊎ ((raw : Raw) × finds raw × HasVerdict raw (Err fault)))
