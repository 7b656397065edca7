-- The rows of a store, in any order within each table.
use Rattle.std.specs.Prelude.{◌≡◌, ◌↔◌, ℕ, List, None, Some, Ok, Err, false}
use Rattle.std.specs.List.Sorted.{IsPermutation}
use Rattle.thes_base.specs.declared.fault.Fault.{Fault}
use Rattle.thes_base.specs.declared.data.Limits.{Limits}
use Rattle.thes_base.specs.Legal.{IsLegalState}
use Rattle.thes_base.specs.State.{State}
use Rattle.thes_tables.specs.Tables.{Tables, IsRowsOf}
use Rattle.thes_tables.specs.Cells.{Raw, RawTable, cells_of_tables}
use Rattle.thes_load_rules.specs.Rules.{state_of}
use Rattle.thes_load_rules.specs.Verdicts.{HasVerdict}
use Rattle.thes_core.specs.CoreView.{CoreView, IsViewOf}
use Rattle.thes_office.specs.LoadedCore.{IsLoaded}
use Rattle.thes_row_lists.specs.SortedRows.{AreSorted}

-- The two tables have the same rows, perhaps in different orders, or neither can be queried.
abbrev pub IsArranged : RawTable → RawTable → Type 0
IsArranged None other = other ≡ None
IsArranged (Some rows) None = ⊥
IsArranged (Some rows) (Some other) = IsPermutation rows other

-- Each table has the same rows in both stores, perhaps in different orders.
pub record AreArranged (raw other : Raw) : Type 0 where
  pub meta : IsArranged raw.meta other.meta
  pub resource : IsArranged raw.resource other.resource
  pub outside : IsArranged raw.outside other.outside
  pub label : IsArranged raw.label other.label
  pub link : IsArranged raw.link other.link
  pub hier : IsArranged raw.hier other.hier
  pub posting : IsArranged raw.posting other.posting
  pub move : IsArranged raw.move other.move

-- The rows encode this legal state, in any order within each table.
pub record AreRowsOfState (base : List ℕ) (s : State) (raw : Raw) : Type 0 where
  pub legal : IsLegalState base s
  pub tables : Tables
  pub rows : IsRowsOf base s tables
  pub tables_arranged : AreArranged (cells_of_tables tables) raw

-- The rows encode a legal state, and the core holds each state that they encode.
pub record HoldsRows (raw : Raw) (core : CoreView) : Type 0 where
  pub state : State
  pub are : AreRowsOfState core.setting.base state raw
  pub holds : (base : List ℕ) (s : State) → AreRowsOfState base s raw → IsViewOf core s × (core.setting.base ≡ base)

-- The rows encode no legal state, and the fault is the verdict on them in every order, once numbered tables are sorted
-- by number.
pub record AreRefused (raw : Raw) (fault : Fault) : Type 0 where
  pub none : (base : List ℕ) (s : State) → AreRowsOfState base s raw → ⊥
  pub verdict : (other sorted : Raw) → AreArranged raw other → AreSorted other sorted → HasVerdict sorted (Err fault)

-- The core is built from these rows with the given limits, and can be used: it holds the state that the rows encode,
-- and was loaded from them once numbered tables were sorted by number.
pub record IsCoreOfRows (raw : Raw) (given : Limits) (core : CoreView) : Type 0 where
  pub content : HoldsRows raw core
  pub origin : (sorted : Raw) × AreSorted raw sorted × IsLoaded sorted core
  pub limits : core.setting.limits ≡ given
  pub readiness : core.spent ≡ false

-- The rows encode no legal state, and the fault is the verdict on them once numbered tables are sorted by number.
pub record IsFaultOfRows (raw : Raw) (fault : Fault) : Type 0 where
  pub refusal : AreRefused raw fault
  pub verdict : (sorted : Raw) × AreSorted raw sorted × HasVerdict sorted (Err fault)

-- The rows load as tables that encode the same state as `t`, with the same base.
abbrev pub LoadsSameState : Raw → Tables → Type 0
LoadsSameState raw t = (u : Tables) × HasVerdict raw (Ok u) × (state_of u ≡ state_of t) × (u.base ≡ t.base)

-- The verdict doesn't depend on the order of rows within a table, once numbered tables are sorted by number.
abbrev pub AnyOrder : Type 0
AnyOrder =
    (raw other sorted again : Raw) → AreArranged raw other → AreSorted raw sorted → AreSorted other again
    → ((fault : Fault) → HasVerdict sorted (Err fault) ↔ HasVerdict again (Err fault))
    × ((t : Tables) → HasVerdict sorted (Ok t) → LoadsSameState again t)
