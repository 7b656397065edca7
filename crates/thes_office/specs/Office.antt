-- The view of an office, and the effects of its calls on the tables of its storage.
use Rattle.std.specs.Prelude.{◌≡◌, ◌≢◌, ◌⊎◌, ◌<◌, ◌≤◌, ◌++◌, ℕ, List, length, Bool, true, false, Result, Ok, Err}
use Rattle.std.specs.Prelude.{OnOk, IfOk, IfErr}
use Rattle.std.specs.List.{AllByRecursion}
use Rattle.std.specs.Borrow.{Bor}
use Rattle.thes_base.specs.declared.data.Limits.{Limits}
use Rattle.thes_base.specs.declared.fault.Fault.{Fault}
use Rattle.thes_base.specs.declared.fault.Fault.TheVariants as faults
use Rattle.thes_base.specs.declared.request.Command.{Command}
use Rattle.thes_base.specs.declared.request.Answer.{Answer}
use Rattle.thes_base.specs.declared.request.Answer.TheVariants as reply
use Rattle.thes_base.specs.Headline.{IsConsistentState}
use Rattle.thes_base.specs.Machine.{Step, Run}
use Rattle.thes_base.specs.Refusals.{Setting, AreLimits}
use Rattle.thes_base.specs.State.{State}
use Rattle.thes_tables.specs.Cells.{Raw}
use Rattle.thes_core.specs.CoreView as core
use Rattle.thes_core.specs.CoreView.{IsViewOf}
use Rattle.thes_store.specs.Causes.{max_failures}
use Rattle.thes_store.specs.Storage.{StorageView}
use Rattle.thes_office.specs.TablesOfState.{TablesOfState}

-- An office as contracts see it: all but the copy in memory.
pub record OfficeView (K : Type 0) : Type 0 where
  pub keeper : K
  pub limits : Limits
  -- Whether the copy in memory may differ from the tables.
  pub stale : Bool

-- The setting of the machine, from the base of its IRIs and its limits.
abbrev pub setting : List ℕ → Limits → Setting
setting base limits = record { base = base; limits = limits }

-- The core holds the state that the tables encode.
pub record IsCopy (raw : Raw) (limits : Limits) (copy : core.CoreView) : Type 0 where
  pub limits_are : copy.setting.limits ≡ limits
  pub state : State
  pub holds : IsViewOf copy state
  pub shows : TablesOfState raw copy.setting.base state

-- No limit exceeds 2³² - 1. While the storage is up, its tables encode a state, which the copy holds unless it is
-- stale. The copy is stale only if it is unusable or the storage has failed.
pub record IsConsistent {K : Type 0} (view : K → StorageView)
    (keeper : K) (copy : core.CoreView) (limits : Limits) (stale : Bool) : Type 0 where
  pub limits_fit : AreLimits limits
  pub shows : (view keeper).is_up → (base : List ℕ) × (s : State) × TablesOfState (view keeper).rows base s
  pub unspent : stale ≡ false → copy.spent ≡ false
  pub copies : stale ≡ false → (view keeper).is_up → IsCopy (view keeper).rows limits copy
  pub why : stale ≡ true → (copy.spent ≡ true) ⊎ (0 < (view keeper).failures)

-- The faults of every call of an office. While the storage is up, a fault is OutOfMemory or Store.
-- Store leaves the copy stale, and is counted as a failure of the storage unless the count is at
-- its maximum. Any other fault leaves the count unchanged.
pub record FaultBehaviour {K T : Type 0} (view : K → StorageView)
    (old new : OfficeView K) (result : Result T Fault) : Type 0 where
  pub limits : new.limits ≡ old.limits
  pub was : (view new.keeper).is_up → (view old.keeper).is_up
  pub later : (view old.keeper).failures ≤ (view new.keeper).failures
  pub count : OnOk result ((view new.keeper).failures ≡ (view old.keeper).failures)
  pub store : IfErr result (λ f. f ≡ faults.Store → ((view old.keeper).failures < (view new.keeper).failures)
      ⊎ ((view old.keeper).failures ≡ max_failures))
  pub other_faults : IfErr result (λ f. f ≢ faults.Store → (view new.keeper).failures ≡ (view old.keeper).failures)
  pub stale : IfErr result (λ f. f ≡ faults.Store → new.stale ≡ true)
  pub fault : (view new.keeper).is_up → IfErr result (λ f. (f ≡ faults.OutOfMemory) ⊎ (f ≡ faults.Store))

-- The tables are unchanged, if the storage is still up.
abbrev pub SameTables : {K : Type 0} → (K → StorageView) → OfficeView K → OfficeView K → Type 0
SameTables view old new = (view new.keeper).is_up → (view new.keeper).rows ≡ (view old.keeper).rows

-- The effect of every query of an office: its faults are those of every call, the tables are unchanged if the storage
-- is still up, and after a query that succeeds the copy isn't stale.
pub record OfficeQueryFrame {K T : Type 0} (view : K → StorageView)
    (old new : OfficeView K) (result : Result T Fault) : Type 0 where
  pub fault_behaviour : FaultBehaviour view old new result
  pub same : SameTables view old new
  pub fresh : OnOk result (new.stale ≡ false)

-- The answer is a refusal, or the number that a posting with the same key has already.
abbrev pub ChangesNothing : Answer → Type 0
ChangesNothing (reply.No refusal) = Unit {0}
ChangesNothing (reply.Again n) = Unit {0}
ChangesNothing _ = ⊥

-- The tables encode a state before the request; after it, they encode the state that a step of the
-- machine with this answer leads to.
pub record TablesAfterStep (limits : Limits) (old : Raw) (command : Command) (answer : Answer) (new : Raw) : Type
    0 where
  pub base : List ℕ
  pub state_before : State
  pub state_after : State
  pub tables_before : TablesOfState old base state_before
  pub step : Step (setting base limits) state_before command answer state_after
  pub shows : TablesOfState new base state_after
  pub same : ChangesNothing answer → new ≡ old

-- The tables encode a state before the run; after it, they encode the state that a run of the
-- machine with these answers leads to. That state is consistent: each posting that isn't withdrawn
-- is assigned to exactly one live concept, the counts add up, and the triples meet the conditions
-- of SKOS.
pub record TablesAfterRun (limits : Limits) (old : Raw) (commands : List Command) (answers : List Answer)
    (new : Raw) : Type 0 where
  pub base : List ℕ
  pub state_before : State
  pub state_after : State
  pub tables_before : TablesOfState old base state_before
  pub run : Run (setting base limits) state_before commands answers state_after
  pub shows : TablesOfState new base state_after
  pub in_order : IsConsistentState base state_after

-- If the storage is still up, the answer and the tables are those of a step of the machine, or a fault leaves the
-- tables unchanged.
abbrev pub PerformResult : {K : Type 0} → (K → StorageView) → OfficeView K → Command → Result Answer Fault
    → OfficeView K → Type 0
PerformResult view old command (Ok answer) new =
    (view new.keeper).is_up → TablesAfterStep old.limits (view old.keeper).rows command answer (view new.keeper).rows
PerformResult view old command (Err fault) new = SameTables view old new

-- A run that a fault stopped: it has answered a proper prefix of the requests, and if the storage is still up, the
-- tables are those after this prefix.
pub record PartialRun {K : Type 0} (view : K → StorageView) (old : OfficeView K)
    (commands : List Command) (before after : List Answer) (new : OfficeView K) : Type 0 where
  pub commands_done : List Command
  pub commands_left : List Command
  pub answers : List Answer
  pub all : commands ≡ commands_done ++ commands_left
  pub some : 0 < length commands_left
  pub each : length answers ≡ length commands_done
  pub kept : after ≡ before ++ answers
  pub goes_on : (view new.keeper).is_up → TablesAfterRun old.limits (view old.keeper).rows commands_done answers
      (view new.keeper).rows
  pub same : (view new.keeper).is_up → AllByRecursion ChangesNothing answers → (view new.keeper).rows
      ≡ (view old.keeper).rows

-- A run that answered every request; if the storage is still up, the tables are those after all of them.
pub record CompleteRun {K : Type 0} (view : K → StorageView) (old : OfficeView K)
    (commands : List Command) (before after : List Answer) (new : OfficeView K) : Type 0 where
  pub answers : List Answer
  pub each : length answers ≡ length commands
  pub kept : after ≡ before ++ answers
  pub goes_on : (view new.keeper).is_up → TablesAfterRun old.limits (view old.keeper).rows commands answers
      (view new.keeper).rows
  pub same : (view new.keeper).is_up → AllByRecursion ChangesNothing answers → (view new.keeper).rows
      ≡ (view old.keeper).rows

-- If the storage is still up, the answers and the tables are those of a run of the machine, over all requests, or over
-- a proper prefix before a fault.
abbrev pub RunResult : {K : Type 0} → (K → StorageView) → OfficeView K → List Command → List Answer
    → List Answer → Result (Unit {0}) Fault → OfficeView K → Type 0
RunResult view old commands before after (Ok done) new = CompleteRun view old commands before after new
RunResult view old commands before after (Err fault) new = PartialRun view old commands before after new

-- The core is usable, and while the storage is up, it holds the state that the tables encode.
pub record IsCurrentCopy {K : Type 0} (view : K → StorageView) (new : OfficeView K)
    (copy : core.CoreView) : Type 0 where
  pub unspent : copy.spent ≡ false
  pub copies : (view new.keeper).is_up → IsCopy (view new.keeper).rows new.limits copy

-- If the storage is still up, the core returned holds the state of the tables, which are unchanged.
pub record ReadyResult {K : Type 0} (view : K → StorageView)
    (old : OfficeView K) (result : Result (Bor core.CoreView) Fault) (new : OfficeView K) : Type 0 where
  pub fault_behaviour : FaultBehaviour view old new result
  pub same : SameTables view old new
  pub fresh : OnOk result (new.stale ≡ false)
  pub shown : IfOk result (λ copy. IsCurrentCopy view new copy.now)
