-- Proves that a core built from all rows of the storage is a copy of its tables, and that a fault other than
-- OutOfMemory and Store is the verdict on these rows.
use Rattle.std.proofs.lemmas.Grind.{common_steps}
use Rattle.std.proofs.Common.{◌≡◌, ◌≢◌, ◌⊎◌, sym, subst, ◌∙◌, inl, inr, arith}
use Rattle.std.specs.Prelude.{Err}
use Rattle.thes_base.specs.declared.data.Limits.{Limits}
use Rattle.thes_base.specs.declared.fault.Fault.{Fault}
use Rattle.thes_base.specs.declared.fault.Fault.TheVariants as faults
use Rattle.thes_tables.specs.Cells.{Raw}
use Rattle.thes_core.specs.CoreView.{CoreView}
use Rattle.thes_store.specs.Sinks.{SinkAcceptsAll, sink_rows}
use Rattle.thes_office.specs.declared.loader.Loader.{Loader}
use Rattle.thes_office.specs.LoadedCore.{IsLoaded}
use Rattle.thes_office.specs.LoaderFeed.{IsBegun, KnowsRows, FeedResult}
use Rattle.thes_load_rules.specs.Verdicts.{HasVerdict}
use Rattle.thes_load_rules.specs.Rules.{state_of}
use Rattle.thes_office.specs.FoundStates.{IsFaultOfFound}
use Rattle.thes_office.specs.Office.{IsCopy}
use Rattle.thes_office.specs.TablesOfState.{TablesOfState}
use Rattle.thes_office.proofs.StateTableLemmas.{loaded_shows_state}
use Rattle.thes_office.proofs.StoreFeedLemmas.{loader_reads_all}

loaded_copies : (raw : Raw) (limits : Limits) (copy : CoreView) → copy.setting.limits ≡ limits → IsLoaded raw copy
    → IsCopy raw limits copy
loaded_copies raw limits copy set is = record {
  limits_are = set;
  state = state_of is.0;
  holds = is.2;
  shows = subst (λ (base : _). TablesOfState raw base (state_of is.0)) (sym is.3) (loaded_shows_state raw is.0 is.1);
}

-- A core built by a loader that accepted these rows is a copy of them.
pub copy_of_accepted : (limits : Limits) (raw : Raw) (old new : Loader) (copy : CoreView) → IsBegun limits old
    → SinkAcceptsAll FeedResult old (sink_rows raw) new → copy.setting.limits ≡ new.limits
    → ((raw : Raw) → KnowsRows new raw → IsLoaded raw copy) → IsCopy raw limits copy
copy_of_accepted limits raw old new copy begun yields set loads =
    let knows = loader_reads_all limits raw old new begun yields in
    loaded_copies raw limits copy (set ∙ knows.1) (loads raw knows.0)

-- The verdict on rows is never Store.
never_store : (raw : Raw) (fault : Fault) → HasVerdict raw (Err fault) → fault ≡ faults.Store → ⊥
never_store raw fault h is = grind (arith, common_steps)

-- The fault that a load returns is OutOfMemory, Store or the verdict on the rows.
verdict_of_fault : (raw : Raw) (fault told : Fault) → (fault ≢ faults.Store → told ≡ fault)
    → (fault ≡ faults.OutOfMemory) ⊎ HasVerdict raw (Err fault) → (told ≡ faults.OutOfMemory)
    ⊎ ((told ≡ faults.Store) ⊎ HasVerdict raw (Err told))
verdict_of_fault raw fault told same (inl is) = inl (same (λ e. absurd (cc)) ∙ is)
verdict_of_fault raw fault told same (inr loads) =
    inr (inr (subst (λ (f : Fault). HasVerdict raw (Err f)) (sym (same (never_store raw fault loads))) loads))

-- The fault of a loader that accepted these rows is OutOfMemory, Store or the verdict on them.
pub verdict_on_accepted : (limits : Limits) (raw : Raw) (old new : Loader) (fault told : Fault) → IsBegun limits old
    → SinkAcceptsAll FeedResult old (sink_rows raw) new → (fault ≢ faults.Store → told ≡ fault)
    → (fault ≡ faults.OutOfMemory) ⊎ ((raw : Raw) → KnowsRows new raw → HasVerdict raw (Err fault))
    → (told ≡ faults.OutOfMemory) ⊎ ((told ≡ faults.Store) ⊎ HasVerdict raw (Err told))
verdict_on_accepted limits raw old new fault told begun yields same (inl is) =
    verdict_of_fault raw fault told same (inl is)
verdict_on_accepted limits raw old new fault told begun yields same (inr loads) =
    verdict_of_fault raw fault told same (inr (loads raw (loader_reads_all limits raw old new begun yields).0))

-- The fault of a load is OutOfMemory, Store or the verdict on the rows found.
pub found_fault : {finds : Raw → Type 0} {fault : Fault} (raw : Raw) → finds raw
    → (fault ≡ faults.OutOfMemory) ⊎ ((fault ≡ faults.Store) ⊎ HasVerdict raw (Err fault))
    → IsFaultOfFound finds fault
found_fault raw found h = grind (arith, common_steps)
