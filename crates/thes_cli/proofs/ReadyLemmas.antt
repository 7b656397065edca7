-- Proves that the results computed from an office's core are those of the state that its tables encode.
use Rattle.std.proofs.Common.{◌≡◌, ◌∙◌, ap, subst, ℕ, List, Result, Ok, Err}
use Rattle.std.specs.Prelude.{length}
use Rattle.std.specs.Borrow.{Bor}
use Rattle.std.specs.FinSet as set
use Rattle.thes_base.specs.State.{State}
use Rattle.thes_base.specs.declared.data.Limits.{Limits}
use Rattle.thes_base.specs.declared.fault.Fault.{Fault}
use Rattle.thes_base.specs.declared.fault.PipeFault.{PipeFault}
use Rattle.thes_base.specs.declared.fault.PipeFault.TheVariants as pipe
use Rattle.thes_base.specs.declared.pipe.Pipe.{Pipe}
use Rattle.thes_base.specs.Pipe.{KeepsCallLimit}
use Rattle.thes_tables.specs.Cells.{Raw}
use Rattle.thes_store.specs.Storage.{StorageView}
use Rattle.thes_core.specs.CoreView as core
use Rattle.thes_core.specs.CoreView.{IsViewOf}
use Rattle.thes_core.specs.declared.reading.Sizes.{Sizes}
use Rattle.thes_office.specs.Office.{FaultBehaviour, IsCopy, OfficeView, ReadyResult}
use Rattle.thes_office.proofs.StateTableLemmas.{state_is_unique}
use Rattle.thes_office.proofs.OfficeViewLemmas.{behaviour_with_value}
use Rattle.thes_cli.specs.Checking.{sizes_of, FindsSizes}
use Rattle.thes_cli.specs.Writing.{InStore, WritesState}

-- The sizes of a core are those of each state that it holds.
pub sizes_are : (z : Sizes) (copy : core.CoreView) (s : State) → IsViewOf copy s → z.resources ≡ length copy.resources
    → z.labels ≡ set.len copy.labels → z.links ≡ set.len copy.links
    → z.accepted ≡ copy.posting_counts.accepted → z.withdrawn ≡ copy.posting_counts.withdrawn
    → z.moves ≡ copy.posting_counts.moves → z ≡ sizes_of s
sizes_are z copy s holds r l k a w m i = record {
  resources = (r ∙ ap (λ (t : State). length t.resources) holds.state) i;
  labels = (l ∙ ap (λ (t : State). set.len t.labels) holds.state) i;
  links = (k ∙ ap (λ (t : State). set.len t.links) holds.state) i;
  accepted = (a ∙ holds.posting_counts.accepted) i;
  withdrawn = (w ∙ holds.posting_counts.withdrawn) i;
  moves = (m ∙ holds.posting_counts.moves) i;
}

-- If each state that a copy holds has a property with the copy's base, so does the state that the
-- rows encode.
pub held_in_store : (raw : Raw) (limits : Limits) (copy : core.CoreView) (P : List ℕ → State → Type 0)
    → IsCopy raw limits copy → ((s : State) → IsViewOf copy s → P copy.setting.base s) → InStore raw P
held_in_store raw limits copy P is so base s x =
    let one = state_is_unique raw copy.setting.base base is.state s is.shows x in
    subst (P base) one.1 (subst (λ (b : List ℕ). P b is.state) one.0 (so is.state is.holds))

module _ {K : Type 0} (view : K → StorageView) where
  -- The contract of `ready` holds also for a result that is equal to the one returned.
  ready_with : (old new : OfficeView K) (result same : Result (Bor core.CoreView) Fault)
      → ReadyResult view old result new → result ≡ same → ReadyResult view old same new
  ready_with old new result same ready is =
      subst (λ (r : Result (Bor core.CoreView) Fault). ReadyResult view old r new) is ready

  pub sizes_found : (old new : OfficeView K) (result : Result (Bor core.CoreView) Fault) (copy : Bor core.CoreView)
      (z : Sizes) → ReadyResult view old result new → result ≡ Ok copy
      → ((s : State) → IsViewOf copy.now s → z ≡ sizes_of s) → FindsSizes view old (Ok z) new
  sizes_found old new result copy z ready is so =
      let here = ready_with old new result (Ok copy) ready is in record {
        fault_behaviour = behaviour_with_value view old new copy z here.fault_behaviour;
        same = here.same;
        sizes = λ up. held_in_store (view new.keeper).rows new.limits copy.now (λ base s. z ≡ sizes_of s)
            (here.shown.copies up) so;
      }

  -- A call that failed has the same effects, whatever it would have returned.
  unready : {A B : Type 0} (old new : OfficeView K) (fault : Fault) → FaultBehaviour view old new
      (let x : Result A Fault = Err fault in x) → FaultBehaviour view old new (let x : Result B Fault =
      Err fault in x)
  unready old new fault fault_behaviour = record {
    limits = fault_behaviour.limits;
    was = fault_behaviour.was;
    later = fault_behaviour.later;
    count = tt;
    store = fault_behaviour.store;
    other_faults = fault_behaviour.other_faults;
    stale = fault_behaviour.stale;
    fault = fault_behaviour.fault;
  }

  module _ {W A : Type 0} (Writes : List ℕ → State → Pipe W → Pipe W → Result A PipeFault → Type 0)
      (output output' : Pipe W) where
    -- Output that is right for each state that the office's core holds is right for the state that the tables encode.
    pub state_written : (old new : OfficeView K) (result : Result (Bor core.CoreView) Fault)
        (copy : Bor core.CoreView) (ended : Result A PipeFault) → ReadyResult view old result new → result ≡ Ok copy
        → ((s : State) → IsViewOf copy.now s → Writes copy.now.setting.base s output output' ended)
        → KeepsCallLimit output output' → WritesState view Writes old output ended new output'
    state_written old new result copy ended ready is so calls =
        let here = ready_with old new result (Ok copy) ready is in record {
          ready = Ok tt;
          fault_behaviour = behaviour_with_value view old new copy tt here.fault_behaviour;
          same = here.same;
          writes = (
            λ up. held_in_store (view new.keeper).rows new.limits copy.now
                (λ base s. Writes base s output output' ended) (here.shown.copies up) so,
            calls,
          );
        }

    -- If the office has no core, since a load failed, nothing is written.
    pub state_unwritten : (old new : OfficeView K) (result : Result (Bor core.CoreView) Fault) (fault : Fault)
        (ended : Result A PipeFault) → ReadyResult view old result new → result ≡ Err fault
        → ended ≡ Err (pipe.Fault fault) → output' ≡ output → WritesState view Writes old output ended new output'
    state_unwritten old new result fault ended ready is reports same =
        let here = ready_with old new result (Err fault) ready is in record {
          ready = Err fault;
          fault_behaviour = unready old new fault here.fault_behaviour;
          same = here.same;
          writes = (reports, same);
        }
