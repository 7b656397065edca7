-- Proves that the tables of a new store encode the empty state.
use Rattle.std.proofs.Common.{◌≡◌, ◌⊎◌, inl, inr, refl, subst, ℕ, List, Option, None, arith}
use Rattle.std.specs.Prelude.{◌<◌}
use Rattle.std.specs.FinSet as set
use Rattle.thes_base.specs.Forms.{IsBase}
use Rattle.thes_base.specs.Labels.{label_cmp}
use Rattle.thes_base.specs.Links.{Holds, link_cmp}
use Rattle.thes_base.specs.declared.data.Link.{Link}
use Rattle.thes_base.specs.State.{empty_state}
use Rattle.thes_base.proofs.MachineLemmas.{legal_empty}
use Rattle.thes_base.specs.declared.fault.Fault.{Fault}
use Rattle.thes_base.specs.declared.fault.Fault.TheVariants as faults
use Rattle.thes_base.specs.declared.fault.PipeFault.TheVariants as pipe
use Rattle.thes_base.proofs.NumberedLemmas.{none_at}
use Rattle.thes_tables.specs.Cells.{Raw, cells_of_tables}
use Rattle.thes_tables.specs.Tables.{Tables, hier_link, empty_tables}
use Rattle.thes_store.specs.Causes.{max_failures}
use Rattle.thes_office.proofs.StateTableLemmas.{faulty_has_no_state}
use Rattle.thes_office.specs.TablesOfState.{TablesOfState}
use Rattle.thes_cli.specs.Checking.{no_sizes, sizes_of}
use Rattle.thes_command_line.specs.Printing.{Prints, fault_line}
use Rattle.thes_office.specs.Opening.{IsUnopened}
use Rattle.thes_cli.specs.declared.streams.Streams.{Streams}
use Rattle.thes_cli.specs.Stores.{WorksInMemory, storage_in_memory}
use Rattle.thes_cli.specs.Work.{WorksOverKeeper}
use Rattle.thes_jobs.specs.declared.work.MemoryWork.{MemoryWork}

no_link : (l : Link) → Holds set.empty l → ⊥
no_link l h = let e = set.contains-empty link_cmp l in cc

-- The tables of a new store encode the empty state.
pub new_store_shows : (base : List ℕ) → IsBase base → TablesOfState (cells_of_tables (empty_tables base)) base
    empty_state
new_store_shows base form = record {
  tables = empty_tables base;
  rows = refl;
  holds = record {
    base_is = refl;
    resource = refl;
    outside = record { same = refl; ascends = tt };
    label = record {
      sound = λ row is. absurd is;
      complete =
          λ row h. absurd (let e = set.contains-empty label_cmp row in cc);
      once = tt;
    };
    link = record { sound = λ row is. absurd is; complete = λ row h. absurd (no_link row h.0); once = tt };
    hier = record { sound = λ row is. absurd is; complete = λ row h. absurd (no_link (hier_link row) h); once = tt };
    posting = refl;
    move = record { rises = tt; sound = λ row is. absurd is; complete = λ row h. absurd (none_at _ h.0 h.1) };
  };
  legal = legal_empty base form;
}

-- The sizes of a new store are all 0.
pub empty_sizes : sizes_of empty_state ≡ no_sizes
empty_sizes i = record {
  resources = 0;
  labels = set.len-empty label_cmp i;
  links = set.len-empty link_cmp i;
  accepted = 0;
  withdrawn = 0;
  moves = 0;
}

-- Opening a new store in memory fails only if memory runs out: the storage can't fail, and the rows
-- load.
no_failure : (0 < 0) ⊎ (0 ≡ max_failures) → ⊥
no_failure (inl less) = omega (arith, less)
no_failure (inr full) = omega (arith, full)

only_memory : (base : List ℕ) (fault : Fault) (tables_after : Tables)
    → TablesOfState (cells_of_tables (empty_tables base)) base empty_state
    → IsUnopened storage_in_memory (empty_tables base) fault tables_after → fault
    ≡ faults.OutOfMemory
only_memory base fault tables_after shows un = elim (un.verdict tt) [
  | inl memory ↦ memory
  | inr (inl store) ↦ absurd (no_failure (un.keeps.store store))
  | inr (inr faulty) ↦ absurd (faulty_has_no_state (cells_of_tables (empty_tables base)) fault faulty base empty_state
      shows)
]

module _ {F R W E : Type 0} (given : F → Option (List ℕ)) (remaining : R → Option (List ℕ))
    (out : W → Option (List ℕ)) (err : E → Option (List ℕ)) where
  -- Work over a new storage in memory is work over the empty state, or memory ran out.
  pub works_in_memory : {P L : Type 0} (is_open : Tables → Type 0) (finds : Tables → Raw → Type 0)
      (job : MemoryWork P F L) (old : Streams R W E) (status : ℕ) (tables_after : Tables) (new : Streams R W E)
      → IsBase job.setting.base
      → WorksOverKeeper storage_in_memory is_open finds given remaining out err job.work None job.setting.limits
      (empty_tables job.setting.base) old status tables_after new
      → WorksInMemory given remaining out err job old status new
  works_in_memory is_open finds job old status tables_after new form (inl opens, found) =
      record {
        shows = new_store_shows job.setting.base form;
        nothing = empty_sizes;
        tables_after = tables_after;
        works = inl opens;
      }
  works_in_memory is_open finds job old status tables_after new form (inr un, found) = record {
    shows = new_store_shows job.setting.base form;
    nothing = empty_sizes;
    tables_after = tables_after;
    works = inr record {
      input = un.input;
      output = un.output;
      prints_it = subst (λ (f : Fault). Prints err old.errors new.errors (fault_line (pipe.Fault f)))
          (only_memory job.setting.base un.fault tables_after (new_store_shows job.setting.base form) un.fails_to_open)
          un.prints_it;
      status_is = un.status_is;
    };
  }
