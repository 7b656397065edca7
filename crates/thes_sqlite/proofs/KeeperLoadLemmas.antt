-- Proves that a load passes the rows of all tables to the sink, table after table.
use Rattle.std.proofs.lemmas.Grind.{common_steps}
use Rattle.std.proofs.Common.{arith, ◌≡◌, ◌<◌, ◌+◌, ℕ, List, [], ◌∷◌, length, take, get_or, append-nil, Option}
use Rattle.std.proofs.Common.{Result, Ok}
use Rattle.std.proofs.Common.{Err, subst, ◌∙◌}
use Rattle.sqlite.specs.Tree.{Trees}
use Rattle.sqlite.specs.State.{HasCleanDisk}
use Rattle.sqlite.specs.Held.{Held, state}
use Rattle.sqlite_trees.specs.declared.store.Store.{Ghosts}
use Rattle.thes_base.specs.declared.fault.Fault.{Fault}
use Rattle.thes_base.specs.declared.fault.Table.{Table}
use Rattle.thes_tables.specs.declared.cells.Cell.{Cell}
use Rattle.thes_sql.specs.Reads.{IsReadable, LeavesTables}
use Rattle.thes_store.specs.Sinks.{SinkAcceptsAll, SinkAcceptsPrefix, SinkOutcome, sink_rows_of_table}
use Rattle.thes_store.specs.Sinks.{sink_rows_of_tables}
use Rattle.thes_store.specs.Storage.{KeepsStorage, QueryFrame}
use Rattle.thes_tables.specs.TableOrder.{raw_rows_of}
use Rattle.thes_store.proofs.SinkLemmas.{tables_append, part_accepted, part_refused}
use Rattle.thes_store.proofs.StorageLemmas.{kept_after, query_after}
use Rattle.thes_sqlite.specs.KeeperView.{KeeperView, raw_in, raw_table, raw_of_keeper, IsUp, IsKeeperUp, IsStore}
use Rattle.thes_sqlite.specs.KeeperView.{IsKeeperState, KeeperQueryFrame, storage_view}
use Rattle.thes_sqlite.proofs.KeeperLemmas.{before_read, readable_of}

pub raw_at : (p : Table) (db : Trees) → raw_rows_of p (raw_in db) ≡ raw_table p db
raw_at p db = grind (arith, common_steps)

-- A sink that receives a table's rows from any readable database receives them from storage that is up, since its
-- database is readable.
pub table_yielded : {S R : Type 0} (g : Ghosts S) (gives : R → Table × Option (List Cell)
    → Result (Unit {0}) Fault → R → Type 0) (view old : KeeperView S) (new : Held S) → view ≡ old
    → IsKeeperState (state g view.first) (state g view.conn) → LeavesTables g view.conn new → (p : Table)
    (before after : R) {q r : Result (Unit {0}) Fault} → q ≡ r
    → (HasCleanDisk (state g new) → IsReadable (state g view.conn).now
    → SinkOutcome gives before (sink_rows_of_table p (raw_table p (state g view.conn).now.trees)) q after)
    → IsStore (state g view.first) → IsUp (state g new)
    → SinkOutcome gives before (sink_rows_of_table p (raw_table p (state g old.conn).now.trees)) r after
table_yielded g gives view old new same kept leaves p before after is yields known up =
    let s = kept.served known (before_read g view.conn new leaves up) in
    subst (λ (k : KeeperView _ × Result (Unit {0}) Fault). SinkOutcome gives before
    (sink_rows_of_table p (raw_table p (state g k.0.conn).now.trees)) k.1 after) (λ i. (same i, is i))
    (yields up.0 (readable_of (state g view.conn).now s.keeps.0 s.keeps.1))

-- The state of a load after the tables `names`: the storage is unchanged, and the sink has their rows.
pub record LoadProgress {S R : Type 0} (g : Ghosts S) (gives : R → Table × Option (List Cell)
    → Result (Unit {0}) Fault → R → Type 0)
    (names : List Table) (start now : KeeperView S) (before after : R) : Type 0 where
  pub keeps : KeepsStorage (storage_view g start) (storage_view g now)
  pub sink_accepts : IsKeeperUp g now → SinkAcceptsAll gives before (sink_rows_of_tables (raw_of_keeper g start) names)
      after
  pub first : now.first ≡ start.first

module _ {S R : Type 0} (g : Ghosts S) (gives : R → Table × Option (List Cell) → Result (Unit {0}) Fault → R → Type 0)
    (names : List Table) (i : ℕ) (name : Table) (start mid new : KeeperView S) (before between after : R)
    (r : Result (Unit {0}) Fault) (lt : i < length names) (is : name ≡ get_or names i name)
    (p : LoadProgress g gives (take i names) start mid before between)
    (yields : IsKeeperUp g new → SinkOutcome gives between
    (sink_rows_of_table name (raw_table name (state g mid.conn).now.trees)) r after)
    (frame : KeeperQueryFrame g mid new r) where
  one : IsKeeperUp g new → SinkOutcome gives between (sink_rows_of_tables (raw_of_keeper g start) (name ∷ [])) r after
  one up = grind (arith, common_steps, raw_at, append-nil)

  pub load_progress_next : (done : Unit {0}) → r ≡ Ok done → LoadProgress g gives (take (i + 1) names) start new
      before after
  load_progress_next done ok = record {
    keeps = kept_after (storage_view g start) (storage_view g mid) (storage_view g new) p.keeps done
        (subst (QueryFrame (storage_view g mid) (storage_view g new)) ok frame.storage);
    sink_accepts = λ up. part_accepted gives (sink_rows_of_tables (raw_of_keeper g start))
        (tables_append (raw_of_keeper g start)) names i
        name before between after r done lt is (p.sink_accepts (frame.storage.was up)) ok (one up);
    first = frame.first ∙ p.first;
  }

  -- A fault at one table ends the load with a prefix of the rows in the sink.
  pub load_progress_fault : (fault : Fault) → r ≡ Err fault
      → (IsKeeperUp g new → SinkAcceptsPrefix gives fault before (sink_rows_of_tables (raw_of_keeper g start) names)
      after) × KeeperQueryFrame {T = Unit {0}} g start new (Err fault)
  load_progress_fault fault err = (
    λ up. part_refused gives (sink_rows_of_tables (raw_of_keeper g start)) (tables_append (raw_of_keeper g start))
        names i name fault before between after r lt is (p.sink_accepts (frame.storage.was up)) err (one up),
    record {
      storage = query_after (storage_view g start) (storage_view g mid) (storage_view g new) p.keeps (Err fault)
          (subst (QueryFrame (storage_view g mid) (storage_view g new)) err frame.storage);
      first = frame.first ∙ p.first;
    },
  )
