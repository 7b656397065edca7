-- Proves that a load passes the rows that it finds, in a database that may hold anything.
use Rattle.std.proofs.lemmas.Grind.{common_steps}
use Rattle.std.proofs.Common.{◌≡◌, ◌<◌, ◌+◌, ◌∙◌, ℕ, List, [], ◌∷◌, ◌++◌, length, take, get_or, append-nil}
use Rattle.std.proofs.Common.{append_assoc, Bool, false, inl}
use Rattle.std.proofs.Common.{Option, None, Result, Ok, Err, OnOk, refl, sym, ap, subst, arith, IsTrue}
use Rattle.sqlite.specs.Effect.{Database}
use Rattle.sqlite.specs.Held.{Held, state}
use Rattle.sqlite.specs.State.{HasCleanDisk}
use Rattle.sqlite_trees.specs.declared.store.Store.{Ghosts}
use Rattle.thes_base.specs.declared.fault.Fault.{Fault}
use Rattle.thes_base.specs.declared.fault.Table.{Table}
use Rattle.thes_base.specs.declared.fault.Table.TheVariants as table
use Rattle.thes_tables.specs.declared.cells.Cell.{Cell}
use Rattle.thes_tables.specs.declared.change.Change.{Change}
use Rattle.thes_tables.specs.Cells.{Raw, RawTable}
use Rattle.thes_sql.specs.Declarations.{declares}
use Rattle.thes_sql.specs.Reads.{LeavesTables}
use Rattle.thes_store.specs.FoundLoads.{PassesFound}
use Rattle.thes_store.specs.Sinks.{SinkAcceptsAll, sink_rows_of_table, sink_rows_of_tables}
use Rattle.thes_tables.specs.TableOrder.{raw_rows_of, table_order}
use Rattle.thes_store.proofs.IndexPositionLemmas.{take_one}
use Rattle.thes_store.proofs.SinkLemmas.{accepts_then}
use Rattle.thes_sqlite.specs.KeeperView.{KeeperView, IsUp}
use Rattle.thes_sqlite.specs.FoundRows.{FindsTable, AreFoundRows, PassesTable, PassesNamed, PassesTables}
use Rattle.thes_sqlite.specs.FoundRows.{FindsInKeeper, IsKeeperOpen}
use Rattle.thes_sqlite.specs.MigrationEffects.{LeavesUnwritten}
use Rattle.thes_sqlite.specs.RowReads.{YieldsTable}
use Rattle.thes_sqlite.specs.CommitEvidence.{IsRightAnswer}
use Rattle.thes_sqlite.proofs.KeeperLemmas.{before_read, tables_then}

-- The rows found in some tables, followed by those found in one more, are those found in all of these tables.
found_more : (db : Database) (names : List Table) (p : Table) (items : List (Table × Option (List Cell)))
    (found : RawTable) → AreFoundRows db names items → FindsTable p db found
    → AreFoundRows db (names ++ p ∷ []) (items ++ sink_rows_of_table p found)
found_more db [] p items found none is =
    (found, is, ([], refl, ap (λ l. l ++ sink_rows_of_table p found) none ∙ sym (append-nil _)))
found_more db (q ∷ names) p items found h is = grind (
  arith,
  common_steps,
  found_more db names p h.2.0 found h.2.1 is,
  append_assoc,
)

-- The rows that were found in each of these tables are those of `raw`.
abbrev AreRaw : (db : Database) → Raw → (names : List Table) (items : List (Table × Option (List Cell)))
    → AreFoundRows db names items → Type 0
AreRaw db raw [] items h = Unit {0}
AreRaw db raw (p ∷ names) items h = (raw_rows_of p raw ≡ h.0) × AreRaw db raw names h.2.0 h.2.1

found_rows : (db : Database) (raw : Raw) (names : List Table) (items : List (Table × Option (List Cell)))
    (h : AreFoundRows db names items) → AreRaw db raw names items h → items ≡ sink_rows_of_tables raw names
found_rows db raw [] items h is = h
found_rows db raw (p ∷ names) items h is = h.2.2
    ∙ (λ i. sink_rows_of_table p (sym is.0 i) ++ found_rows db raw names h.2.0 h.2.1 is.1 i)

module _ {R : Type 0} (gives : R → Table × Option (List Cell) → Result (Unit {0}) Fault → R → Type 0) where
  -- If a sink receives, in place of a table's rows, the report that they can't be queried, it has received what a load
  -- finds in the table.
  pub none_passed : (p : Table) (db : Database) (old new : R) (r : Result (Unit {0}) Fault) → gives old (p, None) r new
      → FindsTable p db None → OnOk r (PassesTable gives p db old new)
  none_passed p db old new (Ok done) took found = (None, found, (new, took, refl))
  none_passed p db old new (Err fault) took found = tt

  -- If a sink receives this report for a table that isn't declared as in a store, it has received what the table
  -- yields.
  pub undeclared_yielded : {S : Type 0} (g : Ghosts S) (p : Table) (old new : Held S) (before after : R)
      (r : Result (Unit {0}) Fault) → declares (state g old).now.schema p ≡ false → gives before (p, None) r after
      → YieldsTable g gives p old new before r after
  undeclared_yielded g p old new before after r undeclared took = record {
    rows = λ clean is. let declared = is.schema.declared p in absurd (cc);
    content = λ clean. none_passed p (state g old).now before after r took (inl undeclared);
  }

  passed_in_order : (db : Database) (old new : R) → PassesNamed gives table_order db old new
      → PassesTables gives db old new
  passed_in_order db old new h =
      let meta = h.1 in
      let resource = meta.2.1 in
      let outside = resource.2.1 in
      let label = outside.2.1 in
      let link = label.2.1 in
      let hier = link.2.1 in
      let posting = hier.2.1 in
      let move = posting.2.1 in
      let raw : Raw = record {
        meta = meta.0;
        resource = resource.0;
        outside = outside.0;
        label = label.0;
        link = link.0;
        hier = hier.0;
        posting = posting.0;
        move = move.0;
      } in
      let items = found_rows db raw table_order h.0 h.1
      (refl, (refl, (refl, (refl, (refl, (refl, (refl, (refl, tt)))))))) in (
        raw,
        found raw (meta.1, (resource.1, (outside.1, (label.1, (link.1, (hier.1, (posting.1, move.1))))))),
        subst (λ l. SinkAcceptsAll gives old l new) items h.2,
      )
    where
      found : (raw : Raw) → FindsTable table.Meta db raw.meta × (FindsTable table.Resource db raw.resource
          × (FindsTable table.Outside db raw.outside × (FindsTable table.Label db raw.label
          × (FindsTable table.Link db raw.link × (FindsTable table.Hier db raw.hier
          × (FindsTable table.Posting db raw.posting × FindsTable table.Move db raw.move)))))) → (p : Table)
          → FindsTable p db (raw_rows_of p raw)
      found raw each p = grind (arith, common_steps)

  -- A load passes the tables in their order.
  pub tables_passed : (names : List Table) → names ≡ table_order → (db : Database) (old new : R)
      → PassesNamed gives names db old new → PassesTables gives db old new
  tables_passed names is db old new h = passed_in_order db old new (subst (λ l. PassesNamed gives l db old new) is h)

  -- The tables `names` were passed, and the database is unchanged.
  pub record FoundProgress {S : Type 0} (g : Ghosts S) (names : List Table) (start now : Held S) (before after : R)
      : Type 0 where
    pub leaves : LeavesTables g start now
    pub passes : IsUp (state g now) → (state g start).now ≡ (state g start).committed
        → PassesNamed gives names (state g start).now before after

  pub found_begun : {S : Type 0} (g : Ghosts S) (start : Held S) (before : R)
      → FoundProgress g [] start start before before
  found_begun g start before = grind (arith, common_steps)

  pub found_next : {S : Type 0} (g : Ghosts S) (names : List Table) (i : ℕ) (name : Table) (start mid new : Held S)
      (before between after : R) → i < length names → name ≡ get_or names i name
      → FoundProgress g (take i names) start mid before between → LeavesTables g mid new
      → (IsUp (state g new) → PassesTable gives name (state g mid).now between after)
      → FoundProgress g (take (i + 1) names) start new before after
  found_next g names i name start mid new before between after lt is so leaves one = record {
    leaves = tables_then g start mid new so.leaves leaves;
    passes = λ up settled.
        let was = before_read g mid new leaves up in
        let same = (so.leaves.same was.0 was.1 settled).0 in
        let done = so.passes was settled in
        let last = subst (λ (d : Database). PassesTable gives name d between after) same (one up) in (
          done.0 ++ sink_rows_of_table name last.0,
          subst (λ l. AreFoundRows (state g start).now l (done.0 ++ sink_rows_of_table name last.0))
              (sym (take_one names i name lt is))
              (found_more (state g start).now (take i names) name done.0 last.0 done.1 last.1),
          accepts_then gives done.0 (sink_rows_of_table name last.0) before between after done.2 last.2,
        );
  }

-- A call that leaves a database of committed rows unchanged leaves it unwritten.
pub unwritten : {S : Type 0} (g : Ghosts S) (old new : Held S) → LeavesTables g old new
    → (IsTrue (state g old).is_open → (state g old).now ≡ (state g old).committed) → LeavesUnwritten g old new
unwritten g old new leaves settled up = grind (arith, common_steps, before_read)

-- What a database showed before a query that left it unwritten, it also shows afterwards.
pub right_answer_after : {S : Type 0} (g : Ghosts S) (changes : List Change) (old new : Held S) (answer : Option Bool)
    → LeavesUnwritten g old new → (HasCleanDisk (state g new) → IsRightAnswer changes (state g old).now answer)
    → IsUp (state g new) → IsRightAnswer changes (state g new).now answer
right_answer_after g changes old new answer leaves right up =
    subst (λ (db : Database). IsRightAnswer changes db answer) (sym (leaves up).1.0) (right up.0)

module _ {S R : Type 0} (g : Ghosts S)
    (gives : R → Table × Option (List Cell) → Result (Unit {0}) Fault → R → Type 0) where
  -- A load that leaves the database unwritten passes the rows that it finds.
  pub database_passed : (old new : KeeperView S) (before : R) (result : Result (Unit {0}) Fault) (after : R)
      → LeavesUnwritten g old.conn new.conn
      → OnOk result (IsUp (state g new.conn) → PassesTables gives (state g old.conn).now before after)
      → PassesFound (IsKeeperOpen g) (FindsInKeeper g) gives old new before result after
  database_passed old new before result after leaves passes = grind (arith, common_steps)
