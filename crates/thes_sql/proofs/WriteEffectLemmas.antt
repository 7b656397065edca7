-- Proves the effect of a write to a table that has no foreign keys, no AUTOINCREMENT, and no defaults that depend on
-- the time.
use Rattle.std.proofs.Common.{arith, ◌≡◌, ◌⊎◌, inl, inr, ℕ, ℤ, List, [], slice_get, Bool, true, false, cond, Option}
use Rattle.std.proofs.Common.{Some, None, Ok, Err, Result, refl, sym, ap, subst}
use Rattle.std.proofs.lemmas.Grind.{common_steps}
use Rattle.sqlite.specs.declared.types.Value.{Value}
use Rattle.sqlite.specs.declared.types.Value.TheVariants.{Null, Int}
use Rattle.sqlite.specs.Order.{Row}
use Rattle.sqlite.specs.Ops.{unary}
use Rattle.sqlite.specs.Table.{Table}
use Rattle.sqlite.specs.Schema.{Schema}
use Rattle.sqlite.specs.Kind.TheVariants.{Integer}
use Rattle.sqlite.specs.Source.{Source}
use Rattle.sqlite.specs.Command.{Command}
use Rattle.sqlite.specs.Command.TheVariants.{Insert, Update, Delete}
use Rattle.sqlite.specs.Edit.{Edit, edit_of, taken_by}
use Rattle.sqlite.specs.Cast.{cast}
use Rattle.sqlite.specs.Rowids.{Rowids}
use Rattle.sqlite.specs.Rowids.TheVariants.{Chosen, Given}
use Rattle.sqlite.specs.Does.{Tally, Does, OnRows, WritesRows, Concludes, AtPlace}
use Rattle.sqlite.specs.Rows.{Written, Task, stamped, Queried, Sourced, Edited, Counts, rowids_for, Inserts, Then}
use Rattle.sqlite.specs.Rows.{Gives}
use Rattle.sqlite.specs.declared.run.Mode.{Mode}
use Rattle.sqlite.specs.Tree.{Trees}
use Rattle.sqlite.specs.Effect.{Database, Answers}
use Rattle.sqlite_schema.specs.declared.program.Program.{Program}
use Rattle.sqlite_rules.specs.Calls.{ids_of}
use Rattle.sqlite.specs.State.{State, mode_of, Writes}
use Rattle.sqlite_schema.specs.declared.schema.Keys.TheVariants.{Enforced}
use Rattle.thes_sql.proofs.ForeignKeyLemmas.{EditsTable, WritesOnlyItself}

cond_same : (b : Bool) (x : Value) → cond b x x ≡ x
cond_same true x = refl
cond_same false x = refl

pub cast_int : (n : _) → cast Integer (Int n) ≡ Int n
unfolding unary
cast_int n = cond_same _ (Int n)

pub cast_null : cast Integer Null ≡ Null
unfolding unary
cast_null = cond_same _ Null

-- A step that returned a value didn't stop with an error.
pub value_unstopped : {B E R : Type 0} {b : B} {Stops : E → Type 0} → ((stop : E) × Stops stop × (Ok b ≡ Err stop))
    ⊎ R → R
value_unstopped (inl stopped) = absurd (let e = stopped.2 in cc)
value_unstopped (inr on) = on

pub same_value : {B E : Type 0} {a b : B} → ◌≡◌ {A = Result B E} (Ok a) (Ok b) → a ≡ b
same_value e = cc

count_same : (task : Task) (db next : Trees) (c : Option Row) (top : _) → task.table.is_counted ≡ false
    → Counts task db c top (Ok next) → next ≡ db
count_same task db next c top uncounted h = let k = rw uncounted at h in same_value k

rowids_chosen : (table : Table) (top : _) → table.is_counted ≡ false → rowids_for table top ≡ Chosen
rowids_chosen table top uncounted = rw uncounted refl

-- An INSERT without AUTOINCREMENT makes one edit of the table, with the rows of its source.
pub rows_written : (task : Task) (from : Source) (db : Trees) (w : Written) → task.table.is_counted ≡ false
    → Inserts task from db (Ok w)
    → (rows : List Row) × Sourced task.limit (record { schema = task.schema; trees = db })
    (stamped task.table task.params) from (Ok rows)
    × Edited task.schema task.keys db (edit_of db task.table [] Chosen 0 rows) (Ok w.trees)
rows_written task from db w uncounted h = grind (arith, common_steps, count_same, rowids_chosen)

pub conclusion_state : (task : Task) (mode : Mode) (w : Written) (tally : Tally) (next : Database)
    → Concludes task mode None w (Ok (tally, next)) → next ≡ record { schema = task.schema; trees = w.trees }
conclusion_state task mode w tally next h =
    ap (λ (p : Tally × Database). p.1) (same_value (value_unstopped (value_unstopped h).2).2)

-- A statement has the same effect in an equal schema.
in_schema : (schema : Schema) (command : Command) (params : Row) (text : List ℕ) (old new : State) (count : ℕ)
    → old.now.schema ≡ schema → (w : Writes old new None command text params count)
    → Does old.step_limit (mode_of old) params (record old.now { schema = schema }) text None command
    (Ok (w.tally, new.now))
in_schema schema command params text old new count has w =
    subst (λ s. Does old.step_limit (mode_of old) params (record old.now { schema = s }) text None command
    (Ok (w.tally, new.now))) has w.changed

-- A statement makes one edit, of the rows that its query selects.
read_then : (task : Task) (q : Program) (given : Row) (db : Trees) (edit : List Row → Edit)
    (rows : List Row → List Row) (w : Written)
    → Then (Queried task.limit (record { schema = task.schema; trees = db }) q given) (λ read.
    Then (Edited task.schema task.keys db (edit read)) (λ next. Gives (record {
      trees = next;
      rows = rows read;
      last = None;
    }))) (Ok w)
    → (read : List Row) × Answers (record { schema = task.schema; trees = db }) q given read
    × Edited task.schema task.keys db (edit read) (Ok w.trees)
read_then task q given db edit rows w h = grind (arith, common_steps)

-- Assumes a statement on the table at this position of the schema.
module _ (schema : Schema) (at : ℕ) (table : Table) (params : Row) (text : List ℕ) (old new : State) (count : ℕ)
    (has : old.now.schema ≡ schema) (is : slice_get schema.tables at ≡ Some table)
    (alone : WritesOnlyItself schema table) where
  abbrev task : Task
  task = record { limit = old.step_limit; keys = Enforced; schema = schema; table = table; params = params }

  abbrev db : Trees
  db = old.now.trees

  -- The database before the statement, with this schema.
  abbrev database_before : Database
  database_before = record { schema = schema; trees = db }

  -- The trees after the statement are those of the new database.
  written_rows : (command : Command) (tally : Tally)
      → AtPlace (λ t. OnRows (record task { table = t }) (mode_of old) None command db) (slice_get schema.tables at)
      (Ok (tally, new.now))
      → (w : Written) × WritesRows task db command (Ok w) × (new.now ≡ record { schema = schema; trees = w.trees })
  written_rows command tally d = grind (arith, common_steps, conclusion_state)

  -- The edit is applied, and no foreign key changes another table of the store.
  edit_applied : (ids : List ℤ) (how : Rowids) (skip : ℕ) (rows : List Row) (next : Trees)
      → Edited schema Enforced db (edit_of db table ids how skip rows) (Ok next)
      → new.now ≡ record { schema = schema; trees = next }
      → (new.now.schema ≡ schema) × EditsTable schema db (edit_of db table ids how skip rows) new.now.trees
  edit_applied ids how skip rows next did now =
      let one = alone db next (edit_of db table ids how skip rows) refl did in (
        ap (λ (d : Database). d.schema) now,
        subst (λ (d : Database). EditsTable schema db (edit_of db table ids how skip rows) d.trees) (sym now) one,
      )

  pub insert_effect : (from : Source) → table.is_counted ≡ false → Writes old new None (Insert at from) text params
      count
      → (rows : List Row) × Sourced old.step_limit database_before (stamped table params) from (Ok rows)
      × (new.now.schema ≡ schema) × EditsTable schema db (edit_of db table [] Chosen 0 rows) new.now.trees
  insert_effect from uncounted w =
      let done = written_rows (Insert at from) w.tally (in_schema schema (Insert at from) params text old new count
      has w) in
      let there = rows_written task from db done.0 uncounted done.1 in
      let made = edit_applied [] Chosen 0 there.0 done.0.trees there.2 done.2 in
      (there.0, there.1, made.0, made.1)

  pub update_effect : (q : Program) → Writes old new None (Update at q) text params count
      → (rows : List Row) × Answers database_before q params rows × (new.now.schema ≡ schema)
      × EditsTable schema db (edit_of db table (ids_of rows) Given 1 rows) new.now.trees
  update_effect q w =
      let done = written_rows (Update at q) w.tally (in_schema schema (Update at q) params text old new count has w) in
      let there = read_then task q params db (λ rows. edit_of db table (ids_of rows) Given 1 rows)
      (λ rows. (edit_of db table (ids_of rows) Given 1 rows).news) done.0 done.1 in
      let made = edit_applied (ids_of there.0) Given 1 there.0 done.0.trees there.2 done.2 in
      (there.0, there.1, made.0, made.1)

  pub delete_effect : (q : Program) → Writes old new None (Delete at q) text params count
      → (rows : List Row) × Answers database_before q params rows × (new.now.schema ≡ schema)
      × EditsTable schema db (edit_of db table (ids_of rows) Given 0 []) new.now.trees
  delete_effect q w =
      let done = written_rows (Delete at q) w.tally (in_schema schema (Delete at q) params text old new count has w) in
      let there = read_then task q params db (λ rows. edit_of db table (ids_of rows) Given 0 [])
      (λ rows. taken_by db (edit_of db table (ids_of rows) Given 0 [])) done.0 done.1 in
      let made = edit_applied (ids_of there.0) Given 0 [] done.0.trees there.2 done.2 in
      (there.0, there.1, made.0, made.1)
