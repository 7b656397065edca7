-- Proves that the statements that create or migrate a store define its schema.
use Rattle.std.proofs.lemmas.Grind.{common_steps}
use Rattle.std.proofs.Common.{arith, ◌≡◌, ◌≢◌, ℕ, suc, zero, ◌<◌, List, [], ◌∷◌, codes, length, take, drop, slice_get}
use Rattle.std.proofs.Common.{Some, None, Ok, Err, Result, OnOk, inl, inr, refl, sym, subst, ◌∙◌, ◌++◌, true, false}
use Rattle.std.proofs.Common.{lit<, IsTrue}
use Rattle.std.specs.List.{AllByRecursion}
use Rattle.sqlite.specs.Schema.{Schema}
use Rattle.sqlite.specs.Table.{Table}
use Rattle.sqlite_schema.specs.declared.schema.Index.{Index}
use Rattle.sqlite.specs.Command.TheVariants.{CreateTable, CreateIndex}
use Rattle.sqlite.specs.Compile.{table_defined_by}
use Rattle.sqlite_resolve.specs.Compile.{index_defined_by}
use Rattle.sqlite.specs.Change.{created, next_tree}
use Rattle.sqlite_catalog.specs.Change.{KeepsRows, indexed}
use Rattle.sqlite.specs.Does.{Does, lacks_sequence}
use Rattle.sqlite.specs.Tree.{Trees}
use Rattle.sqlite.specs.declared.error.Error.{Error}
use Rattle.sqlite_tied.specs.Compute.{everything}
use Rattle.sqlite.specs.Listing.{understood}
use Rattle.sqlite.specs.Effect.{Database, alter_error, is_query}
use Rattle.sqlite.specs.State.{State, Runs, Executes, ExecutesIn, shows_rows, IsUnchanged, IsNoStatement}
use Rattle.sqlite.specs.State.{ExecutesInside, IsNotRun}
use Rattle.sqlite.specs.declared.run.Mode.{Mode}
use Rattle.sqlite.specs.declared.error.Error.TheVariants.{SqlInputError}
use Rattle.sqlite_resolve.specs.declared.error.CompileError.{CompileError}
use Rattle.sqlite_catalog.specs.declared.error.Refusal.{Refusal}
use Rattle.sqlite_catalog.specs.Calls.{RefusesIndex}
use Rattle.std.proofs.lemmas.Bool.{cases_Bool}
use Rattle.sqlite.specs.Batch.{first_len, RunInTurn, ExecutesAllInside}
use Rattle.sqlite.specs.Held.{Held, state}
use Rattle.sqlite.specs.Command.{Command}
use Rattle.sqlite_trees.specs.declared.store.Store.{Ghosts}
use Rattle.sqlite.proofs.Callers.{IsPlain, command_of, statement_of, runs_as}
use Rattle.sqlite_trees.proofs.ListLemmas.{all-append}
use Rattle.thes_sql.specs.Schema.{meta_table, resource_table, outside_table, label_table, link_table, hier_table}
use Rattle.thes_sql.specs.Schema.{posting_table, move_table, posting_at, move_posting, empty_schema, store_schema}
use Rattle.thes_sql.specs.Schema.{schema_up_to_meta, schema_up_to_resource, schema_up_to_outside, schema_up_to_label}
use Rattle.thes_sql.specs.Schema.{schema_up_to_link, schema_up_to_posting, schema_up_to_move, schema_without_indexes}
use Rattle.thes_sql.specs.Schema.{schema_with_posting_at}
use Rattle.thes_sql.specs.Additions.{IsStoreSchema}
use Rattle.thes_tables.specs.Tables.{Tables}
use Rattle.thes_sql.specs.OldStore.{old_schema, KeepsOld, KeepsAs, IsMigrating, IsOldStore, HasEmptyHier}
use Rattle.thes_sql.specs.TransactionEffects.{IsEmpty, Transforms, TransformsTables, ExtendsSchema}
use Rattle.thes_sql.specs.TransactionEffects.{RunsOrFailsToCompile}
use Rattle.thes_sql.proofs.DeclarationLemmas.{own_schema}
use Rattle.thes_sql.proofs.ForeignKeyLemmas.{kept_twice}
use Rattle.thes_sql.proofs.ReadFrameLemmas.{no_cause}

-- In this schema, the text is a CREATE TABLE that defines this table.
abbrev MakesTable : Schema → List ℕ → Table → Type 0
MakesTable schema text table =
    (command_of (understood schema text) ≡ CreateTable)
    × (table_defined_by (statement_of text (understood schema text)) ≡ Ok table) × IsPlain (understood schema text)

-- In this schema, the text is a CREATE INDEX that defines this index, on the table at this position.
abbrev AddsIndex : Schema → List ℕ → ℕ → Table → Index → Type 0
AddsIndex schema text at table index =
    (command_of (understood schema text) ≡ CreateIndex at)
    × (index_defined_by table (statement_of text (understood schema text)) ≡ Ok index)
    × IsPlain (understood schema text)

abbrev create_meta_text : List ℕ
create_meta_text =
    codes "CREATE TABLE meta (one INTEGER PRIMARY KEY, version INTEGER NOT NULL, base TEXT NOT NULL) STRICT;"

create_meta_is : MakesTable empty_schema create_meta_text meta_table
unfolding understood everything
create_meta_is = (refl, refl, (refl, refl))

abbrev create_resource_text : List ℕ
create_resource_text =
    codes "CREATE TABLE resource (num INTEGER PRIMARY KEY, kind INTEGER NOT NULL, scheme INTEGER, live INTEGER NOT NULL, replaced INTEGER) STRICT;"

create_resource_is : MakesTable schema_up_to_meta create_resource_text resource_table
unfolding understood everything
create_resource_is = (refl, refl, (refl, refl))

abbrev create_outside_text : List ℕ
create_outside_text = codes "CREATE TABLE outside (num INTEGER PRIMARY KEY, iri TEXT NOT NULL UNIQUE) STRICT;"

create_outside_is : MakesTable schema_up_to_resource create_outside_text outside_table
unfolding understood everything
create_outside_is = (refl, refl, (refl, refl))

abbrev create_label_text : List ℕ
create_label_text =
    codes "CREATE TABLE label (owner INTEGER NOT NULL, kind INTEGER NOT NULL, tag TEXT NOT NULL, text TEXT NOT NULL, PRIMARY KEY (owner, kind, tag, text)) STRICT;"

create_label_is : MakesTable schema_up_to_outside create_label_text label_table
unfolding understood everything
create_label_is = (refl, refl, (refl, refl))

abbrev create_link_text : List ℕ
create_link_text =
    codes "CREATE TABLE link (kind INTEGER NOT NULL, a INTEGER NOT NULL, b INTEGER NOT NULL, PRIMARY KEY (kind, a, b)) STRICT;"

create_link_is : MakesTable schema_up_to_label create_link_text link_table
unfolding understood everything
create_link_is = (refl, refl, (refl, refl))

abbrev create_hier_text : List ℕ
create_hier_text =
    codes "CREATE TABLE hier (a INTEGER NOT NULL, b INTEGER NOT NULL, typ INTEGER NOT NULL, PRIMARY KEY (a, b, typ)) STRICT;"

abbrev create_posting_text : List ℕ
create_posting_text =
    codes "CREATE TABLE posting (num INTEGER PRIMARY KEY, pkey TEXT NOT NULL UNIQUE, record TEXT NOT NULL, first_at INTEGER NOT NULL, at INTEGER NOT NULL, withdrawn INTEGER NOT NULL) STRICT;"

create_posting_is : MakesTable schema_up_to_link create_posting_text posting_table
unfolding understood everything
create_posting_is = (refl, refl, (refl, refl))

abbrev create_move_text : List ℕ
create_move_text =
    codes "CREATE TABLE move (num INTEGER PRIMARY KEY, posting INTEGER NOT NULL, source INTEGER NOT NULL, target INTEGER NOT NULL) STRICT;"

create_move_is : MakesTable schema_up_to_posting create_move_text move_table
unfolding understood everything
create_move_is = (refl, refl, (refl, refl))

abbrev index_posting_at_text : List ℕ
index_posting_at_text = codes "CREATE INDEX IF NOT EXISTS posting_at ON posting (at)"

abbrev index_move_posting_text : List ℕ
index_move_posting_text = codes "CREATE INDEX IF NOT EXISTS move_posting ON move (posting)"

-- A statement of a batch runs as the command that its text means.
ran_as : (text : List ℕ) (old new : State) (from : Schema) → old.now.schema ≡ from → (command : Command)
    → is_query command ≡ false → command_of (understood from text) ≡ command → IsPlain (understood from text)
    → (count : ℕ) → ExecutesIn true text [] old new (Ok count)
    → Runs old new None command (statement_of text (understood from text)) [] count
unfolding ExecutesIn
ran_as text old new from has command unasked is plain count h = grind (arith, common_steps)

-- A CREATE TABLE leaves the rows of other tables unchanged, and creates the new table empty.
made_table : (from : Schema) (text : List ℕ) (table : Table) → MakesTable from text table
    → lacks_sequence (created from table) ≡ false
    → (old new : State) (count : ℕ) → old.now.schema ≡ from → ExecutesIn true text [] old new (Ok count)
    → (new.now.schema ≡ created from table) × KeepsRows from.tables old.now.trees new.now.trees
    × (new.now.trees (next_tree from) ≡ [])
made_table from text table is uncounted old new count has h =
    let w = ran_as text old new from has CreateTable refl is.0 is.2 count h in grind (arith, common_steps)

-- A CREATE INDEX leaves all rows unchanged.
made_index : (from : Schema) (text : List ℕ) (at : ℕ) (table : Table) (index : Index)
    → AddsIndex from text at table index → slice_get from.tables at ≡ Some table
    → (old new : State) (count : ℕ) → old.now.schema ≡ from → Executes text [] old new (Ok count)
    → (new.now.schema ≡ indexed from table index) × KeepsRows from.tables old.now.trees new.now.trees
made_index from text at table index is is_at old new count has h =
    let w = runs_as text [] old new from has (CreateIndex at) is.0 is.2 count h in grind (arith, common_steps)

still_empty : (old next : Trees) (tables : List Table) → KeepsRows tables old next
    → AllByRecursion (λ (t : Table). old t.tree ≡ []) tables → AllByRecursion (λ (t : Table). next t.tree ≡ []) tables
still_empty old next [] kept none = tt
still_empty old next (t ∷ tables) kept none = (kept.0 ∙ none.0, still_empty old next tables kept.1 none.1)

-- If all tables of a database are empty, they are still so after a CREATE TABLE, and so is the new table.
defines_table : (from : Schema) (text : List ℕ) (table : Table) → MakesTable from text table
    → lacks_sequence (created from table) ≡ false
    → (old new : State) (count : ℕ) → IsEmpty from old.now → ExecutesIn true text [] old new (Ok count)
    → IsEmpty (created from table) new.now
defines_table from text table is uncounted old new count empty h =
    let made = made_table from text table is uncounted old new count empty.0 h in (
      made.0,
      all-append (λ (t : Table). new.now.trees t.tree ≡ [])
          from.tables (record table { tree = next_tree from } ∷ []) (still_empty _ _ from.tables made.1 empty.1)
          (made.2, tt),
    )

abbrev texts_6 : List ℕ
texts_6 = create_move_text

abbrev texts_5 : List ℕ
texts_5 = create_posting_text ++ texts_6

abbrev texts_4 : List ℕ
texts_4 = create_link_text ++ texts_5

abbrev texts_3 : List ℕ
texts_3 = create_label_text ++ texts_4

abbrev texts_2 : List ℕ
texts_2 = create_outside_text ++ texts_3

abbrev texts_1 : List ℕ
texts_1 = create_resource_text ++ texts_2

abbrev texts_0 : List ℕ
texts_0 = create_meta_text ++ texts_1

-- Assumes that a batch of statements ran in order.
module _ {S : Type 0} (g : Ghosts S) (new : Held S) {Goal : Type 0} where
  -- If the first statement leads from a database of one kind to one of another, the rest of the batch runs from the
  -- latter.
  first_made : (text one rest : List ℕ) (From To : Database → Type 0) (most : ℕ) (old : Held S)
      → take (first_len text) text ≡ one → drop (first_len text) text ≡ rest → 0 < length text
      → ((old new : State) (count : ℕ) → From old.now → ExecutesIn true one [] old new (Ok count)
      → To new.now)
      → From (state g old).now → RunInTurn g (Some 0) most text old new (Ok tt)
      → ((mid : Held S) (less : ℕ) → To (state g mid).now → RunInTurn g (Some 0) less rest mid new (Ok tt)
      → Goal)
      → Goal
  first_made [] one rest From To most old is left some makes was h then = absurd (omega (arith, some))
  first_made (b ∷ text) one rest From To zero old is left some makes was h then = absurd h
  first_made (b ∷ text) one rest From To (suc most) old is left some makes was (inl stopped) then =
      absurd (let e = stopped.1 in cc)
  first_made (b ∷ text) one rest From To (suc most) old is left some makes was (inr ran) then =
      then ran.0 most
      (makes (state g old) (state g ran.0) ran.1 was
      (subst (λ t. ExecutesIn true t [] (state g old) (state g ran.0) (Ok ran.1)) is ran.2.runs))
      (subst (λ t. RunInTurn g (Some 0) most t ran.0 new (Ok tt)) left ran.3)

-- Assumes the error of a text that doesn't compile. A CREATE INDEX on an existing table never has
-- this error.
module _ (text : List ℕ) (old new : State) (fault : CompileError) where
  -- A text that doesn't compile changes nothing.
  pub refused_unchanged : Executes text [] old new (Err (SqlInputError fault)) → IsUnchanged old new
  unfolding ExecutesIn IsNotRun
  refused_unchanged (inl (inl none)) = none.1
  refused_unchanged (inl (inr fails)) = absurd (no_cause fault fails.0 fails.1)
  refused_unchanged (inr h) = elim (cases_Bool (shows_rows false h.0)) [
    | inl shows ↦ (rw shows at h.2).1
    | inr runs ↦ elim (rw runs at h.2) [ inl refused ↦ refused.1 | inr fails ↦ absurd (no_cause fault fails.0 fails.1) ]
  ]

  module _ (from : Schema) (at : ℕ) (table : Table) (index : Index) (is : AddsIndex from text at table index)
      (is_at : slice_get from.tables at ≡ Some table) (has : old.now.schema ≡ from) where
    no_statement : IsNoStatement old text [] (SqlInputError fault) → ⊥
    no_statement h = grind (arith, common_steps)

    no_alter : (reason : Refusal) → RefusesIndex from old.now.trees table (statement_of text (understood from text))
        reason
        → SqlInputError fault ≢ alter_error reason
    no_alter reason h told = grind (arith, common_steps)

    -- A CREATE INDEX on an existing table doesn't fail to compile when it is run.
    not_made : (mode : Mode) → Does old.step_limit mode [] (record old.now { schema = from })
        (statement_of text (understood from text)) None (CreateIndex at) (Err (Some (SqlInputError fault))) → ⊥
    not_made mode d = grind (arith, common_steps, no_alter)

    -- A CREATE INDEX on an existing table never fails with the error of a text that doesn't compile.
    pub not_refused : Executes text [] old new (Err (SqlInputError fault)) → ⊥
    unfolding ExecutesIn IsNotRun
    not_refused h = grind (arith, common_steps, no_statement, no_cause, not_made)

pub tries_refused : (text : List ℕ) (old new : State) (fault : CompileError)
    → ExecutesInside 0 text [] old new (Err (SqlInputError fault)) → IsTrue old.in_transaction
    → RunsOrFailsToCompile text old new
tries_refused text old new fault h inside = grind (arith, common_steps, refused_unchanged)

-- Trying a CREATE INDEX on an existing table defines the index.
index_after_try : (from : Schema) (text : List ℕ) (at : ℕ) (table : Table) (index : Index) → AddsIndex from text
    at table index
    → slice_get from.tables at ≡ Some table → (old new : State) → RunsOrFailsToCompile text old new → old.now.schema
    ≡ from
    → (new.now.schema ≡ indexed from table index) × KeepsRows from.tables old.now.trees new.now.trees
index_after_try from text at table index is is_at old new t has = elim t.ran [
  | inl ran ↦ made_index from text at table index is is_at old new ran.0 has ran.1
  | inr refused ↦ absurd (not_refused text old new refused.0 from at table index is is_at has refused.1)
]

pub both_indexes : (old mid new : State) → RunsOrFailsToCompile index_posting_at_text old mid
    → RunsOrFailsToCompile index_move_posting_text mid new
    → ExtendsSchema schema_without_indexes store_schema [] old new
unfolding understood everything
both_indexes old mid new first second = record {
  made = λ has.
      let one = index_after_try schema_without_indexes index_posting_at_text 5 (record posting_table { tree = 8 })
      posting_at (refl, refl, (refl, refl)) refl old mid first has in
      let two = index_after_try schema_with_posting_at index_move_posting_text 6 (record move_table { tree = 10 })
      move_posting
      (refl, refl, (refl, refl)) refl mid new second one.0 in
      (two.0, kept_twice schema_without_indexes.tables old.now.trees mid.now.trees new.now.trees one.1 two.1, tt);
  inside = second.inside;
}

-- Assumes that table hier and both indexes were created.
module _ (old mid new : State) (first : ExtendsSchema old_schema schema_without_indexes (11 ∷ []) old mid)
    (second : ExtendsSchema schema_without_indexes store_schema [] mid new) where
  -- Table hier and the indexes turn an empty store of version 1 into one of version 2.
  pub newer_empty : Transforms (IsEmpty old_schema) (IsEmpty store_schema) old new
  newer_empty = grind (arith, common_steps, still_empty, all-append)

  -- Creating table hier and the indexes leaves the tables of version 1 unchanged, and table hier
  -- empty.
  enlarged_rows : (t : Tables) → KeepsOld old.now t → IsMigrating new.now (record t { hier = [] })
  enlarged_rows t was =
      let one = first.made was.schema in
      let two = second.made one.0 in
      let known : IsStoreSchema new.now.schema = subst IsStoreSchema (sym two.0) own_schema in
      let keeps : KeepsAs 1 new.now (record t { hier = [] }) = grind (arith, common_steps) in
      record { schema = two.0; keeps = keeps }

  pub newer_enlarged : TransformsTables IsOldStore HasEmptyHier old new
  newer_enlarged = record { made = enlarged_rows; inside = second.inside }

module _ {S : Type 0} (g : Ghosts S) where
  -- The first batch creates the seven tables of version 1.
  all_defined : (old new : Held S) → IsEmpty empty_schema (state g old).now
      → ExecutesAllInside g 0 texts_0 old new (Ok tt) → IsEmpty old_schema (state g new).now
  unfolding ExecutesAllInside everything
  all_defined old new empty h =
      first_made g new texts_0 create_meta_text texts_1 (IsEmpty empty_schema) (IsEmpty schema_up_to_meta)
      (length texts_0) old
      refl refl (lit< tt)
      (defines_table empty_schema create_meta_text meta_table create_meta_is refl) empty h
      (λ at_1 most_1 empty_1 more_1.
      first_made g new texts_1 create_resource_text texts_2 (IsEmpty schema_up_to_meta) (IsEmpty schema_up_to_resource)
      most_1 at_1 refl
      refl (lit< tt)
      (defines_table schema_up_to_meta create_resource_text resource_table create_resource_is refl) empty_1 more_1
      (λ at_2 most_2 empty_2 more_2.
      first_made g new texts_2 create_outside_text texts_3 (IsEmpty schema_up_to_resource)
      (IsEmpty schema_up_to_outside) most_2 at_2 refl refl
      (lit< tt)
      (defines_table schema_up_to_resource create_outside_text outside_table create_outside_is refl) empty_2 more_2
      (λ at_3 most_3 empty_3 more_3.
      first_made g new texts_3 create_label_text texts_4 (IsEmpty schema_up_to_outside) (IsEmpty schema_up_to_label)
      most_3 at_3 refl refl
      (lit< tt)
      (defines_table schema_up_to_outside create_label_text label_table create_label_is refl) empty_3 more_3
      (λ at_4 most_4 empty_4 more_4.
      first_made g new texts_4 create_link_text texts_5 (IsEmpty schema_up_to_label) (IsEmpty schema_up_to_link) most_4
      at_4 refl refl
      (lit< tt)
      (defines_table schema_up_to_label create_link_text link_table create_link_is refl) empty_4 more_4
      (λ at_5 most_5 empty_5 more_5.
      first_made g new texts_5 create_posting_text texts_6 (IsEmpty schema_up_to_link) (IsEmpty schema_up_to_posting)
      most_5 at_5 refl refl
      (lit< tt)
      (defines_table schema_up_to_link create_posting_text posting_table create_posting_is refl) empty_5 more_5
      (λ at_6 most_6 empty_6 more_6.
      first_made g new texts_6 create_move_text [] (IsEmpty schema_up_to_posting) (IsEmpty schema_up_to_move) most_6
      at_6 refl refl (lit< tt)
      (defines_table schema_up_to_posting create_move_text move_table create_move_is refl) empty_6 more_6
      (λ at_7 most_7 empty_7 more_7. subst (λ h. IsEmpty old_schema (state g h).now) (sym more_7.1) empty_7)))))))

  pub does_define : (old new : Held S) (r : Result (Unit {0}) Error) → ExecutesAllInside g 0 texts_0 old new r
      → OnOk r ((state g new).in_transaction ≡ (state g old).in_transaction) → IsTrue (state g old).in_transaction
      → OnOk r (Transforms (IsEmpty empty_schema) (IsEmpty old_schema) (state g old) (state g new))
  does_define old new (Err e) h same inside = tt
  does_define old new (Ok done) h same inside = record {
    made = λ empty. all_defined old new empty h;
    inside = same ∙ inside;
  }

  -- The rows of the tables of version 1 are unchanged, and there is a new table hier, which is empty.
  abbrev HasHier : Trees → Database → Type 0
  HasHier start db = (db.schema ≡ schema_without_indexes) × KeepsRows schema_up_to_move.tables start db.trees
      × ((db.trees 11 ≡ []) × Unit {0})

  -- The batch that creates hier extends the schema of version 1.
  gets_hier : (old new : Held S) → ExecutesAllInside g 0 create_hier_text old new (Ok tt) → (state g old).now.schema
      ≡ old_schema
      → HasHier (state g old).now.trees (state g new).now
  unfolding ExecutesAllInside understood everything
  gets_hier old new h has =
      let start = (state g old).now.trees in
      first_made g new create_hier_text create_hier_text [] (λ db. (db.schema ≡ schema_up_to_move) × (db.trees ≡ start))
      (HasHier start)
      (length create_hier_text) old refl refl (lit< tt)
      (λ was is count from ran.
      let m = made_table schema_up_to_move create_hier_text hier_table (refl, refl, (refl, refl)) refl was is count
      from.0 ran in
      (m.0, subst (λ (db : Trees). KeepsRows schema_up_to_move.tables db is.now.trees) from.1 m.1, (m.2, tt)))
      (has, refl) h (λ mid most was more. subst (λ h. HasHier start (state g h).now) (sym more.1) was)

  pub does_hier : (old new : Held S) (r : Result (Unit {0}) Error) → ExecutesAllInside g 0 create_hier_text old new r
      → OnOk r ((state g new).in_transaction ≡ (state g old).in_transaction) → IsTrue (state g old).in_transaction
      → OnOk r (ExtendsSchema old_schema schema_without_indexes (11 ∷ []) (state g old) (state g new))
  does_hier old new (Err e) h same inside = tt
  does_hier old new (Ok done) h same inside = record { made = gets_hier old new h; inside = same ∙ inside }
