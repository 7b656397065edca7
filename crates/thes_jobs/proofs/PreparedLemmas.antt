-- Proves that a database which was prepared is the store with which work over its files begins.
use Rattle.std.proofs.Common.{◌≡◌, Bool, true, false, IsTrue, List, ℕ, Ok, Result, refl, sym, subst, inl, inr}
use Rattle.sqlite.specs.Held.{Held, state}
use Rattle.sqlite.specs.Schema.{Schema}
use Rattle.sqlite.specs.State.{State, HasCleanDisk}
use Rattle.sqlite_trees.specs.declared.store.Store.{Ghosts}
use Rattle.sqlite_wal.specs.Recovery.{Image}
use Rattle.thes_base.specs.declared.fault.Fault.{Fault}
use Rattle.thes_tables.specs.Tables.{Tables, empty_tables}
use Rattle.thes_sql.specs.Schema.{empty_schema, store_schema}
use Rattle.thes_sql.specs.OldStore.{KeepsOld}
use Rattle.thes_sql.specs.StoredRows.{KeepsIn}
use Rattle.thes_sql.specs.TransactionEffects.{IsEmpty}
use Rattle.thes_sqlite.specs.DatabaseFiles.{IsInitialStore, HoldsStore, ServesFiles}
use Rattle.thes_sqlite.specs.KeeperView.{ServesTables}
use Rattle.thes_command_line.specs.Opening.{preparation_of}
use Rattle.thes_command_line.specs.declared.arguments.StoreSetting.{StoreSetting}
use Rattle.thes_command_line.specs.declared.opening.Opening.{Opening}
use Rattle.thes_command_line.specs.declared.opening.Opening.TheVariants.{New, Existing}
use Rattle.thes_command_line.specs.declared.trouble.StoreTrouble.{StoreTrouble}
use Rattle.thes_jobs.specs.Databases.{KeepsTables, OpensFrom, ServesOldTables, Settles}
use Rattle.thes_jobs.specs.NewStore.{Prepares, PreparesStore}
use Rattle.thes_jobs.specs.OpenStore.{IsOpenedFor}
use Rattle.thes_jobs.specs.Opening.{IsPreparedFor}
use Rattle.thes_jobs.specs.declared.opening.StoreDatabase.{StoreDatabase}
use Rattle.thes_jobs.proofs.DatabaseLemmas.{no_old_store, opened_serves, opened_serves_old, serves_after}

module _ {S : Type 0} (g : Ghosts S) where
  -- A preparation that succeeds in a blank database has made its tables.
  made_in_blank : (opening : Opening) (is_blank : Bool) (base : List ℕ) (old new : Held S) → IsTrue is_blank
      → Prepares g (preparation_of opening is_blank) base old (Ok tt) new
      → HasCleanDisk (state g new) → IsEmpty empty_schema (state g old).now
      → KeepsIn store_schema (state g new).now (empty_tables base)
  made_in_blank New true base old new blank prepares clean empty =
      let made = prepares clean empty in made.1
  made_in_blank Existing true base old new blank prepares clean empty = absurd (let never = prepares.0 in cc)
  made_in_blank opening false base old new blank prepares clean empty = absurd cc

  -- A database that was opened in files and prepared is the store with which work over them begins.
  pub prepared_serves : (image : Image) (opening : Opening) (base : List ℕ) (old new : Held S)
      → OpensFrom g image old → PreparesStore g opening base old (Ok tt) new
      → KeepsTables (state g old) (state g new) → Settles (state g old) (state g new)
      → ServesTables (IsInitialStore image base) (state g new)
  prepared_serves image opening base old new opens prepares keeps settles = serves
    where
      serves : ServesTables (IsInitialStore image base) (state g new)
      serves up schema t (inl held) =
          serves_after (HoldsStore image) (state g old) (state g new) (opened_serves g image old opens) keeps up schema
          t held
      serves up schema t (inr begins) =
          let was = settles.was up in
          let opened = opens.opens was in
          let none = opened.empty begins.0 in
          let made = made_in_blank opening prepares.is_blank base old new (prepares.blank.1 none)
          prepares.prepares up.0 (none, tt) in (
            settles.is_settled up opened.settled,
            subst (λ (schema : Schema). KeepsIn schema (state g new).now t) (sym begins.1)
                (subst (λ (t : Tables). KeepsIn store_schema (state g new).now t) (sym begins.2) made),
          )

  -- A preparation leaves a database as it is, unless it is blank.
  same_unless_blank : (opening : Opening) (is_blank : Bool) (base : List ℕ) (old new : Held S)
      (result : Result (Unit {0}) (StoreTrouble × Fault)) → (is_blank ≡ true → ⊥)
      → Prepares g (preparation_of opening is_blank) base old result new → new ≡ old
  same_unless_blank opening true base old new result not_blank prepares = absurd (not_blank refl)
  same_unless_blank New false base old new result not_blank prepares = prepares.1
  same_unless_blank Existing false base old new result not_blank prepares = prepares.1

  -- A database that was opened in files of a store of version 1 is this store, also once it is prepared.
  pub prepared_serves_old : (image : Image) (opening : Opening) (base : List ℕ)
      (result : Result (Unit {0}) (StoreTrouble × Fault)) (old new : Held S) → OpensFrom g image old
      → PreparesStore g opening base old result new → Settles (state g old) (state g new)
      → ServesOldTables image (state g new)
  prepared_serves_old image opening base result old new opens prepares settles up t store =
      let was = settles.was up in
      let held = opened_serves_old g image old opens was t store in
      let same = same_unless_blank opening prepares.is_blank base old new result
      (λ blank. no_old_store (state g old).now t (prepares.blank.0 blank) held.1) prepares.prepares in
      subst (λ (c : Held S). ((state g c).now ≡ (state g c).committed) × KeepsOld (state g c).now t) (sym same) held

  -- A database that was opened in files of a store is this store, also once it is prepared.
  pub serves_held : (image : Image) (opening : Opening) (base : List ℕ)
      (result : Result (Unit {0}) (StoreTrouble × Fault)) (old new : Held S) → OpensFrom g image old
      → PreparesStore g opening base old result new → KeepsTables (state g old) (state g new)
      → Settles (state g old) (state g new)
      → ServesTables (HoldsStore image) (state g new) × ServesOldTables image (state g new)
  serves_held image opening base result old new opens prepares keeps settles = (
    serves_after (HoldsStore image) (state g old) (state g new) (opened_serves g image old opens) keeps,
    prepared_serves_old image opening base result old new opens prepares settles,
  )

  -- A database that was opened and prepared with a setting is ready for work.
  pub is_prepared : (image : Image) (setting : StoreSetting) (database : StoreDatabase S) (conn : Held S)
      → IsOpenedFor setting.must_exist database → OpensFrom g image database.conn
      → PreparesStore g database.opening setting.base database.conn (Ok tt) conn → conn.in_transaction ≡ false
      → KeepsTables (state g database.conn) (state g conn) → Settles (state g database.conn) (state g conn)
      → IsPreparedFor g image setting conn
  is_prepared image setting database conn opens opened prepares idle keeps settles = record {
    database = database;
    opens_it = opens;
    is_opened = opened;
    prepares = prepares;
    ready = record {
      idle = idle;
      serves = prepared_serves image database.opening setting.base database.conn conn opened prepares keeps settles;
    };
  }

-- Work over the same files with another base begins with a store with the same schema.
is_initial_also : (image : Image) (base other : List ℕ) (schema : Schema) (t : Tables)
    → IsInitialStore image base schema t → (also : Tables) × IsInitialStore image other schema also
is_initial_also image base other schema t (inl held) = (t, inl held)
is_initial_also image base other schema t (inr new) = (empty_tables other, inr (new.0, new.1, refl))

-- If a database serves the store with which work with some base begins, `ServesFiles` is true of it.
pub serves_files : (image : Image) (base : List ℕ) (s : State) → ServesTables (IsInitialStore image base) s
    → ServesFiles image s
unfolding ServesFiles
serves_files image base s serves = λ up other schema t initial.
    let also = is_initial_also image other base schema t initial in
    let store = serves up schema also.0 also.1 in record {
      settled = store.0;
      tables = also.0;
      keeps = store.1;
      keeps_held = λ held. let same = serves up schema t (inl held) in same.1;
    }
