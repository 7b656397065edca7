-- Proves the verdict of a migration on a database, and the state that the migration leaves.
use Rattle.std.proofs.lemmas.Grind.{common_steps}
use Rattle.std.proofs.Common.{◌<◌, IsTrue, arith, inl, inr, ◌≡◌, ◌⊎◌, ◌≤◌, ℕ, List, [], ◌∷◌, refl, sym, ap}
use Rattle.std.proofs.Common.{subst, ◌∙◌, Result, Ok, Err, OnOk, Bool, true, false, Some, Option}
use Rattle.sqlite.specs.Order.{Row}
use Rattle.sqlite.specs.Tree.{Trees}
use Rattle.sqlite.specs.Effect.{Database}
use Rattle.sqlite.specs.State.{State, HasCleanDisk, Survives}
use Rattle.sqlite.specs.Held.{Held, state}
use Rattle.sqlite.specs.declared.error.Error.{Error}
use Rattle.sqlite.proofs.StateLemmas.{survives_then, survives_weaker}
use Rattle.sqlite_trees.specs.View.{doubt}
use Rattle.sqlite_trees.specs.declared.store.Store.{Ghosts}
use Rattle.thes_base.specs.declared.fault.Fault.{Fault}
use Rattle.thes_base.specs.declared.fault.Fault.TheVariants as faults
use Rattle.thes_base.specs.declared.fault.Table.TheVariants as table
use Rattle.thes_base.specs.Legal.{IsLegalState}
use Rattle.thes_base.specs.State.{State as Content}
use Rattle.thes_tables.specs.Tables.{Tables, IsRowsOf}
use Rattle.thes_tables.specs.Cells.{cells_of_tables}
use Rattle.thes_tables.proofs.CellLemmas.{head_one, tail_one, number_one}
use Rattle.thes_load_rules.specs.Rules.{state_of}
use Rattle.thes_load_rules.specs.Verdicts.{HasVerdict}
use Rattle.thes_load_rules.proofs.LegalTableLemmas.{held_loads}
use Rattle.thes_sql.specs.Schema.{store_schema}
use Rattle.thes_sql.specs.StoredRows.{Keeps, KeepsIn, Hold}
use Rattle.thes_sql.specs.OldStore.{KeepsOld, version_row}
use Rattle.thes_sql.specs.Queries.{Finds, IsStoreFault, FailsToFind}
use Rattle.thes_tables.specs.OldRows.{tables_after_migration}
use Rattle.thes_sql.specs.Reads.{read_text, LeavesAlone}
use Rattle.thes_sql.specs.TransactionEffects.{IsOwnTransaction}
use Rattle.thes_sql.proofs.SelectLemmas.{version_found}
use Rattle.thes_sql.proofs.KnownSchemaLemmas.{knows_links, misses_hier}
use Rattle.thes_tables.proofs.OldRowLemmas.{migration_law}
use Rattle.thes_sqlite.specs.Faults.{IsKeeperFault, HasFailed, error_fault}
use Rattle.thes_sqlite.specs.KeeperView.{IsUp, raw_in, raw_of_keeper, IsStore, IsKeeperState, IsKeeperUp}
use Rattle.thes_sqlite.specs.KeeperView.{KeeperView}
use Rattle.thes_sqlite.specs.MigrationEffects.{IsMigrateFault, HasMetaVersion, IsMetaVerdict, IsVerdictOn}
use Rattle.thes_sqlite.specs.MigrationEffects.{IsVersionVerdict, IsMigrationVerdict, IsVerdictUnlessFailed}
use Rattle.thes_sqlite.specs.MigrationEffects.{IsUnwritten, Migrates, ServesRows, meta_fault_of}
use Rattle.thes_sqlite.specs.MigrationLaws.{HoldsOldState, HoldsState, MigratesState, MigratesStates}
use Rattle.thes_sqlite.proofs.KeeperLemmas.{raw_of}

-- The verdict on a store of version 1 is that it is to be migrated; on one of version 2, that it is current.

module _ (version : ℕ) (base : List ℕ) (found : Option (List Row))
    (is : found ≡ Some (version_row version base ∷ [])) where
  -- A row of table meta with this version states no other version.
  version_is : (Is : ℕ → Type 0) → HasMetaVersion Is found → Is version
  version_is Is had = grind (arith, common_steps, head_one, number_one, tail_one)

  has_version : (Is : ℕ → Type 0) → Is version → HasMetaVersion Is found
  has_version Is so = grind (arith, common_steps)

module _ (db : Database) (t : Tables) where
  pub verdict_of_old : KeepsOld db t → (verdict : Result Bool Fault) → IsMigrationVerdict db verdict → verdict ≡ Ok true
  verdict_of_old old verdict (found, finds, is) = go verdict is
    where
      so : found ≡ Some (version_row 1 t.base ∷ [])
      so = version_found 1 t.base db found (inr old.schema, old.hold.meta) finds

      two : HasMetaVersion (λ v. v ≡ 2) found → ⊥
      two h = let e : 1 ≡ 2 = version_is 1 t.base found so (λ v. v ≡ 2) h in omega (arith, e)

      newer : HasMetaVersion (λ v. 2 < v) found → ⊥
      newer h = let e : 2 < 1 = version_is 1 t.base found so (λ v. 2 < v) h in omega (arith, e)

      go : (verdict : Result Bool Fault) → IsVerdictOn db.schema found verdict → verdict ≡ Ok true
      go (Ok true) h = refl
      go (Ok false) h = absurd (two h)
      go (Err faults.NewerStore) h = absurd (newer h)
      go (Err (faults.BadStore table.Meta)) h = absurd (h (has_version 1 t.base found so (λ v. 1 ≤ v) (omega arith)))
      go (Err (faults.BadStore table.Link)) h = let e = sym h.1 ∙ knows_links db.schema old.schema in cc
      go (Err (faults.BadStore table.Hier)) h = let e = sym h.1.1 ∙ misses_hier db.schema old.schema in cc
      go other h = absurd h

  pub verdict_of_new : Keeps db t → (verdict : Result Bool Fault) → IsMigrationVerdict db verdict → verdict ≡ Ok false
  verdict_of_new kept verdict (found, finds, is) = go verdict is
    where
      so : found ≡ Some (version_row 2 t.base ∷ [])
      so = version_found 2 t.base db found (inl kept.schema, kept.hold.meta) finds

      one : HasMetaVersion (λ v. v ≡ 1) found → ⊥
      one h = let e : 2 ≡ 1 = version_is 2 t.base found so (λ v. v ≡ 1) h in omega (arith, e)

      newer : HasMetaVersion (λ v. 2 < v) found → ⊥
      newer h = let e : 2 < 2 = version_is 2 t.base found so (λ v. 2 < v) h in omega (arith, e)

      go : (verdict : Result Bool Fault) → IsVerdictOn db.schema found verdict → verdict ≡ Ok false
      go (Ok true) h = absurd (one h.0)
      go (Ok false) h = refl
      go (Err faults.NewerStore) h = absurd (newer h)
      go (Err (faults.BadStore table.Meta)) h = absurd (h (has_version 2 t.base found so (λ v. 1 ≤ v) (omega arith)))
      go (Err (faults.BadStore table.Link)) h = absurd (one h.0)
      go (Err (faults.BadStore table.Hier)) h = absurd (one h.0)
      go other h = absurd h

-- The fault for an error of a failed store says that the store has failed.

failed_so : (old new : State) (e : Error) → IsStoreFault old new e → HasFailed old new (error_fault e)
failed_so old new e fails = grind (arith, common_steps)

module _ {S : Type 0} (g : Ghosts S) (old new : Held S) where
  -- The rows of table meta determine the verdict on the version.
  pub rows_judged : (rows : List Row) (r : Result Bool Fault)
      → (HasCleanDisk (state g new) → Finds (read_text table.Meta) (state g old).now (Some rows))
      → (r ≡ Err faults.OutOfMemory) ⊎ IsMetaVerdict (Some rows) r → IsVerdictUnlessFailed g IsVersionVerdict old new r
  rows_judged rows r finds judged clean = grind (arith, common_steps)

  unread : (e : Error) → FailsToFind (read_text table.Meta) (state g old) (state g new) e
      → HasFailed (state g old) (state g new) (meta_fault_of e)
      ⊎ IsVersionVerdict (state g old).now (Err (meta_fault_of e))
  unread e fails = grind (arith, common_steps, failed_so)

  -- If table meta can't be read, the verdict is a fault, unless the store has failed.
  pub meta_unread : (e : Error) (fault : Fault) → fault ≡ meta_fault_of e
      → (HasCleanDisk (state g new) → FailsToFind (read_text table.Meta) (state g old) (state g new) e)
      → IsVerdictUnlessFailed {V = Bool} g IsVersionVerdict old new (Err fault)
  meta_unread e fault is fails clean = subst (λ f. HasFailed (state g old) (state g new) f
      ⊎ IsVersionVerdict (state g old).now (Err f)) (sym is) (unread e (fails clean))

-- A fault as the verdict on the version is also the verdict on the database.

module _ (db : Database) where
  pub newer_or_other : (fault : Fault) → IsVersionVerdict db (Err fault) → IsMigrationVerdict db (Err fault)
  newer_or_other fault h = grind (arith, common_steps)

pub migrate_fault_of_keeper : (fault : Fault) → IsKeeperFault fault → IsMigrateFault fault
migrate_fault_of_keeper fault (inl spent) = inl spent
migrate_fault_of_keeper fault (inr store) = inr (inl store)

-- Assumes a migration that is refused, or that has nothing to do.

module _ {S : Type 0} (g : Ghosts S) (old new : Held S) (idle : old.in_transaction ≡ false)
    (settled : IsTrue (state g old).is_open → (state g old).now ≡ (state g old).committed)
    (leaves : LeavesAlone g old new) where
  unwritten : IsUp (state g new) → IsUnwritten (state g old) (state g new)
  unwritten up = leaves.tables.same up.0 up.1 (settled (leaves.tables.was up.0 up.1))

  still_settled : IsUp (state g new) → (state g new).now ≡ (state g new).committed
  still_settled up = grind (arith, common_steps, unwritten)

  no_crash : {P : Trees → Type 0} → Survives (state g old) (state g new) P
  no_crash = survives_weaker (state g old) (state g new) _ _ (λ _ db none. absurd none) leaves.crash

  -- The verdict, or a failure of the store, ends the call with a fault.
  pub migration_refused : (fault : Fault) → IsMigrateFault fault
      → IsVerdictUnlessFailed {V = Bool} g IsMigrationVerdict old new (Err fault) → Migrates g old new (Err fault)
  migration_refused fault named judged = record {
    idle = leaves.tables.mode idle;
    version = tt;
    faults = named;
    follows = λ clean. elim (judged clean) [ inl failed ↦ inl failed | inr is ↦ inr (Err fault, is, refl) ];
    whole = λ clean t known. elim (judged clean) [
      | inl failed ↦ keeper_fault failed
      | inr is ↦ elim known [
        | inl was ↦ let e = verdict_of_old (state g old).now t was (Err fault) is in absurd (cc)
        | inr now ↦ let e = verdict_of_new (state g old).now t now (Err fault) is in absurd (cc)
      ]
    ];
    was = λ up. leaves.tables.was up.0 up.1;
    made = tt;
    current = tt;
    settled = still_settled;
    none = unwritten;
    crash = no_crash;
  }
    where
      keeper_fault : {f : Fault} → HasFailed (state g old) (state g new) f → IsKeeperFault f
      keeper_fault (inl spent) = inl spent
      keeper_fault (inr h) = inr h.0

  -- A database of version 2 is unchanged.
  pub migration_current : (HasCleanDisk (state g new) → IsUnwritten (state g old) (state g new))
      → IsVerdictUnlessFailed {V = Bool} g IsMigrationVerdict old new (Ok false) → Migrates g old new (Ok 2)
  migration_current same judged = record {
    idle = leaves.tables.mode idle;
    version = refl;
    faults = tt;
    follows = λ clean. elim (judged clean) [
      | inl failed ↦ absurd failed
      | inr is ↦ inr (Ok false, is, (refl, same clean))
    ];
    whole = tt;
    was = λ up. leaves.tables.was up.0 up.1;
    made = λ clean t was. elim (judged clean) [
      | inl failed ↦ absurd failed
      | inr is ↦ let e = verdict_of_old (state g old).now t was (Ok false) is in absurd (cc)
    ];
    current = λ clean t now. same clean;
    settled = still_settled;
    none = tt;
    crash = no_crash;
  }

-- Assumes a migration that is to be made, and that succeeds or fails at a statement.

module _ {S : Type 0} (g : Ghosts S) (old mid new : Held S) (idle : old.in_transaction ≡ false)
    (leaves : LeavesAlone g old mid) (kept : HasCleanDisk (state g mid) → IsUnwritten (state g old) (state g mid))
    (judged : IsVerdictUnlessFailed {V = Bool} g IsMigrationVerdict old mid (Ok true))
    (less : doubt (state g mid).is_clean ≤ doubt (state g new).is_clean) (crash : Survives (state g mid) (state g new)
    (λ trees. (t : Tables) → KeepsOld (state g mid).now t → Hold trees (tables_after_migration t))) where
  clean_mid : HasCleanDisk (state g new) → HasCleanDisk (state g mid)
  clean_mid clean = omega (arith, less, clean)

  to_migrate : HasCleanDisk (state g new) → IsMigrationVerdict (state g old).now (Ok true)
  to_migrate clean = elim (judged (clean_mid clean)) [ inl failed ↦ absurd failed | inr is ↦ is ]

  old_at_mid : HasCleanDisk (state g new) → (t : Tables) → KeepsOld (state g old).now t → KeepsOld (state g mid).now t
  old_at_mid clean t was = subst (λ (db : Database). KeepsOld db t) (sym (kept (clean_mid clean)).0) was

  whole_crash : Survives (state g old) (state g new) (λ trees. IsMigrationVerdict (state g old).now (Ok true)
      × ((t : Tables) → KeepsOld (state g old).now t → Hold trees (tables_after_migration t)))
  whole_crash = survives_then (state g old) (state g mid) (state g new) _ _ _ (λ _ db none. absurd none)
      (λ clean db made. (to_migrate clean, λ t was. made t (old_at_mid clean t was))) leaves.crash crash

  module _ {E : Type 0} {done : Result Bool E} (own : IsOwnTransaction g mid new done) where
    was_open : IsUp (state g new) → IsTrue (state g old).is_open
    was_open up = leaves.tables.was (clean_mid up.0) (own.was up.0 up.1)

    mid_idle : mid.in_transaction ≡ false
    mid_idle = leaves.tables.mode idle

    pub migration_succeeds : (HasCleanDisk (state g new) → (t : Tables) → KeepsOld (state g mid).now t
        → KeepsIn store_schema (state g new).committed (tables_after_migration t)
        × KeepsIn store_schema (state g new).now (tables_after_migration t))
        → Migrates g old new (Ok 2)
    migration_succeeds made = record {
      idle = own.mode ∙ mid_idle;
      version = refl;
      faults = tt;
      follows = λ clean. inr (Ok true, to_migrate clean, tt);
      whole = tt;
      was = was_open;
      made = λ clean t was. made clean t (old_at_mid clean t was);
      current = λ clean t now.
          let e = verdict_of_new (state g old).now t now (Ok true) (to_migrate clean) in absurd (cc);
      settled = λ up. own.settled up.0 up.1 mid_idle;
      none = tt;
      crash = whole_crash;
    }

    pub migration_failed : (fault : Fault) → IsKeeperFault fault → IsMigrateFault fault
        → (IsUp (state g new) → IsUnwritten (state g mid) (state g new)) → Migrates g old new (Err fault)
    migration_failed fault keepers named none = record {
      idle = own.mode ∙ mid_idle;
      version = tt;
      faults = named;
      follows = λ clean. inr (Ok true, to_migrate clean, keepers);
      whole = λ clean t known. keepers;
      was = was_open;
      made = tt;
      current = tt;
      settled = λ up. own.settled up.0 up.1 mid_idle;
      none = λ up.
          let here = kept (clean_mid up.0) in
          let there = none up in
          (there.0 ∙ here.0, there.1 ∙ here.1);
      crash = whole_crash;
    }

-- After its migration, a store of version 1 is served as a store of version 2.
pub serves_migrated : {S : Type 0} (g : Ghosts S) (old new first : Held S) → first ≡ new → (version : ℕ)
    → Migrates g old new (Ok version) → IsUp (state g new) → (t : Tables) → KeepsOld (state g old).now t
    → (failures : ℕ) → ServesRows g (record { conn = new; failures = failures; first = first }) store_schema
    (cells_of_tables (tables_after_migration t))
serves_migrated g old new first is version m up t was failures =
    let made = m.made up.0 t was in
    let settled = m.settled up in
    let serves : IsStore (state g new) = λ now. record { settled = settled; keeps = (_, made.1.keeps) } in record {
      is_up = (subst (λ (h : Held _). IsStore (state g h)) (sym is) serves, up);
      schema_is = ap (λ (h : Held _). (state g h).now.schema) is ∙ made.1.schema_is;
      rows_are = raw_of (state g new).now.trees (tables_after_migration t) made.1.keeps.hold;
    }

-- A store of version 2 is served as before, with the schema that it had at the start.
pub serves_current : {S : Type 0} (g : Ghosts S) (old : KeeperView S) (new first : Held S) → first ≡ new
    → (version failures : ℕ) → IsKeeperState (state g old.first) (state g old.conn)
    → Migrates g old.conn new (Ok version) → IsKeeperUp g old → IsUp (state g new)
    → IsUp (state g old.first) × ServesRows g (record { conn = new; failures = failures; first = first })
    (state g old.first).now.schema (raw_of_keeper g old)
serves_current g old new first is version failures kept m was up =
    let served = kept.served was.0 was.1 in
    let same = kept.same was.0 was.1 in
    let tables = served.keeps.0 in
    let unwritten : (state g new).now ≡ (state g old.conn).now = (m.current up.0 tables served.keeps.1).0 in
    let keeps : Keeps (state g new).now tables =
    subst (λ (d : Database). Keeps d tables) (sym unwritten) served.keeps.1 in
    let settled = m.settled up in
    let serves : IsStore (state g new) = λ now. record { settled = settled; keeps = (tables, keeps) } in (
      same.0,
      record {
        is_up = (subst (λ (h : Held _). IsStore (state g h)) (sym is) serves, up);
        schema_is = ap (λ (h : Held _). (state g h).now.schema) is ∙ ap (λ (d : Database). d.schema) unwritten ∙ same.1;
        rows_are = ap (λ (d : Database). raw_in d.trees) unwritten;
      },
    )

-- Assumes the migration of a store of version 1 whose tables encode a state.
module _ {S : Type 0} (g : Ghosts S) (base : List ℕ) (s : Content) (old new : Held S)
    (clean : HasCleanDisk (state g new)) (was : HoldsOldState base s (state g old).now) where
  abbrev t : Tables
  t = tables_after_migration was.0

  rows : IsRowsOf base s t
  rows = (migration_law base s was.0).0 was.2

  holds : (r : Result ℕ Fault) → OnOk r (HasCleanDisk (state g new) → (t : Tables) → KeepsOld (state g old).now t
      → KeepsIn store_schema (state g new).committed (tables_after_migration t)
      × KeepsIn store_schema (state g new).now (tables_after_migration t))
      → OnOk r (HoldsState base s (state g new).now × HoldsState base s (state g new).committed)
  holds (Err e) made = tt
  holds (Ok v) made = let both = made clean was.0 was.1 in ((t, both.1, rows), (t, both.0, rows))

  loads : (r : Result ℕ Fault) → OnOk r (HasCleanDisk (state g new) → (t : Tables) → KeepsOld (state g old).now t
      → KeepsIn store_schema (state g new).committed (tables_after_migration t)
      × KeepsIn store_schema (state g new).now (tables_after_migration t))
      → OnOk r (IsLegalState base s → (t : Tables) × HasVerdict (raw_in (state g new).now.trees) (Ok t)
      × (state_of t ≡ s))
  loads (Err e) made = tt
  loads (Ok v) made = λ legal.
      let both = made clean was.0 was.1 in
      let told = held_loads base s t legal rows in (
        t,
        subst (λ raw. HasVerdict raw (Ok t)) (sym (raw_of (state g new).now.trees t both.1.keeps.hold))
            told.0,
        told.1,
      )

  pub state_migrated : (r : Result ℕ Fault) → Migrates g old new r → MigratesState g base s old new r
  state_migrated r m = record {
    holds = holds r m.made;
    loads = loads r m.made;
    crash = λ db may. elim (m.crash.crash clean db may) [
      | inl before ↦ inl before
      | inr made ↦ inr (t, made.1 was.0 was.1, rows)
    ];
  }

pub migrates_states : {S : Type 0} (g : Ghosts S) → MigratesStates g
migrates_states g base s old new r m clean was = state_migrated g base s old new clean was r m
