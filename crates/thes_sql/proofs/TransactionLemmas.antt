-- Proves that a transaction applies its changes in order and atomically.
use Rattle.std.proofs.lemmas.Grind.{common_steps}
use Rattle.std.proofs.Common.{arith, ◌≡◌, ℕ, ◌+◌, ◌<◌, get_or, true, List, ◌∷◌, length, drop, refl, sym, ap, subst, ◌∙◌}
use Rattle.std.proofs.Common.{IsTrue}
use Rattle.std.proofs.lemmas.List.{drop_more}
use Rattle.sqlite.specs.Schema.{Schema}
use Rattle.sqlite.specs.Tree.{Trees}
use Rattle.sqlite.specs.State.{State, HasCleanDisk, KeepsCommit, Survives}
use Rattle.sqlite.specs.Held.{Held, state}
use Rattle.sqlite.proofs.Callers.{survives_begin}
use Rattle.sqlite.proofs.StateLemmas.{survives_then}
use Rattle.sqlite_trees.specs.declared.store.Store.{Ghosts}
use Rattle.thes_tables.specs.declared.change.Change.{Change}
use Rattle.thes_tables.specs.Tables.{Tables}
use Rattle.thes_tables.specs.Rows.{DeltaFits, tables_after_change, tables_after_delta}
use Rattle.thes_sql.specs.Additions.{LeavesUserTables}
use Rattle.thes_sql.specs.StoredRows.{Keeps, Hold}
use Rattle.thes_sql.specs.OldStore.{KeepsOld, IsOldStore, IsMigratedStore}
use Rattle.thes_tables.specs.OldRows.{tables_after_migration}
use Rattle.thes_sql.specs.TransactionEffects.{AppliesChange, AppliesChanges, IsUnderWay, TransformsTables}

pub users_stay : (schema : Schema) (db : Trees) → LeavesUserTables schema db db
users_stay schema db = record { same = λ t user. refl }

users_then : {mid schema : Schema} {a b c : Trees} → mid ≡ schema → LeavesUserTables schema a b
    → LeavesUserTables mid b c → LeavesUserTables schema a c
users_then {mid} {schema} {a} {b} {c} is first next =
    let on : LeavesUserTables schema b c = subst (λ s. LeavesUserTables s b c) is next in
    record { same = λ t user. on.same t user ∙ first.same t user }

-- Applying the next change leaves one change fewer.
pub under_way_next : (changes left more : List Change) (change : Change) (old mid new : State) → left ≡ change ∷ more
    → IsUnderWay changes left old mid → AppliesChange change mid new → IsUnderWay changes more old new
under_way_next changes left more change old mid new is far did = record {
  rows = λ t keeps fits.
      let so_far = far.rows t keeps fits in
      let rest = subst (λ l. DeltaFits l so_far.0) is so_far.2 in
      let made = did.rows so_far.0 so_far.1.keeps rest.0 in (
        tables_after_change change so_far.0,
        record { schema_is = made.0.schema_is ∙ so_far.1.schema_is; keeps = made.0.keeps },
        rest.1,
        ap (λ l. tables_after_delta l so_far.0) (sym is) ∙ so_far.3,
        users_then so_far.1.schema_is so_far.4 made.1,
      );
  inside = did.inside;
}

pub keeps_then : (a b c : State) → KeepsCommit a b → KeepsCommit b c → KeepsCommit a c
keeps_then a b c p q = grind (arith, common_steps)

pub survives_on : (a b c : State) → Survives a b (λ _. ⊥) → Survives b c (λ _. ⊥) → Survives a c (λ _. ⊥)
survives_on a b c p q = survives_then a b c _ _ (λ _. ⊥) (λ _ db none. none) (λ _ db none. none) p q

pub drop_next_change : {X : Type 0} (xs : List X) (i : ℕ) (x : X) → i < length xs → x ≡ get_or xs i x
    → drop i xs ≡ x ∷ drop (i + 1) xs
drop_next_change xs i x low is = drop_more xs i x low ∙ ap (λ y. y ∷ drop (i + 1) xs) (sym is)

-- If a crash interrupts a transaction, it leaves the old database or what the transaction has made.
kept_or_old : {S : Type 0} (g : Ghosts S) (start begun : Held S) (mid new : State) (Lands : Trees → Type 0)
    → begun ≡ record start { in_transaction = true } → Survives (state g begun) mid (λ _. ⊥)
    → (HasCleanDisk mid → Lands mid.now.trees) → Survives mid new (λ (db : Trees). db ≡ mid.now.trees)
    → Survives (state g start) new Lands
kept_or_old g start begun mid new Lands is first did last =
    survives_then (state g start) mid new _ _ Lands (λ _ db none. absurd none)
    (λ clean db left. subst Lands (sym left) (did (omega (arith, last.clean, clean))))
    (survives_begin g start mid (λ _. ⊥) (subst (λ h. Survives (state g h) mid (λ _. ⊥)) is first)) last

-- Assumes a transaction of the changes.
module _ {S : Type 0} (g : Ghosts S) (start begun : Held S) (changes : List Change) (mid new : State)
    (is : begun ≡ record start { in_transaction = true }) (first : Survives (state g begun) mid (λ _. ⊥))
    (did : HasCleanDisk mid → IsTrue begun.in_transaction → AppliesChanges changes (state g begun) mid)
    (last : Survives mid new (λ (db : Trees). db ≡ mid.now.trees)) where
  applied : HasCleanDisk mid → AppliesChanges changes (state g (record start { in_transaction = true })) mid
  applied clean = subst (λ (h : Held S). IsTrue h.in_transaction → AppliesChanges changes (state g h) mid) is
      (did clean) refl

  -- If a crash interrupts it, it leaves the old tables or those with all changes.
  pub all_or_old : Survives (state g start) new
      (λ trees. (t : Tables) → Keeps (state g start).now t → DeltaFits changes t
      → Hold trees (tables_after_delta changes t))
  all_or_old = kept_or_old g start begun mid new _ is first
      (λ clean t keeps fits. ((applied clean).rows t keeps fits).0.keeps.hold) last

  -- If a crash interrupts it, a user's tables are unchanged.
  pub users_or_old : Survives (state g start) new
      (λ trees. (t : Tables) → Keeps (state g start).now t → DeltaFits changes t
      → LeavesUserTables (state g start).now.schema (state g start).now.trees trees)
  users_or_old = kept_or_old g start begun mid new _ is first
      (λ clean t keeps fits. ((applied clean).rows t keeps fits).1) last

-- If a crash interrupts a migration, it leaves the old database or the migrated tables.
pub migrated_or_old : {S : Type 0} (g : Ghosts S) (start begun : Held S) (mid new : State)
    → begun ≡ record start { in_transaction = true } → Survives (state g begun) mid (λ _. ⊥)
    → (HasCleanDisk mid → IsTrue begun.in_transaction
    → TransformsTables IsOldStore IsMigratedStore (state g begun) mid)
    → Survives mid new (λ (db : Trees). db ≡ mid.now.trees)
    → Survives (state g start) new
    (λ trees. (t : Tables) → KeepsOld (state g start).now t → Hold trees (tables_after_migration t))
migrated_or_old g start begun mid new is first did last = kept_or_old g start begun mid new _ is first
    (λ clean t old. ((subst (λ (h : Held _). IsTrue h.in_transaction
    → TransformsTables IsOldStore IsMigratedStore (state g h) mid) is (did clean) refl).made t old).keeps.hold) last
