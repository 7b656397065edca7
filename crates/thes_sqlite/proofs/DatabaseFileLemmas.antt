-- Proves that the files of a store are opened as this store, and hold it again once they are closed.
use Rattle.std.proofs.lemmas.Grind.{common_steps}
use Rattle.std.proofs.Common.{arith, ◌≡◌, ◌<◌, ◌∙◌, ℕ, List, length, inl, inr, ap, sym, subst, IsTrue}
use Rattle.std.proofs.Math.Logic.{∥∥₁_elim}
use Rattle.sqlite_disk.specs.declared.Disk as disk
use Rattle.sqlite_disk.specs.declared.Files.{Files}
use Rattle.sqlite_wal.specs.Recovery.{Image}
use Rattle.sqlite_trees.specs.Tree.{Trees}
use Rattle.sqlite_trees.specs.Props.{Trees-set}
use Rattle.sqlite_trees.specs.Objects.{catalog_tree}
use Rattle.sqlite_catalog.specs.Listing.{IsSound}
use Rattle.sqlite_catalog.proofs.ReadLemmas.{read_once, reads}
use Rattle.sqlite_schema.specs.declared.schema.Schema.{Schema}
use Rattle.sqlite_store.specs.FileStore.{view}
use Rattle.sqlite_store.specs.declared.store.FileStore.{FileStore}
use Rattle.sqlite_trees.specs.View.{IsClean}
use Rattle.sqlite.specs.Closing.{IsCopied}
use Rattle.sqlite.proofs.ListingLemmas.{empty_is_sound}
use Rattle.sqlite.specs.Effect.{Database, IsDatabase}
use Rattle.sqlite.specs.Files.{HoldsDatabase, IsClosed, file_state}
use Rattle.sqlite.specs.Held.{Held}
use Rattle.sqlite.specs.Start.{FindsIn}
use Rattle.sqlite.specs.State.{State, IsLive, Opens}
use Rattle.thes_sql.specs.Schema.{empty_schema}
use Rattle.thes_sql.specs.OldStore.{KeepsOld}
use Rattle.thes_sql.specs.StoredRows.{KeepsIn}
use Rattle.thes_sqlite.specs.DatabaseFiles.{ClosesFiles, FailsToClose, IsNewFile, OpensFiles}

-- The trees of a database determine its schema.
pub one_schema : (a b : Schema) (db : Trees) → IsSound a db → IsSound b db → a ≡ b
one_schema a b db x y =
    let first = reads (db catalog_tree) a x.lists in
    read_once _ a b first.tables first.indexes first.views (reads (db catalog_tree) b y.lists)

same_database : (a b : Database) → IsDatabase a → IsDatabase b → a.trees ≡ b.trees → a ≡ b
same_database a b x y trees = grind (arith, common_steps, one_schema)

-- A new file has no page.
no_page : (image : Image) → IsNewFile image → 0 < length image.db → ⊥
no_page image new present =
    let none : length image.db ≡ 0 = ap (λ (db : List ℕ). length db) new in
    omega (arith, none, present)

-- A new file holds no database, so the schema of the database opened in it is empty.
new_is_empty : (image : Image) (s : State) → FindsIn image s → s.now ≡ s.committed → IsDatabase s.committed
    → IsNewFile image → s.now.schema ≡ empty_schema
new_is_empty image s found clean sound new = elim found.reads [
  | inl adopted ↦ let adopts = adopted.3 in absurd (no_page image new adopts.found.present)
  | inr nothing ↦ let none = nothing.1 in ap (λ (d : Database). d.schema) clean
      ∙ one_schema s.committed.schema empty_schema s.committed.trees sound (empty_is_sound s.committed.trees none.1)
]

-- A database that files hold is found by opening them.
opens_database : (image : Image) (s : State) → FindsIn image s → Opens s → IsLive s → (database : Database)
    → ∥ HoldsDatabase image database.trees ∥₁ → IsDatabase database → database ≡ s.now
opens_database image s found opened live database held sound =
    let trees : s.committed.trees ≡ database.trees = ∥∥₁_elim held (Trees-set _ _) (found.holds _) in
    sym (opened.clean ∙ same_database s.committed database (live opened.is_open).1 sound trees)

pub opens_files : (image : Image) (s : State) → FindsIn image s → Opens s → IsLive s → OpensFiles image s
opens_files image s found opened live = record {
  finds = found;
  settled = opened.clean;
  serves = λ schema t store. subst (λ (d : Database). KeepsIn schema d t)
      (opens_database image s found opened live store.database store.files_hold store.sound) store.keeps;
  serves_old = λ t store. subst (λ (d : Database). KeepsOld d t)
      (opens_database image s found opened live store.database store.files_hold store.sound) store.keeps;
  empty = new_is_empty image s found opened.clean (live opened.is_open).1;
}

-- Closing leaves the committed database in the files.
pub closes_files : {D : Type 0} {g : disk.Ghosts D} (c : Held (FileStore D g)) (files : Files D) → IsLive (file_state c)
    → IsCopied c files → ClosesFiles g (file_state c) files
closes_files {D} {g} c files live copied = record {
  was_up = (copied.was_clean, copied.was_open);
  sound = (live copied.was_open).1;
  holds = copied.seen.both;
  crash = λ image may. (copied.left image may).both;
}

-- Where closing fails, the files hold what they held.
pub fails_to_close : {D : Type 0} {g : disk.Ghosts D} (c : Held (FileStore D g)) (rest : FileStore D g)
    → ((db : Trees) → IsTrue (file_state c).is_open → (file_state c).may_leave db
    → db ≡ (file_state c).committed.trees) → IsLive (file_state c) → IsClosed c rest → IsClean (view rest)
    → FailsToClose (file_state c) rest
fails_to_close {D} {g} c rest law live closed clean = record {
  was_clean = let falls = closed.quiet.clean in omega (arith, falls, clean);
  finds = closed.quiet.outcomes;
  sound = λ opened. (live opened).1;
  holds = λ opened db found. law db opened (closed.quiet.outcomes db found);
}
