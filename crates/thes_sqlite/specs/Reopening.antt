-- The state of storage in a database that is opened again after a failure.
use Rattle.std.specs.Prelude.{◌≡◌, ◌⊎◌, ℕ, Bool, true, false, List, Option, None, Some, Result, Ok, Err, OnErr, option_map, refl}
use Rattle.std.specs.Coded.{Coded, code_by, coded×, coded_ℕ, coded_bool, coded_option}
use Rattle.sqlite.specs.Effect.{Database}
use Rattle.sqlite.specs.Held.{Held, held_code, state}
use Rattle.sqlite.specs.State.{State, HasCleanDisk, Survives}
use Rattle.sqlite.specs.Tree.{Trees}
use Rattle.sqlite_trees.specs.declared.store.Store.{Ghosts}
use Rattle.sqlite_wal.specs.Recovery.{Image}
use Rattle.thes_base.specs.declared.fault.Fault.{Fault}
use Rattle.thes_tables.specs.declared.change.Change.{Change}
use Rattle.thes_tables.specs.Cells.{Raw}
use Rattle.thes_store.specs.Storage.{StorageView, KeepsStorage}
use Rattle.thes_sqlite.specs.DatabaseFiles.{ServesFiles}
use Rattle.thes_sqlite.specs.FoundRows.{FindsTables, IsKeeperOpen}
use Rattle.thes_sqlite.specs.KeeperView.{KeeperView, keeper_view_code, raw_of_keeper, IsKeeperState, IsKeeperUp}
use Rattle.thes_sqlite.specs.KeeperView.{IsUp}
use Rattle.thes_sqlite.specs.Commits.{AppliesAll}
use Rattle.thes_sqlite.specs.Reopenings.{next_count}
use Rattle.thes_sqlite.specs.MigrationEffects.{LeavesUnwritten}
use Rattle.thes_sqlite.specs.CommitEvidence.{IsRightAnswer}

-- The storage over a connection, before any call.
abbrev pub keeper_of_connection : {S : Type 0} → Held S → KeeperView S
keeper_of_connection conn = record { conn = conn; failures = 0; first = conn }

-- Storage that opens its database again, as contracts see it.
pub record ReopeningView (S : Type 0) : Type 0 where
  -- The storage over the first connection, until a failure shuts that.
  pub first : Option (KeeperView S)
  -- The number of failures other than running out of memory, over all connections.
  pub failures : ℕ
  -- The storage over the connection that is open, the first one or a later one; None while the database can't be
  -- opened.
  pub storage : Option (KeeperView S)
  -- Whether a commit that returned `Store` may have been made.
  pub is_in_doubt : Bool
  -- The number of times that the database was opened again; it saturates.
  pub reopenings : ℕ
  -- The connection that was closed when the database was last opened again, and the one that was opened then.
  pub closed : Option (Held S)
  pub opened : Option (Held S)

-- The storage that opens its database again, over a new connection and before any call.
abbrev pub view_of_connection : {S : Type 0} → Held S → ReopeningView S
view_of_connection conn = record {
  first = Some (keeper_of_connection conn);
  failures = 0;
  storage = Some (keeper_of_connection conn);
  is_in_doubt = false;
  reopenings = 0;
  closed = None;
  opened = None;
}

-- The storage over the first connection: None if a failure has shut that connection, and else the storage over the open
-- one.
abbrev pub first_storage : {A : Type 0} → Bool → Option A → Option A
first_storage true storage = None
first_storage false storage = storage

-- The connection that the opener was last given, if the database was opened again.
abbrev pub closed_if : {A : Type 0} → Bool → Option A → Option A
closed_if true conn = conn
closed_if false conn = None

-- The connection that the opener returned last, if the database was opened again.
abbrev pub opened_if : {A E : Type 0} → Bool → Result A E → Option A
opened_if true (Ok conn) = Some conn
opened_if true (Err cause) = None
opened_if false result = None

-- The coding of a view as the tuple of its parts, which determine it.
abbrev pub reopening_view_code : {S : Type 0} → Coded S → Coded (ReopeningView S)
reopening_view_code {S} store =
    code_by (Option (KeeperView S) × (ℕ × (Option (KeeperView S) × (Bool × (ℕ × (Option (Held S) × Option (Held S)))))))
    (coded× (coded_option (keeper_view_code store)) (coded× coded_ℕ (coded× (coded_option (keeper_view_code store))
    (coded× coded_bool (coded× coded_ℕ (coded× (coded_option (held_code store)) (coded_option (held_code store))))))))
    (λ k. (k.first, (k.failures, (k.storage, (k.is_in_doubt, (k.reopenings, (k.closed, k.opened)))))))
    (λ p. record {
      first = p.0;
      failures = p.1.0;
      storage = p.1.1.0;
      is_in_doubt = p.1.1.1.0;
      reopenings = p.1.1.1.1.0;
      closed = p.1.1.1.1.1.0;
      opened = p.1.1.1.1.1.1;
    }) (λ _. refl)

-- The tables of a database in which no table can be queried.
abbrev pub no_rows : Raw
no_rows = record {
  meta = None;
  resource = None;
  outside = None;
  label = None;
  link = None;
  hier = None;
  posting = None;
  move = None;
}

-- The rows of the first connection's tables; `no_rows` if a failure has shut that connection.
abbrev pub rows_of_first : {S : Type 0} → Ghosts S → Option (KeeperView S) → Raw
rows_of_first g None = no_rows
rows_of_first g (Some k) = raw_of_keeper g k

-- There is a first connection, and it serves its tables.
abbrev pub IsServingFirst : {S : Type 0} → Ghosts S → Option (KeeperView S) → Type 0
IsServingFirst g None = ⊥
IsServingFirst g (Some k) = IsKeeperUp g k

-- The rows of the storage's tables, while the first connection is open.
abbrev pub rows_still : {S : Type 0} → Ghosts S → ReopeningView S → Raw
rows_still g v = rows_of_first g v.first

-- The first connection is open and serves its tables.
abbrev pub IsKeeperStillUp : {S : Type 0} → Ghosts S → ReopeningView S → Type 0
IsKeeperStillUp g v = IsServingFirst g v.first

-- There is a first connection, which is open.
abbrev pub IsOpenFirst : {S : Type 0} → Ghosts S → Option (KeeperView S) → Type 0
IsOpenFirst g None = ⊥
IsOpenFirst g (Some k) = IsKeeperOpen g k

-- The database that the first connection has now; None if a failure has shut that connection.
abbrev pub database_of_first : {S : Type 0} → Ghosts S → Option (KeeperView S) → Option Database
database_of_first g None = None
database_of_first g (Some k) = Some (state g k.conn).now

-- The first connection is still open, whatever its database has.
abbrev pub IsStillOpen : {S : Type 0} → Ghosts S → ReopeningView S → Type 0
IsStillOpen g v = IsOpenFirst g v.first

-- There is a database, and these are rows that a load finds in it.
abbrev pub FindsIn : Option Database → Raw → Type 0
FindsIn None raw = ⊥
FindsIn (Some db) raw = FindsTables db raw

-- These are rows that a load finds in the database of the first connection.
abbrev pub FindsOfFirst : {S : Type 0} → Ghosts S → ReopeningView S → Raw → Type 0
FindsOfFirst g v raw = FindsIn (database_of_first g v.first) raw

-- The first connection is open, and these are rows that a load finds in its database.
abbrev pub FindsStill : {S : Type 0} → Ghosts S → ReopeningView S → Raw → Type 0
FindsStill g v raw = IsStillOpen g v × FindsOfFirst g v raw

-- If there is a first connection, its database was at the start that of files with these contents.
abbrev pub IsOfFiles : {S : Type 0} → Ghosts S → Image → Option (KeeperView S) → Type 0
IsOfFiles g image None = Unit {0}
IsOfFiles g image (Some k) = ServesFiles image (state g k.first)

-- No request is in doubt while there is a first connection.
abbrev pub IsCertain : {S : Type 0} → Option (KeeperView S) → Bool → Type 0
IsCertain None is_in_doubt = Unit {0}
IsCertain (Some k) is_in_doubt = is_in_doubt ≡ false

-- A first connection was lost because a failure had shut it, unless the disk has failed silently. At the start its
-- database was that of files with these contents, and its storage had kept the invariant of storage since then.
pub record LosesShut {S : Type 0} (g : Ghosts S) (image : Image) (k : KeeperView S) : Type 0 where
  pub of_files : ServesFiles image (state g k.first)
  pub kept : IsKeeperState (state g k.first) (state g k.conn)
  pub is_shut : HasCleanDisk (state g k.conn) → (state g k.conn).is_open ≡ false

-- The first connection is there (`false`), or it was lost because a failure had shut it (`true`).
abbrev pub IsKeptOrLost : {S : Type 0} → Ghosts S → Image → Bool → Option (KeeperView S)
    → Option (KeeperView S) → Type 0
IsKeptOrLost g image false None lost = ⊥
IsKeptOrLost g image false (Some k) lost = Unit {0}
IsKeptOrLost g image true storage None = ⊥
IsKeptOrLost g image true storage (Some k) = LosesShut g image k

-- A connection was lost and, unless the disk has failed silently, a failure had shut the connection that the storage
-- had.
abbrev pub IsLostShut : {S : Type 0} → Ghosts S → KeeperView S → Option (Held S) → Type 0
IsLostShut g k None = ⊥
IsLostShut g k (Some conn) = HasCleanDisk (state g conn) → (state g k.conn).is_open ≡ false

-- Nothing was written: the storage had a connection and has one, and its database is unwritten; or it had none and has
-- none.
abbrev pub StaysUnwritten : {S : Type 0} → Ghosts S → Option (KeeperView S) → Option (KeeperView S) → Type 0
StaysUnwritten g None None = Unit {0}
StaysUnwritten g (Some k) (Some l) = LeavesUnwritten g k.conn l.conn
StaysUnwritten g _ _ = ⊥

-- The storage had a connection before and has one now, and a commit from the one to the other made the changes.
abbrev pub AppliesOpen : {S : Type 0} → Ghosts S → List Change → Option (KeeperView S) → Option (KeeperView S)
    → Type 0
AppliesOpen g changes (Some k) (Some l) = AppliesAll g changes k.conn l.conn
AppliesOpen g changes _ _ = ⊥

-- There is a connection, and the answer is whether its database, if it is up, shows the changes.
abbrev pub IsRightAnswerOpen : {S : Type 0} → Ghosts S → List Change → Option (KeeperView S) → Bool → Type 0
IsRightAnswerOpen g changes None answer = ⊥
IsRightAnswerOpen g changes (Some k) answer =
    IsUp (state g k.conn) → IsRightAnswer changes (state g k.conn).now (Some answer)

-- The answer to whether changes were made although their commit failed: `true` only if the database, opened again,
-- shows them; `false` only if it shows that they weren't made, if it was open and unwritten, or if the request is in
-- doubt.
abbrev pub ShowsChanges : {S : Type 0} → Ghosts S → List Change → ReopeningView S → ReopeningView S → Bool → Type 0
ShowsChanges g changes old new true = IsRightAnswerOpen g changes new.storage true
ShowsChanges g changes old new false = StaysUnwritten g old.storage new.storage
    ⊎ (IsRightAnswerOpen g changes new.storage false ⊎ (new.is_in_doubt ≡ true))

-- The answer of a commit: success only if the changes were made, or the database, opened again, shows them; a fault
-- only if the database was open and unwritten, if, opened again, it shows that they weren't made, or if the request is
-- in doubt.
abbrev pub EndsCommit : {S T : Type 0} → Ghosts S → List Change → ReopeningView S → ReopeningView S → Result T Fault
    → Type 0
EndsCommit g changes old new (Ok x) = AppliesOpen g changes old.storage new.storage
    ⊎ IsRightAnswerOpen g changes new.storage true
EndsCommit g changes old new (Err fault) = ShowsChanges g changes old new false

-- The connection that a storage had has become this one: a crash leaves of it what it could leave before, or trees that
-- `Makes` names. If there was none, there is none.
abbrev pub Becomes : {S : Type 0} → Ghosts S → (State → Trees → Type 0) → Option (KeeperView S) → Option (Held S)
    → Type 0
Becomes g Makes None None = Unit {0}
Becomes g Makes (Some k) (Some conn) = Survives (state g k.conn) (state g conn) (Makes (state g k.conn))
Becomes g Makes _ _ = ⊥

-- The connection of a storage, if there is one.
abbrev pub connection_of : {S : Type 0} → Option (KeeperView S) → Option (Held S)
connection_of storage = option_map (λ k. k.conn) storage

-- Nothing was written through the connection that was opened last, which the storage has now. If it was left, it was in
-- a transaction; if none was opened, there is none.
abbrev pub OnlyReads : {S : Type 0} → Ghosts S → Option (Held S) → Option (KeeperView S) → Type 0
OnlyReads g None None = Unit {0}
OnlyReads g None (Some l) = ⊥
OnlyReads g (Some conn) None = conn.in_transaction ≡ false → ⊥
OnlyReads g (Some conn) (Some l) = LeavesUnwritten g conn l.conn

-- Of the connection that a storage had a crash leaves what it could leave before, or trees that `Makes` names, and
-- nothing else was written: the storage still has it, and the database wasn't opened again; or it was closed when the
-- database was opened again, once.
pub data MakesAtMost {S : Type 0} (g : Ghosts S) (Makes : State → Trees → Type 0) (old new : ReopeningView S) : Type 0
  where
    still_open : new.reopenings ≡ old.reopenings → Becomes g Makes old.storage (connection_of new.storage)
        → MakesAtMost g Makes old new
    opened_again : new.reopenings ≡ next_count old.reopenings → Becomes g Makes old.storage new.closed
        → OnlyReads g new.opened new.storage → MakesAtMost g Makes old new

-- The first connection is returned, which no failure is known to have shut. At the start its database was that of files
-- with these contents, and the storage has kept its invariant since then.
pub record ReturnsFirst {S : Type 0} (g : Ghosts S) (image : Image) (v : ReopeningView S) (conn : Option (Held S)) : Type 0
  where
    pub keeper : KeeperView S
    pub first_is : v.first ≡ Some keeper
    pub conn_is : conn ≡ Some keeper.conn
    pub of_files : ServesFiles image (state g keeper.first)
    pub kept : IsKeeperState (state g keeper.first) (state g keeper.conn)

-- A call writes nothing through the first connection: if that is open afterwards, it was before, and its database is
-- the same.
pub record LeavesFirst {S : Type 0} (g : Ghosts S) (old new : ReopeningView S) : Type 0 where
  pub was : IsStillOpen g new → IsStillOpen g old
  pub same : IsStillOpen g new → database_of_first g new.first ≡ database_of_first g old.first

-- The effect of every commit before its failure is counted: on a fault, the rows of the storage are unchanged if it is
-- up.
pub record KeepsOnFault {T : Type 0} (old new : StorageView) (result : Result T Fault) : Type 0 where
  pub same : OnErr result (new.is_up → new.rows ≡ old.rows)
  pub was : new.is_up → old.is_up
  pub count : new.failures ≡ old.failures

-- The storage as the contracts of `Keeper` see it: it is up while the first connection is open and serves its tables.
abbrev pub storage_still : {S : Type 0} → Ghosts S → ReopeningView S → StorageView
storage_still g v = record { rows = rows_still g v; is_up = IsKeeperStillUp g v; failures = v.failures }

-- A call changes nothing, and counts no failure.
abbrev pub KeepsStill : {S : Type 0} → Ghosts S → ReopeningView S → ReopeningView S → Type 0
KeepsStill g old new = KeepsStorage (storage_still g old) (storage_still g new)
