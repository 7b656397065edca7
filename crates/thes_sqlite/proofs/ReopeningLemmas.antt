-- Proves which connection a `ReopeningKeeper` returns, that it loses its first one only when a failure has shut that,
-- and what its commits answer.
use Rattle.std.proofs.Common.{arith, ◌≡◌, ◌∙◌, inl, inr, List, Bool, true, false, Option, None, Some, refl, sym, ap, subst}
use Rattle.std.specs.Prelude.{IfSome}
use Rattle.std.proofs.lemmas.Option.{same_Some}
use Rattle.sqlite.specs.Held.{Held, state}
use Rattle.sqlite.proofs.StateLemmas.{survives_then}
use Rattle.sqlite.specs.State.{State, HasCleanDisk}
use Rattle.sqlite.specs.Tree.{Trees}
use Rattle.sqlite_trees.specs.declared.store.Store.{Ghosts}
use Rattle.sqlite_wal.specs.Recovery.{Image}
use Rattle.thes_tables.specs.declared.change.Change.{Change}
use Rattle.thes_sqlite.specs.Commits.{MakesNone}
use Rattle.thes_sqlite.specs.DatabaseFiles.{ServesFiles}
use Rattle.thes_sqlite.specs.KeeperView.{KeeperView, IsKeeperState}
use Rattle.thes_sqlite.specs.MigrationEffects.{LeavesUnwritten}
use Rattle.thes_sqlite.specs.Reopening.{ReopeningView, IsKeptOrLost, IsOfFiles, LosesShut, ReturnsFirst}
use Rattle.thes_sqlite.specs.Reopening.{ShowsChanges, StaysUnwritten, IsRightAnswerOpen, first_storage}
use Rattle.thes_sqlite.specs.Reopening.{Becomes, MakesAtMost, OnlyReads, connection_of, keeper_of_connection}
use Rattle.thes_sqlite.specs.Reopening.{opened_again, still_open}
use Rattle.thes_sqlite.specs.Reopenings.{next_count}

-- A connection that was opened again isn't reported as the first one.
pub reports_reopened : {A : Type 0} (o : A) (returned : A × Bool) → returned ≡ (o, true) → returned.1 ≡ false → ⊥
reports_reopened {A} o returned is stays =
    let reported : returned.1 ≡ true = ap (λ (r : A × Bool). r.1) is in absurd (cc)

-- If no failure has shut the first connection, the connection that is returned is this one.
pub returns_first : {S : Type 0} (g : Ghosts S) (image : Image) (v : ReopeningView S)
    (is_reopened : Bool) (storage : Option (KeeperView S)) (k : KeeperView S) (conn : Held S)
    (returned : Option (Held S) × Bool)
    → first_storage is_reopened storage ≡ v.first → storage ≡ Some k
    → IsOfFiles g image (first_storage is_reopened storage) → conn ≡ k.conn
    → IsKeeperState (state g k.first) (state g k.conn) → returned ≡ (Some conn, is_reopened) → returned.1 ≡ false
    → ReturnsFirst g image v returned.0
returns_first g image v true storage k conn returned is some known same kept returns stays =
    absurd (reports_reopened (Some conn) returned returns stays)
returns_first g image v false storage k conn returned is some known same kept returns stays = record {
  keeper = k;
  first_is = sym is ∙ some;
  conn_is = ap (λ (r : Option (Held _) × Bool). r.0) returns ∙ ap (λ (c : Held _). Some c) same;
  of_files = subst (IsOfFiles g image) some known;
  kept = kept;
}

-- A connection that a query has found shut is still shut after the query.
pub still_shut : {S : Type 0} (g : Ghosts S) (old new : Held S) → LeavesUnwritten g old new
    → (HasCleanDisk (state g new) → (state g old).is_open ≡ false) → HasCleanDisk (state g new)
    → (state g new).is_open ≡ false
still_shut g old new leaves shut clean = go (state g new).is_open refl
  where
    go : (b : Bool) → (state g new).is_open ≡ b → (state g new).is_open ≡ false
    go false is = is
    go true is =
        let open_before : (state g old).is_open ≡ true = (leaves (clean, is)).0.1 in
        let shut_before = shut clean in absurd (cc)

-- A first connection that a query has found shut is lost.
pub loses_shut : {S : Type 0} (g : Ghosts S) (image : Image) (is_reopened : Bool)
    (storage lost after : Option (KeeperView S)) (k l taken : KeeperView S)
    → IsOfFiles g image (first_storage is_reopened storage) → is_reopened ≡ false → storage ≡ Some k → lost ≡ Some l
    → l.first ≡ k.first → LeavesUnwritten g k.conn l.conn
    → (HasCleanDisk (state g l.conn) → (state g k.conn).is_open ≡ false)
    → taken ≡ l → IsKeeperState (state g taken.first) (state g taken.conn) → IsKeptOrLost g image true after lost
loses_shut g image true storage lost after k l taken files fresh is was first leaves shut same held_on = absurd (cc)
loses_shut g image false None lost after k l taken files fresh is was first leaves shut same held_on = absurd (cc)
loses_shut g image false (Some j) None after k l taken files fresh is was first leaves shut same held_on = absurd (cc)
loses_shut {S} g image false (Some j) (Some m) after k l taken files fresh is was first leaves shut same held_on =
    let start : m.first ≡ j.first =
    ap (λ (x : KeeperView S). x.first) (same_Some m l was) ∙ first
    ∙ ap (λ (x : KeeperView S). x.first) (sym (same_Some j k is)) in record {
      of_files = subst (λ (h : Held S). ServesFiles image (state g h)) (sym start) files;
      kept = subst (λ (x : KeeperView S). IsKeeperState (state g x.first) (state g x.conn))
          (same ∙ sym (same_Some m l was)) held_on;
      is_shut = subst (λ (x : KeeperView S). HasCleanDisk (state g x.conn) → (state g x.conn).is_open ≡ false)
          (sym (same_Some m l was)) (still_shut g k.conn l.conn leaves shut);
    }

-- A first connection that was lost before stays lost.
pub stays_lost : {S : Type 0} (g : Ghosts S) (image : Image) (is_reopened : Bool)
    (storage lost later after : Option (KeeperView S)) → IsKeptOrLost g image is_reopened storage lost
    → is_reopened ≡ true → later ≡ lost → IsKeptOrLost g image true after later
stays_lost g image false storage lost later after kept before same = absurd (cc)
stays_lost g image true storage None later after kept before same = absurd kept
stays_lost {S} g image true storage (Some k) later after kept before same =
    subst (λ (l : Option (KeeperView S)). IsKeptOrLost g image true after l) (sym same) kept

-- If there is no first connection any more, it was lost, whatever connection is open now.
pub is_lost : {S : Type 0} (g : Ghosts S) (image : Image) (is_reopened : Bool)
    (storage lost after : Option (KeeperView S)) → IsKeptOrLost g image is_reopened storage lost
    → first_storage is_reopened storage ≡ None → IsKeptOrLost g image true after lost
is_lost g image true storage (Some k) after kept none = kept
is_lost g image true storage None after kept none = absurd kept
is_lost g image false None lost after kept none = absurd kept
is_lost g image false (Some k) lost after kept none = absurd (cc)

-- Storage whose database was opened again lost its first connection because a failure had shut it.
pub lost_when_reopened : {S : Type 0} (g : Ghosts S) (image : Image) (is_reopened : Bool)
    (storage lost : Option (KeeperView S)) → IsKeptOrLost g image is_reopened storage lost → is_reopened ≡ true
    → (k : KeeperView S) × LosesShut g image k
lost_when_reopened g image true storage (Some k) kept again = (k, kept)
lost_when_reopened g image true storage None kept again = absurd kept
lost_when_reopened g image false storage lost kept again = absurd (cc)

-- Storage without a connection has lost the first one.
pub reopened_without : {S : Type 0} (g : Ghosts S) (image : Image) (is_reopened : Bool)
    (storage lost : Option (KeeperView S)) → IsKeptOrLost g image is_reopened storage lost → storage ≡ None
    → is_reopened ≡ true
reopened_without g image true storage lost kept none = refl
reopened_without g image false None lost kept none = absurd kept
reopened_without g image false (Some k) lost kept none = absurd (cc)

-- The answer that the open database gives is one that `ShowsChanges` allows.
pub shows_answer : {S : Type 0} (g : Ghosts S) (changes : List Change) (old new : ReopeningView S) (found : Bool)
    → IsRightAnswerOpen g changes new.storage found → ShowsChanges g changes old new found
shows_answer g changes old new true right = right
shows_answer g changes old new false right = inr (inl right)

-- A connection that isn't used stays unwritten.
pub stays_itself : {S : Type 0} (g : Ghosts S) (storage : Option (KeeperView S)) → StaysUnwritten g storage storage
stays_itself g None = tt
stays_itself g (Some k) = λ up. (up, (refl, refl))

stays_then : {S : Type 0} (g : Ghosts S) (a b c : Option (KeeperView S)) → StaysUnwritten g a b → StaysUnwritten g b c
    → StaysUnwritten g a c
stays_then g None None None p q = tt
stays_then g None None (Some m) p q = absurd q
stays_then g None (Some l) c p q = absurd p
stays_then g (Some k) None c p q = absurd p
stays_then g (Some k) (Some l) None p q = absurd q
stays_then g (Some k) (Some l) (Some m) p q = λ up.
    let later = q up in
    let before = p later.0 in
    (before.0, (later.1.0 ∙ before.1.0, later.1.1 ∙ before.1.1))

-- If a commit wrote nothing, what `ShowsChanges` states after the commit also holds from before it.
pub ends_fault : {S : Type 0} (g : Ghosts S) (changes : List Change) (old mid new : ReopeningView S)
    → StaysUnwritten g old.storage mid.storage → ShowsChanges g changes mid new false
    → ShowsChanges g changes old new false
ends_fault g changes old mid new none (inl stays) = inl (stays_then g old.storage mid.storage new.storage none stays)
ends_fault g changes old mid new none (inr told) = inr told

-- A connection that isn't used leaves what it left.
pub becomes_itself : {S : Type 0} (g : Ghosts S) (Makes : State → Trees → Type 0) (storage : Option (KeeperView S))
    → Becomes g Makes storage (connection_of storage)
becomes_itself g Makes None = tt
becomes_itself g Makes (Some k) = record {
  clean = omega arith;
  shield = λ shielded. shielded;
  counts = omega arith;
  limit = refl;
  closes = λ clean opened. inl opened;
  crash = λ clean db may. inl may;
}

becomes_then : {S : Type 0} (g : Ghosts S) (Makes : State → Trees → Type 0) (a b : Option (KeeperView S))
    (c : Option (Held S)) → Becomes g Makes a (connection_of b) → Becomes g MakesNone b c → Becomes g Makes a c
becomes_then g Makes None None None first second = tt
becomes_then g Makes None None (Some z) first second = absurd second
becomes_then g Makes None (Some y) c first second = absurd first
becomes_then g Makes (Some x) None c first second = absurd first
becomes_then g Makes (Some x) (Some y) None first second = absurd second
becomes_then g Makes (Some x) (Some y) (Some z) first second =
    survives_then (state g x.conn) (state g y.conn) (state g z) (Makes (state g x.conn)) (λ _. ⊥)
    (Makes (state g x.conn)) (λ _ db made. made) (λ _ db none. absurd none) first second

pub makes_now : {S : Type 0} (g : Ghosts S) (Makes : State → Trees → Type 0) (old new : ReopeningView S)
    → new.reopenings ≡ old.reopenings → Becomes g Makes old.storage (connection_of new.storage)
    → MakesAtMost g Makes old new
makes_now g Makes old new same becomes = still_open same becomes

-- What follows a commit and writes nothing leaves all its changes or none.
pub makes_then : {S : Type 0} (g : Ghosts S) (Makes : State → Trees → Type 0) (old mid new : ReopeningView S)
    → mid.reopenings ≡ old.reopenings → Becomes g Makes old.storage (connection_of mid.storage)
    → MakesAtMost g MakesNone mid new → MakesAtMost g Makes old new
makes_then g Makes old mid new same first (still_open stays second) = still_open (stays ∙ same)
    (becomes_then g Makes old.storage mid.storage (connection_of new.storage) first second)
makes_then g Makes old mid new same first (opened_again once second reads) =
    opened_again (once ∙ ap next_count same)
    (becomes_then g Makes old.storage mid.storage new.closed first second) reads

-- A look-up in the database that was opened again writes nothing.
pub reads_then : {S : Type 0} (g : Ghosts S) (opened : Option (Held S)) (before after : Option (KeeperView S))
    → OnlyReads g opened before → StaysUnwritten g before after → OnlyReads g opened after
reads_then g None None None reads stays = tt
reads_then g None None (Some m) reads stays = absurd stays
reads_then g None (Some l) after reads stays = absurd reads
reads_then g (Some conn) None None reads stays = reads
reads_then g (Some conn) None (Some m) reads stays = absurd stays
reads_then g (Some conn) (Some l) None reads stays = absurd stays
reads_then g (Some conn) (Some l) (Some m) reads stays = λ up.
    let later = stays up in
    let before = reads later.0 in
    (before.0, (later.1.0 ∙ before.1.0, later.1.1 ∙ before.1.1))

-- So does one through the storage over it.
pub reads_after : {S : Type 0} (g : Ghosts S) (storage : Option (KeeperView S)) (u v : ReopeningView S)
    (k l : KeeperView S) → u ≡ v → Becomes g MakesNone storage v.closed × OnlyReads g v.opened v.storage
    → u.storage ≡ Some k → LeavesUnwritten g k.conn l.conn
    → Becomes g MakesNone storage u.closed × OnlyReads g u.opened (Some l)
reads_after {S} g storage u v k l same again is leaves =
    let both = subst (λ (w : ReopeningView S). Becomes g MakesNone storage w.closed × OnlyReads g w.opened w.storage)
    (sym same) again in (
      both.0,
      reads_then g u.opened (Some k) (Some l)
          (subst (λ (o : Option (KeeperView S)). OnlyReads g u.opened o) is both.1) leaves,
    )

-- The storage over a connection that was just opened has written nothing.
pub reads_opened : {S : Type 0} (g : Ghosts S) (conn : Held S) (storage : Option (KeeperView S))
    → (conn.in_transaction ≡ false → storage ≡ Some (keeper_of_connection conn))
    → IfSome storage (λ k. k.conn ≡ conn) → OnlyReads g (Some conn) storage
reads_opened g conn None adopts same = λ idle. let never = adopts idle in absurd (cc)
reads_opened {S} g conn (Some l) adopts same =
    subst (λ (c : Held S). LeavesUnwritten g conn c) (sym same) (λ up. (up, (refl, refl)))
