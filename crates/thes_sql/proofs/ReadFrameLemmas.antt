-- Proves that a query leaves the database unchanged, and which rows or faults it returns.
use Rattle.std.proofs.Common.{arith, ◌≡◌, ◌⊎◌, inl, inr, ℕ, List, Ok, Err, Result, IfOk, IfErr, false, IsTrue, sym, ap}
use Rattle.std.proofs.Common.{true, refl, OnOk, [], subst, ◌∙◌, Option, None, Some, is_ok, ◌≢◌}
use Rattle.std.proofs.lemmas.Grind.{common_steps}
use Rattle.sqlite.specs.Order.{Row}
use Rattle.sqlite.specs.Schema.{Schema}
use Rattle.sqlite.specs.Tree.{Trees}
use Rattle.sqlite.specs.Effect.{Database, RefusesQuery, RefusesToRead, is_query}
use Rattle.sqlite.specs.Command.{Command}
use Rattle.sqlite.specs.Command.TheVariants.{Select}
use Rattle.sqlite_schema.specs.declared.program.Program.{Program}
use Rattle.sqlite_resolve.specs.declared.error.CompileError.{CompileError}
use Rattle.sqlite.specs.declared.error.Error.TheVariants.{SqlInputError, SqliteFailure}
use Rattle.sqlite.specs.declared.error.ErrorCode.TheVariants.{Closed}
use Rattle.sqlite_trees.specs.declared.error.StoreError.{StoreError}
use Rattle.sqlite.specs.Listing.{understood, reads_listing, IsSourceOf}
use Rattle.sqlite.specs.Outline.{Outline}
use Rattle.sqlite.specs.Steps.{Outlines}
use Rattle.sqlite.specs.State.{State, HasCleanDisk, Shown, ShowsRows, FailsToQuery, FailsToShow, IsNotRun, IsUnchanged}
use Rattle.sqlite.specs.State.{IsNoStatement, store_error, IsRolledBack, Survives, CommitsShowing}
use Rattle.sqlite.specs.Held.{Held, state}
use Rattle.sqlite.specs.Given.{Returns, HasGiven, HasBegun}
use Rattle.sqlite.specs.declared.error.Error.{Error}
use Rattle.sqlite_schema.specs.declared.command.Returning.{Returning}
use Rattle.sqlite_resolve.specs.declared.compiled.Compiled.{Compiled}
use Rattle.sqlite_trees.specs.declared.store.Store.{Ghosts}
use Rattle.sqlite.proofs.StateLemmas.{survives_weaker}
use Rattle.sqlite.proofs.Callers.{IsPlain, command_of}
use Rattle.thes_sql.specs.Reads.{LeavesAlone}
use Rattle.thes_sql.specs.Queries.{IsQuery, IsWholeQuery, compiles, Finds, IsStoreFault, finds_nothing, FailsToFind}
use Rattle.thes_sql.specs.Queries.{KeepsDatabase, answer_of_error}
use Rattle.thes_sql.proofs.QueryTextLemmas.{query_is_plain, query_reads, query_is_whole}

shows_open : (old new : State) (sql : List ℕ) (c : Compiled) (params : Row) (rows : List Row) (o : Option Returning)
    → ShowsRows old new sql c params rows o → IsTrue old.is_open
shows_open old new sql c params rows o h = grind (arith, common_steps)

runs_open : (old new : State) (sql : List ℕ) (c : Compiled) (params : Row) (e : Error) (o : Option Returning)
    → FailsToShow old new sql c params e o → IsTrue new.is_open → IsTrue old.is_open
runs_open old new sql c params e o h now = grind (arith, common_steps)

-- If the database is open after a query, it was open before it.
was_open : (sql : List ℕ) (params : Row) (old new : State) {V : Type 0} (items : V → List Row) (r : Result V Error)
    → IfOk r (λ v. Shown sql params old new (items v)) → IfErr r (FailsToQuery sql params old new)
    → IsTrue new.is_open → IsTrue old.is_open
unfolding Shown FailsToQuery IsNotRun
was_open sql params old new items r ok err now = grind (arith, common_steps, shows_open, runs_open)

-- After a query the database is unchanged, or rolled back to what was committed.
module _ (sql : List ℕ) (params : Row) (old new : State) (is : IsQuery sql) where
  plain_here : (c : Compiled) → understood old.now.schema sql ≡ Ok c → IsPlain (Ok c)
  plain_here = query_is_plain sql is old.now.schema

  shown_same : (out : List Row) → Shown sql params old new out → IsUnchanged old new
  unfolding Shown
  shown_same out h = grind (arith, common_steps, plain_here)

  fails_same : (e : Error) → FailsToQuery sql params old new e → IsUnchanged old new ⊎ IsRolledBack old new
  unfolding FailsToQuery IsNotRun
  fails_same e h = grind (arith, common_steps, plain_here)

  unchanged_or_rolled_back : {V : Type 0} (items : V → List Row) (r : Result V Error)
      → IfOk r (λ v. Shown sql params old new (items v)) → IfErr r (FailsToQuery sql params old new)
      → IsUnchanged old new ⊎ IsRolledBack old new
  unchanged_or_rolled_back items (Ok v) ok err = inl (shown_same (items v) ok)
  unchanged_or_rolled_back items (Err e) ok err = fails_same e err

  commits_nothing : (db : Trees) → CommitsShowing sql params old db → ⊥
  unfolding CommitsShowing
  commits_nothing db h = let bare = plain_here h.0 h.1.is in absurd (let some = rw bare.0 at h.2 in cc)

left_as_committed : (old new : State) → IsTrue new.is_open → old.now ≡ old.committed → IsUnchanged old new
    ⊎ IsRolledBack old new
    → (new.now ≡ old.now) × (new.committed ≡ old.committed)
left_as_committed old new still_open settled h = grind (arith, common_steps)

-- A query leaves a database unchanged, and commits nothing.
module _ {S : Type 0} (g : Ghosts S) (sql : List ℕ) (params : Row) (old new : Held S) {V : Type 0}
    (r : Result V Error) (items : V → List Row) (is : IsQuery sql)
    (ok : HasCleanDisk (state g new) → IfOk r (λ v. Shown sql params (state g old) (state g new) (items v))) where
  pub leaves_alone : (old.in_transaction ≡ false → new.in_transaction ≡ false)
      → (HasCleanDisk (state g new) → IfErr r (FailsToQuery sql params (state g old) (state g new)))
      → Survives (state g old) (state g new) (CommitsShowing sql params (state g old)) → LeavesAlone g old new
  leaves_alone mode err s = record {
    tables = record {
      mode = mode;
      was = λ clean still_open. was_open sql params (state g old) (state g new) items r (ok clean) (err clean)
          still_open;
      clean = s.clean;
      same = λ clean still_open settled. left_as_committed (state g old) (state g new) still_open settled
          (unchanged_or_rolled_back sql params (state g old) (state g new) is items r (ok clean) (err clean));
    };
    crash = survives_weaker (state g old) (state g new) _ _
        (λ _ db. commits_nothing sql params (state g old) (state g new) is db) s;
  }

  keeps_after : (r : Result V Error)
      → (HasCleanDisk (state g new) → IfOk r (λ v. Shown sql params (state g old) (state g new) (items v)))
      → KeepsDatabase g old new r
  keeps_after (Err e) shown = tt
  keeps_after (Ok v) shown = λ clean.
      let h = shown_same sql params (state g old) (state g new) is (items v) (shown clean) in
      (h.0.now_is, h.0.committed_is)

  pub keeps_database : KeepsDatabase g old new r
  keeps_database = keeps_after r ok

never_returns : (r : Result Compiled CompileError) → ((c : Compiled) → r ≡ Ok c → IsPlain (Ok c)) → Returns r → ⊥
never_returns (Ok c) plain some = let none = (plain c refl).0 in absurd (let it = rw none at some in cc)
never_returns (Err e) plain some = some

-- A query that has only begun has returned no row, and leaves the database unchanged.
module _ (sql : List ℕ) (params : Row) (is : IsQuery sql) where
  pub query_begins : {S : Type 0} (g : Ghosts S) (old new : Held S) → HasBegun g sql params old new
      → HasGiven g sql params new [] × IsUnchanged (state g old) (state g new)
  query_begins g old new (inl h) = h
  query_begins g old new (inr h) = absurd (never_returns (understood old.schema sql)
      (query_is_plain sql is old.schema) h.0)

  pub query_survives : (old new : State) → Survives old new (CommitsShowing sql params old)
      → Survives old new (λ _. ⊥)
  query_survives old new = survives_weaker old new _ _ (λ _ db. commits_nothing sql params old new is db)

-- The error of a store that has failed never says that a query finds nothing.
pub cause_finds : (e : Error) (cause : StoreError) → e ≡ store_error cause → finds_nothing e ≡ false
cause_finds e cause is = grind (arith, common_steps)

-- A query fails with `Closed` only if an earlier failure had shut the database.
pub shut_before : (sql : List ℕ) (old new : State) → FailsToFind sql old new (SqliteFailure Closed)
    → old.is_open ≡ false
shut_before sql old new fails = grind (arith, common_steps)

module _ (sql : List ℕ) (old new : State) (is : IsWholeQuery sql) where
  finds_shown : (out : List Row) → Shown sql [] old new out → Finds sql old.now (Some out)
  unfolding Shown
  finds_shown out h =
      let bare = query_is_plain sql is.0 old.now.schema h.0 h.1.is in
      let it = rw (bare.0, bare.1) at h.2 in
      (h.0, h.1.is, it.0, it.1, it.2)

  -- A single query without parameters is rejected before it runs only if it doesn't compile.
  no_other : (e : Error) → IsNoStatement old sql [] e
      → (fault : CompileError) × (understood old.now.schema sql ≡ Err fault) × (e ≡ SqlInputError fault)
  no_other e h = grind (arith, common_steps, query_is_whole, query_is_plain)

  not_compiled : (e : Error) → IsNoStatement old sql [] e
      → (finds_nothing e ≡ true) × (compiles old.now.schema sql ≡ false)
  not_compiled e h = let why = no_other e h in (ap finds_nothing why.2, ap is_ok why.1)

  -- A query that compiles is refused while it runs only because its values are refused, or because it takes too many
  -- steps.
  refused_for_rows : (c : Compiled) → understood old.now.schema sql ≡ Ok c → (source : Database)
      → IsSourceOf (reads_listing old.now.schema sql) old.now source → (e : Error) → (command : Command)
      → c.command ≡ command → is_query command ≡ true → RefusesToRead old.step_limit command source [] e
      → FailsToFind sql old new e
  refused_for_rows c known source from e (Select q names) so asks (inl h) =
      let refused = subst (λ k. RefusesToRead None k source [] e) (sym so) (inl h) in
      inl (ap finds_nothing h.0, inr (c, known, source, from, e, refused))
  refused_for_rows c known source from e (Select q names) so asks (inr (inl h)) =
      let refused = subst (λ k. RefusesToRead None k source [] e) (sym so) (inr (inl h)) in
      inl (ap finds_nothing h.0, inr (c, known, source, from, e, refused))
  refused_for_rows c known source from e (Select q names) so asks (inr (inr h)) = inr (ap finds_nothing h.0, inr h)
  refused_for_rows c known source from e other so asks h = absurd (cc)

  pub fails_to_find : (e : Error) → FailsToQuery sql [] old new e → FailsToFind sql old new e
  unfolding FailsToQuery IsNotRun
  fails_to_find e (inl (inl refused)) = let why = not_compiled e refused.0 in inl (why.0, inl why.1)
  fails_to_find e (inl (inr fails)) = inr (cause_finds e fails.0 fails.1, inl (fails.0, fails.1, fails.2))
  fails_to_find e (inr h) =
      let bare = query_is_plain sql is.0 old.now.schema h.0 h.1.is in
      let it = rw (bare.0, bare.1) at h.2 in
      refused_for_rows h.0 h.1.is it.0 it.1 e h.0.command refl (query_reads sql is.0 old.now.schema h.0 h.1.is) it.2

  pub found_result : {V : Type 0} (items : V → List Row) (r : Result V Error)
      → IfOk r (λ v. Shown sql [] old new (items v)) → IfErr r (FailsToQuery sql [] old new)
      → IfOk r (λ v. Finds sql old.now (Some (items v))) × IfErr r (FailsToFind sql old new)
  found_result items r ok err = grind (arith, common_steps, finds_shown, fails_to_find)

-- Preparing a statement leaves the database unchanged.
module _ {S : Type 0} (g : Ghosts S) (sql : List ℕ) (old new : Held S) where
  -- A failure to prepare a statement leaves the database unchanged, or as it was last committed.
  prepared_so : (e : Error) → ((params : Row) → IsNotRun (state g old) (state g new) sql params e)
      → IsUnchanged (state g old) (state g new) ⊎ IsRolledBack (state g old) (state g new)
  unfolding IsNotRun
  prepared_so e h = elim (h []) [ inl refused ↦ inl refused.1 | inr fails ↦ inr fails.3 ]

  open_before : IsUnchanged (state g old) (state g new) ⊎ IsRolledBack (state g old) (state g new)
      → IsTrue (state g new).is_open → IsTrue (state g old).is_open
  open_before h now = grind (arith, common_steps)

  -- Preparing a statement leaves the database unchanged, and a crash leaves nothing new.
  pub prepared_leaves : (old.in_transaction ≡ false → new.in_transaction ≡ false)
      → Survives (state g old) (state g new) (λ _. ⊥)
      → (HasCleanDisk (state g new) → IsUnchanged (state g old) (state g new) ⊎ IsRolledBack (state g old)
      (state g new))
      → LeavesAlone g old new
  prepared_leaves mode s so = grind (arith, common_steps, open_before, left_as_committed)

  pub each_so : {V : Type 0} (P : V → Type 0) (r : Result V Error)
      → IfOk r (λ v. P v × IsUnchanged (state g old) (state g new))
      → IfErr r (λ e. (params : Row) → IsNotRun (state g old) (state g new) sql params e)
      → IsUnchanged (state g old) (state g new) ⊎ IsRolledBack (state g old) (state g new)
  each_so P r ok err = grind (arith, common_steps, prepared_so)

-- Preparing a single query shows whether it compiles, unless the store fails.
module _ (sql : List ℕ) (old new : State) (is : IsWholeQuery sql) where
  outlined : (r : Result Compiled CompileError) (s : Outline) → Outlines r s → true ≡ is_ok r
  outlined (Ok c) s h = refl
  outlined (Err fault) s h = absurd h

  pub compiles_so : (s : Outline) → Outlines (understood old.now.schema sql) s → true ≡ compiles old.now.schema sql
  compiles_so s h = outlined (understood old.now.schema sql) s h

  not_prepared : (e : Error) → ((params : Row) → IsNotRun old new sql params e)
      → ((finds_nothing e ≡ true) × (compiles old.now.schema sql ≡ false) × IsUnchanged old new)
      ⊎ IsStoreFault old new e
  unfolding IsNotRun
  not_prepared e h = elim (h []) [
    | inl none ↦ let why = not_compiled sql old new is e none.0 in inl (why.0, why.1, none.1)
    | inr fails ↦ inr (fails.0, fails.1, fails.2)
  ]

  uncompiled : (fault : CompileError) → ((params : Row) → IsNotRun old new sql params (SqlInputError fault))
      → (compiles old.now.schema sql ≡ false) × IsUnchanged old new
  uncompiled fault h = elim (not_prepared (SqlInputError fault) h) [
    | inl none ↦ (none.1, none.2)
    | inr fails ↦ let e = cause_finds _ fails.0 fails.1 in absurd (cc)
  ]

  -- If preparing a text fails with any error except that it doesn't compile, the store has failed.
  store_failed : (e : Error) → ((fault : CompileError) → e ≡ SqlInputError fault → ⊥)
      → ((params : Row) → IsNotRun old new sql params e) → IsStoreFault old new e
  unfolding IsNotRun
  store_failed e other h = elim (h []) [
    | inl none ↦ let why = no_other sql old new is e none.0 in absurd (other why.0 why.2)
    | inr fails ↦ (fails.0, fails.1, fails.2)
  ]

  pub answer_is_right : (e : Error) → ((params : Row) → IsNotRun old new sql params e)
      → IfOk (answer_of_error e) (λ there. there ≡ compiles old.now.schema sql)
      × IfErr (answer_of_error e) (IsStoreFault old new)
  answer_is_right (SqlInputError fault) h = (sym (uncompiled fault h).0, tt)
  answer_is_right e h = (tt, store_failed e (λ fault same. cc) h)

  pub kept_answered : (e : Error) (Clean : Type 0) → (Clean → (params : Row) → IsNotRun old new sql params e)
      → OnOk (answer_of_error e) (Clean → (new.now ≡ old.now) × (new.committed ≡ old.committed))
  kept_answered (SqlInputError fault) Clean h = λ clean.
      let same = (uncompiled fault (h clean)).1 in
      (same.0.now_is, same.0.committed_is)
  kept_answered e Clean h = tt

-- A query that compiles never returns the error of one that doesn't compile.

pub no_cause : (fault : CompileError) (cause : StoreError) → SqlInputError fault ≢ store_error cause
no_cause fault cause told = let e = ap finds_nothing told ∙ cause_finds _ cause refl in cc

module _ (sql : List ℕ) (params : Row) (old new : State) (q : Program) (names : List (List ℕ))
    (schema : Schema) (has : old.now.schema ≡ schema) (is : command_of (understood schema sql) ≡ Select q names)
    (plain : IsPlain (understood schema sql)) (e : Error) (fault : CompileError) where
  here : command_of (understood old.now.schema sql) ≡ Select q names
  here = ap (λ schema. command_of (understood schema sql)) has ∙ is

  bare : IsPlain (understood old.now.schema sql)
  bare = subst (λ schema. IsPlain (understood schema sql)) (sym has) plain

  no_statement : IsNoStatement old sql params e → e ≢ SqlInputError fault
  no_statement h same = grind (arith, common_steps, here)

  no_refusal : (db : Database) → RefusesQuery old.step_limit db q params e → e ≢ SqlInputError fault
  no_refusal db h same = grind (arith, common_steps)

  pub is_understood : FailsToQuery sql params old new e → e ≢ SqlInputError fault
  unfolding FailsToQuery IsNotRun
  is_understood h same = grind (arith, common_steps, no_statement, no_cause, bare, no_refusal)
