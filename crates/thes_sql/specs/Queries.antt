-- The results of queries of a database that may hold anything, a store or not.
use Rattle.std.specs.Prelude.{◌≡◌, ◌⊎◌, ◌==◌, ◌&&◌, ℕ, leb, List, [], length, Bool, true, false, is_ok, Option, Some}
use Rattle.std.specs.Prelude.{None, Result, Ok, Err, OnOk, IfOk, IfErr, IsSome}
use Rattle.sqlite.specs.Order.{Row}
use Rattle.sqlite.specs.Effect.{Database, Reads, RefusesToRead}
use Rattle.sqlite.specs.Schema.{Schema}
use Rattle.sqlite.specs.Listing.{understood, reads_listing, IsSourceOf}
use Rattle.sqlite.specs.State.{State, HasCleanDisk, HasCause, store_error}
use Rattle.sqlite.specs.Held.{Held, state}
use Rattle.sqlite.specs.declared.error.Error.{Error}
use Rattle.sqlite.specs.declared.error.Error.TheVariants.{SqliteFailure, SqlInputError}
use Rattle.sqlite.specs.declared.error.ErrorCode.TheVariants.{TypeMismatch, IntegerOverflow, OperationInterrupted}
use Rattle.sqlite_ast.specs.declared.Statement.{Statement}
use Rattle.sqlite_ast.specs.declared.Statement.TheVariants.{Select}
use Rattle.sqlite_syntax.specs.declared.statement.Parsed.{Parsed}
use Rattle.sqlite_resolve.specs.Compile.{first}
use Rattle.sqlite_resolve.specs.declared.error.CompileError.{CompileError}
use Rattle.sqlite_resolve.specs.declared.compiled.Compiled.{Compiled}
use Rattle.sqlite_trees.specs.declared.error.StoreError.{StoreError}
use Rattle.sqlite_trees.specs.declared.store.Store.{Ghosts}

-- Whether the statement is a query.
abbrev pub reads_rows : Statement → Bool
reads_rows (Select s) = true
reads_rows _ = false

-- Whether the result of parsing a text is a query that doesn't read the time; an error isn't one.
abbrev pub is_query_text : Result Parsed CompileError → Bool
is_query_text (Ok p) = reads_rows p.statement && length p.formats == 0
is_query_text (Err e) = false

-- Whether the result of parsing a text of this size is a statement without parameters that ends where the text does; an
-- error isn't one.
abbrev pub is_whole_text : ℕ → Result Parsed CompileError → Bool
is_whole_text size (Ok p) = length p.names == 0 && leb size p.tail
is_whole_text size (Err e) = false

-- The first statement of the text is a query that doesn't read the time.
abbrev pub IsQuery : List ℕ → Type 0
IsQuery sql = is_query_text (first sql) ≡ true

-- The text is a single query, without parameters, that doesn't read the time.
abbrev pub IsWholeQuery : List ℕ → Type 0
IsWholeQuery sql = IsQuery sql × (is_whole_text (length sql) (first sql) ≡ true)

-- Whether the query compiles: the schema has all tables and columns that it names.
abbrev pub compiles : Schema → List ℕ → Bool
compiles schema sql = is_ok (understood schema sql)

-- The query finds these rows in the database. None says that the query doesn't compile, or that its values are refused:
-- a sum in a view overflows, or a type doesn't fit.
abbrev pub Finds : List ℕ → Database → Option (List Row) → Type 0
Finds sql db (Some rows) =
    (c : Compiled) × (understood db.schema sql ≡ Ok c) × (source : Database)
    × IsSourceOf (reads_listing db.schema sql) db source × Reads c.command source [] rows
Finds sql db None =
    (compiles db.schema sql ≡ false)
    ⊎ ((c : Compiled) × (understood db.schema sql ≡ Ok c) × (source : Database)
    × IsSourceOf (reads_listing db.schema sql) db source × (e : Error) × RefusesToRead None c.command source [] e)

-- The error says that the store has failed: memory ran out, the disk failed, or an earlier failure had shut the
-- database.
abbrev pub IsStoreFault : State → State → Error → Type 0
IsStoreFault old new e = (cause : StoreError) × (e ≡ store_error cause) × HasCause old new ⊥ cause

-- Whether the error says that a query doesn't compile, or that its values are refused: a sum overflows, or a type
-- doesn't fit.
abbrev pub finds_nothing : Error → Bool
finds_nothing (SqlInputError fault) = true
finds_nothing (SqliteFailure TypeMismatch) = true
finds_nothing (SqliteFailure IntegerOverflow) = true
finds_nothing _ = false

-- The query has failed with this error: it finds nothing, or the store has failed, or the query took more steps than
-- its limit.
abbrev pub FailsToFind : List ℕ → State → State → Error → Type 0
FailsToFind sql old new e =
    ((finds_nothing e ≡ true) × Finds sql old.now None)
    ⊎ ((finds_nothing e ≡ false) × (IsStoreFault old new e
    ⊎ ((e ≡ SqliteFailure OperationInterrupted) × IsSome old.step_limit)))

-- If the disk hasn't failed silently, the call returns the rows that the query finds, or fails as `FailsToFind` allows.
abbrev pub FindResult : {S V : Type 0} → Ghosts S → List ℕ → Held S → Held S → Result V Error → (V → List Row) → Type 0
FindResult g sql old new r rows =
    HasCleanDisk (state g new) → IfOk r (λ out. Finds sql (state g old).now (Some (rows out)))
    × IfErr r (FailsToFind sql (state g old) (state g new))

-- The answer to whether a query compiles, from the error of preparing it: false if the error says that it doesn't
-- compile, and any other error itself.
abbrev pub answer_of_error : Error → Result Bool Error
answer_of_error (SqlInputError fault) = Ok false
answer_of_error e = Err e

-- If the disk hasn't failed silently, the call returns whether the query compiles, and fails only if the store has
-- failed.
abbrev pub CompileResult : {S : Type 0} → Ghosts S → List ℕ → Held S → Held S → Result Bool Error → Type 0
CompileResult g sql old new r =
    HasCleanDisk (state g new) → IfOk r (λ there. there ≡ compiles (state g old).now.schema sql)
    × IfErr r (IsStoreFault (state g old) (state g new))

-- If the disk hasn't failed silently, a successful call leaves the database and its committed state unchanged.
abbrev pub KeepsDatabase : {S V E : Type 0} → Ghosts S → Held S → Held S → Result V E → Type 0
KeepsDatabase g old new r =
    OnOk r (HasCleanDisk (state g new)
    → ((state g new).now ≡ (state g old).now) × ((state g new).committed ≡ (state g old).committed))
