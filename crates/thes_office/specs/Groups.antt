-- Groups of posts with different keys, which are performed in one transaction.
use Rattle.std.specs.Prelude.{◌≡◌, ◌++◌, ◌%◌, ℕ, Bool, false, true, List, [], Result, Ok, Err, Some, All, length, take}
use Rattle.std.specs.Prelude.{slice_get, slice_index_or}
use Rattle.std.specs.List.{AllByRecursion}
use Rattle.thes_base.specs.Types.{Key, Number, RecordName}
use Rattle.thes_base.specs.declared.data.Limits.{Limits}
use Rattle.thes_base.specs.declared.fault.Fault.{Fault}
use Rattle.thes_base.specs.declared.request.Answer.{Answer}
use Rattle.thes_base.specs.declared.request.Command.{Command}
use Rattle.thes_base.specs.declared.request.Command.TheVariants as request
use Rattle.thes_base.specs.Machine.{Run, Step}
use Rattle.thes_base.specs.Refusals.{Setting}
use Rattle.thes_base.specs.State.{State}
use Rattle.thes_tables.specs.declared.change.Change.{Change}
use Rattle.thes_tables.specs.Cells.{Raw}
use Rattle.thes_tables.specs.ChangeLaw.{AreChangesBetween}
use Rattle.thes_store.specs.Keys.{digest_of}
use Rattle.thes_store.specs.Storage.{StorageView}
use Rattle.thes_core.specs.declared.facts.Facts.{Facts}
use Rattle.thes_core.specs.CoreView.{CoreView, IsViewOf}
use Rattle.thes_core.specs.Facts.{AreFacts}
use Rattle.thes_office.specs.QueryFrames.{FactsInTables}
use Rattle.thes_office.specs.TablesOfState.{TablesOfState}
use Rattle.thes_office.specs.Office.{ChangesNothing, CompleteRun, IsCopy, OfficeView, SameTables, TablesAfterRun}

-- The request is a Post with this key.
abbrev pub IsPostOf : Key → Command → Type 0
IsPostOf key (request.Post own rec concept) = own ≡ key
IsPostOf key _ = ⊥

-- The request is a Post, and none of the earlier requests is a Post with its key.
pub record IsNewPost (earlier : List Command) (command : Command) : Type 0 where
  pub key : Key
  pub rec : RecordName
  pub concept : Number
  pub is : command ≡ request.Post key rec concept
  pub fresh : All (λ other. ¬ IsPostOf key other) earlier

-- Each request is a Post, with a key of its own.
abbrev pub IsGroup : List Command → Type 0
IsGroup commands =
    (i : ℕ) (command : Command) → slice_get commands i ≡ Some command → IsNewPost (take i commands) command

-- The place of a key among 1,024 marks. Different keys may have the same place.
unfoldable pub place_of_key : List ℕ → ℕ
place_of_key key = digest_of key % 1024

-- The place of the key is marked.
abbrev pub IsMarked : List Bool → List ℕ → Type 0
IsMarked marks key = slice_index_or marks (place_of_key key) false ≡ true

-- For each of these posts, the place of its key is marked.
pub record AreKeysMarked (marks : List Bool) (commands : List Command) : Type 0 where
  pub each : All (λ command. (key : Key) → IsPostOf key command → IsMarked marks key) commands

-- The facts that the tables have about the request are also those of this state.
abbrev pub HasFactsOf : Raw → Command → State → Type 0
HasFactsOf raw command s = (facts : Facts) → FactsInTables raw command facts → AreFacts command s.histories facts

-- The request is decided in the state `s`, and applied to the core; its changes of rows are appended to the others.
pub record IsDecided (setting : Setting) (s : State) (command : Command) (answer : Answer)
    (before after : List Change) (copy : CoreView) : Type 0 where
  pub state_after : State
  pub step : Step setting s command answer state_after
  pub holds : IsViewOf copy state_after
  pub changes : List Change
  pub more : after ≡ before ++ changes
  pub leads : AreChangesBetween setting.base changes s state_after
  pub same : ChangesNothing answer → changes ≡ []

-- Requests of a group are decided on the state that the tables encode: their answers, their changes of rows, and the
-- core, which holds the state after them. For a new post, the facts in the tables are those of that state.
pub record GroupDecided (raw : Raw) (setting : Setting) (done : List Command) (answers : List Answer)
    (changes : List Change) (copy : CoreView) : Type 0 where
  pub state_before : State
  pub state_after : State
  pub shows : TablesOfState raw setting.base state_before
  pub holds : IsViewOf copy state_after
  pub run : Run setting state_before done answers state_after
  pub leads : AreChangesBetween setting.base changes state_before state_after
  pub facts : (command : Command) → IsNewPost done command → HasFactsOf raw command state_after
  pub same : AllByRecursion ChangesNothing answers → changes ≡ []

-- The answers and the tables are those of a run of the machine, and the tables are unchanged if no answer changes
-- anything.
pub record TablesAfterGroup (limits : Limits) (old : Raw) (commands : List Command) (answers : List Answer)
    (new : Raw) : Type 0 where
  pub goes_on : TablesAfterRun limits old commands answers new
  pub same : AllByRecursion ChangesNothing answers → new ≡ old

-- The core may decide a group of posts over the storage: it is usable, and while the storage is up, it holds the state
-- that the tables encode.
pub record MayDecideGroup (storage : StorageView) (copy : CoreView) (commands : List Command) : Type 0 where
  pub unspent : copy.spent ≡ false
  pub copies : storage.is_up → IsCopy storage.rows copy.setting.limits copy
  pub group : IsGroup commands

-- Each request of a group has an answer, and the core is usable. If the storage is still up, the tables are those after
-- the requests, and the core holds their state.
pub record PerformsGroup (old new : StorageView) (limits : Limits) (commands : List Command) (answers : List Answer)
    (copy : CoreView) : Type 0 where
  pub performs : new.is_up → TablesAfterGroup limits old.rows commands answers new.rows
  pub each : length answers ≡ length commands
  pub unspent : copy.spent ≡ false
  pub copies : new.is_up → IsCopy new.rows limits copy

-- All requests of a group are answered, or, on a fault, none is. If the storage is still up, the tables are those after
-- the requests, or, on a fault, unchanged.
abbrev pub GroupResult : {K : Type 0} → (K → StorageView) → OfficeView K → List Command → List Answer
    → List Answer → Result (Unit {0}) Fault → OfficeView K → Type 0
GroupResult view old commands before after (Ok done) new = CompleteRun view old commands before after new
GroupResult view old commands before after (Err fault) new = (after ≡ before) × SameTables view old new
