-- The opening of a store's database, and the reasons why it fails.
use Rattle.std.specs.Prelude.{◌≡◌, ◌⊎◌, Bool, false, Option, None, Some, Result, Ok, Err, IfErr}
use Rattle.thes_base.specs.declared.fault.Fault.{Fault}
use Rattle.thes_base.specs.declared.fault.Fault.TheVariants.{OutOfMemory, Store}
use Rattle.thes_sqlite.specs.Causes.{fault_of_cause}
use Rattle.thes_sqlite.specs.declared.cause.Cause.{Cause}
use Rattle.thes_command_line.specs.Opening.{opening_of}
use Rattle.thes_command_line.specs.Trouble.{name_trouble}
use Rattle.thes_command_line.specs.declared.opening.FileState.{FileState}
use Rattle.thes_command_line.specs.declared.opening.Opening.{Opening}
use Rattle.thes_command_line.specs.declared.trouble.StoreTrouble.{StoreTrouble}
use Rattle.thes_command_line.specs.declared.trouble.StoreTrouble.TheVariants.{Unreadable, Unwritable}
use Rattle.thes_jobs.specs.Trouble.{trouble_of}
use Rattle.thes_jobs.specs.declared.opening.StoreDatabase.{StoreDatabase}
use Rattle.thes_jobs.specs.declared.opening.UnopenedStore.{UnopenedStore}

-- The way to open a file in this state, for some answer to whether it is marked as that of an unfinished store; or the
-- trouble and the fault of that choice, or of the names of the files next to it. `must_exist` says that no store is
-- made.
abbrev pub ChoosesOpening : Bool → FileState → Result Opening (StoreTrouble × Fault) → Type 0
ChoosesOpening must_exist found (Ok opening) =
    (is_marked : Bool) × (opening_of must_exist found is_marked ≡ Ok opening)
ChoosesOpening must_exist found (Err reported) =
    ((names : Result Bool Fault) × IfErr names (λ fault. fault ≡ OutOfMemory) × (name_trouble names ≡ Some reported))
    ⊎ ((is_marked : Bool) × (opening_of must_exist found is_marked ≡ Err reported.0) × (reported.1 ≡ Store))

module _ {L : Type 0} (keeps : Cause → L → Type 0) where
  -- A cause kept a database from being opened: its reason and its fault are reported, and what is left of the files
  -- keeps what they held.
  pub record IsUnopenedDatabase (reported : StoreTrouble × Fault) (rest : Option L) : Type 0 where
    pub cause : Cause
    pub trouble : reported.0 ≡ trouble_of cause Unwritable
    pub fault : reported.1 ≡ fault_of_cause cause
    pub files : L
    pub rest_is : rest ≡ Some files
    pub keeps_files : keeps cause files

  -- The trouble and the fault of a store whose database wasn't opened, and what is left of its files: memory for the
  -- name of its mark ran out, no way to open it was chosen, or the database couldn't be opened in the chosen way.
  pub data IsUnopenedStore (must_exist : Bool) (reported : StoreTrouble × Fault) (rest : Option L) : Type 0 where
    no_memory : reported ≡ (Unreadable, OutOfMemory) → rest ≡ None → IsUnopenedStore must_exist reported rest
    unchosen : (found : FileState) → ChoosesOpening must_exist found (Err reported) → rest ≡ None
        → IsUnopenedStore must_exist reported rest
    unopened : (found : FileState) → (opening : Opening) → ChoosesOpening must_exist found (Ok opening)
        → IsUnopenedDatabase reported rest → IsUnopenedStore must_exist reported rest

-- The database of a store was opened in the way that is chosen for some state of the store's file, and is in no
-- transaction.
pub record IsOpenedFor {S : Type 0} (must_exist : Bool) (store : StoreDatabase S) : Type 0 where
  pub state : FileState
  pub chooses : ChoosesOpening must_exist state (Ok store.opening)
  pub idle : store.conn.in_transaction ≡ false

-- The database of a store was opened, or the trouble and the fault say why not.
abbrev pub OpensStore : {S L : Type 0} → (Cause → L → Type 0) → Bool → Result (StoreDatabase S) (UnopenedStore L)
    → Type 0
OpensStore keeps must_exist (Ok store) = IsOpenedFor must_exist store
OpensStore keeps must_exist (Err failed) = IsUnopenedStore keeps must_exist failed.report failed.rest
