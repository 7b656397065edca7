-- The command `serve`: HTTP connections over the store.
use Rattle.std.specs.Prelude.{◌≡◌, ◌≢◌, ◌⊎◌, ◌++◌, ℕ, Bool, List, Option, codes, decimal}
use Rattle.std.specs.Io.KnownBytes.{Appends}
use Rattle.std.specs.IoError.{error_kind}
use Rattle.std.specs.declared.io.Error.{Error}
use Rattle.std.specs.declared.io.ErrorKind.TheVariants as kinds
use Rattle.thes_base.specs.Pipe.{written_bytes}
use Rattle.thes_base.specs.declared.fault.Fault.TheVariants.{OutOfMemory}
use Rattle.thes_base.specs.declared.fault.PipeFault.TheVariants.{Fault, Write}
use Rattle.thes_base.specs.declared.pipe.Pipe.{Pipe}
use Rattle.thes_store.specs.Storage.{StorageView}
use Rattle.thes_office.specs.Office.{OfficeView}
use Rattle.thes_http.specs.ConnectionCounts.{AreAtMost, ConnectionCounts}
use Rattle.thes_http.specs.Server.{LeadsBy}
use Rattle.thes_service.specs.OfficeRequests.{IsReachedByRun}
use Rattle.thes_service.specs.Service.{office_behaviour}
use Rattle.thes_command_line.specs.Printing.{Prints, PrintsPrefix, fault_line, net_line}

-- The line that names the address, with its line feed.
abbrev pub listening_line : ℕ → List ℕ
listening_line port = codes "listening on 127.0.0.1:" ++ decimal port ++ codes "\n"

-- The server ended without an error: the status is 0, and nothing is printed.
abbrev pub EndsWell : {E : Type 0} → Pipe E → Pipe E → ℕ → Type 0
EndsWell old new status = (new ≡ old) × (status ≡ 0)

-- The fault of a server is printed: OutOfMemory if memory ran out, for the routes or for a connection, and Net if a
-- connection couldn't be accepted for another reason.
abbrev pub PrintsUnserved : {E : Type 0} → (E → Option (List ℕ)) → Error → Pipe E → Pipe E → Type 0
PrintsUnserved err error old new =
    ((error_kind error ≡ kinds.OutOfMemory) × Prints err old new (fault_line (Fault OutOfMemory)))
    ⊎ ((error_kind error ≢ kinds.OutOfMemory) × Prints err old new net_line)

-- A connection couldn't be accepted, or memory ran out: the fault is printed, and the status is 3.
abbrev pub EndsUnserved : {E : Type 0} → (E → Option (List ℕ)) → Error → Pipe E → Pipe E → ℕ → Type 0
EndsUnserved err error old new status = PrintsUnserved err error old new × (status ≡ 3)

module _ {K E : Type 0} (view : K → StorageView) (err : E → Option (List ℕ)) where
  -- Connections were served, one after another, by a run of the machine: exactly `count` connections, unless one
  -- couldn't be accepted or memory ran out. All that was performed are the exchanges in them. `takes` says whether
  -- plans are taken.
  pub record ServesAll (takes : Bool) (count : ℕ) (old_office : OfficeView K) (errors errors' : Pipe E)
      (connections : ConnectionCounts) (status : ℕ) (new_office : OfficeView K) : Type 0 where
    pub served : LeadsBy (office_behaviour view takes) connections.exchanges old_office new_office
    pub few : AreAtMost count connections
    pub reached : IsReachedByRun view old_office new_office
    pub ends : ((connections.finished ≡ count) × EndsWell errors errors' status)
        ⊎ ((error : Error) × EndsUnserved err error errors errors' status)

  -- The command `serve`: the address is printed, and connections are served; or printing the address failed, and no
  -- connection is served.
  abbrev pub ServesStore : {W : Type 0} → (W → Option (List ℕ)) → Bool → ℕ → ℕ → OfficeView K → Pipe W → Pipe W
      → Pipe E → Pipe E → ConnectionCounts → ℕ → OfficeView K → Type 0
  ServesStore out takes port count old_office output output' errors errors' connections status new_office =
      (Appends (written_bytes out output) (written_bytes out output') (listening_line port)
      × ServesAll takes count old_office errors errors' connections status new_office)
      ⊎ (PrintsPrefix out output output' (listening_line port)
      × Prints err errors errors' (fault_line Write) × (new_office ≡ old_office) × (status ≡ 3))
