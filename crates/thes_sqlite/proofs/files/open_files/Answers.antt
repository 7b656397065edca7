use Rattle.std.proofs.Common.{ℕ, Bool, cond, List, ap₂, subst}
use Rattle.sqlite_disk.specs.Events.{Event, replay}
use Rattle.sqlite_wal.specs.Files.{image_at}
use Rattle.sqlite_wal.specs.Recovery.{Image}
use Rattle.sqlite.specs.Files.{file_state}
use Rattle.sqlite.specs.Start.{FindsIn}
use Rattle.thes_sqlite.proofs.DatabaseFileLemmas.{opens_files}
use Rattle.thes_sqlite.proofs.files.open_files.Goals as goal

abbrev image : List ℕ → List ℕ → Image
image log db = record { log = log; db = db }

abbrev seen : List ℕ → List ℕ → Bool → List Event → List ℕ
seen log db is_log history = (replay (cond is_log log db) history).seen

pub returns-in-Ok-open_files_with-clause-opens : goal.returns-in-Ok-open_files_with-clause-opens
returns-in-Ok-open_files_with-clause-opens g c = rw c.set_clock.ensures λ clean.
    let (log, db) = c.in-Ok-open_pair.ensures.fresh in
    let found = c.in-Ok-open_files_with.ensures.found clean in
    let opened = c.in-Ok-open_files_with.ensures.opened clean in
    let same = ap₂ image (ap₂ (seen g.S.Start.log g.S.Start.db) log.0 log.1)
    (ap₂ (seen g.S.Start.log g.S.Start.db) db.0 db.1) in
    opens_files (image_at g.S.Start) (file_state c.in-Ok-open_files_with.conn)
    (subst (λ i. FindsIn i (file_state c.in-Ok-open_files_with.conn)) same
    (record { holds = found.holds; reads = found.reads })) opened.0 opened.1

pub returns-in-Err-open_files_with-clause-fails : goal.returns-in-Err-open_files_with-clause-fails
returns-in-Err-open_files_with-clause-fails g c =
    let failed = c.in-Err-open_files_with.ensures in
    record {
      files = c.in-Ok-open_pair.files;
      are_opened = c.in-Ok-open_pair.ensures.fresh;
      error = c.in-Err-open_files_with.error;
      cause_is = c.cause_of_opening.ensures;
      reason = failed.cause;
      keeps_files = failed.unharmed;
    }
