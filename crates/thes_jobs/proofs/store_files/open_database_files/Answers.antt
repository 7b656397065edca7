use Rattle.std.proofs.Common.{ℕ, Bool, cond, List, ap₂}
use Rattle.sqlite_disk.specs.Events.{Event, replay}
use Rattle.sqlite_wal.specs.Files.{image_at}
use Rattle.sqlite_wal.specs.Recovery.{Image}
use Rattle.thes_jobs.proofs.DatabaseLemmas.{keeps_image, left_as_opened}
use Rattle.thes_jobs.proofs.store_files.open_database_files.Goals as goal

abbrev image : List ℕ → List ℕ → Image
image log db = record { log = log; db = db }

abbrev seen : List ℕ → List ℕ → Bool → List Event → List ℕ
seen log db is_log history = (replay (cond is_log log db) history).seen

pub returns-in-Ok-clause-opens : goal.returns-in-Ok-clause-opens
returns-in-Ok-clause-opens g c =
    record { idle = c.in-Ok.ensures.idle; opens = λ up. c.in-Ok.ensures.opens up.0 }

pub returns-in-Err-clause-fails : goal.returns-in-Err-clause-fails
returns-in-Err-clause-fails g c = rw c.take_files.ensures (keeps_image (image_at g.S.Start) _ (λ files fresh. record {
  reads = ap₂ image (ap₂ (seen g.S.Start.log g.S.Start.db) fresh.0.0 fresh.0.1)
      (ap₂ (seen g.S.Start.log g.S.Start.db) fresh.1.0 fresh.1.1);
  crash = λ after left. ap₂ image
      (left_as_opened g.S.Start.log g.S.Start.db _ _ _ _ _ fresh.0.0 fresh.0.1 after.log left.0)
      (left_as_opened g.S.Start.log g.S.Start.db _ _ _ _ _ fresh.1.0 fresh.1.1 after.db left.1);
}) c.in-Err.cause c.in-Err.left c.in-Err.ensures.fails c.in-Err.ensures.early)
