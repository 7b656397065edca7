use Rattle.std.proofs.Common.{Some, ap}
use Rattle.sqlite_disk.specs.declared.Files.{Files}
use Rattle.thes_jobs.proofs.store_files.take_files.Goals as goal

abbrev files_of : {D : Type 0} → D × D → Files D
files_of pair = record { log = pair.0; db = pair.1 }

pub returns-in-Some : goal.returns-in-Some
returns-in-Some g c = rw c.in-Some.is (ap (λ pair. Some (files_of pair)) c.into_files.ensures)
