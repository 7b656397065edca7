use Rattle.std.proofs.Common.{refl}
use Rattle.thes_cli.proofs.running.migrate.Goals as goal

pub returns : goal.returns
returns g c = record {
  input = refl;
  conn_after = c.migrate_in_database-status.result.1;
  closes_it = c.close_open.ensures;
  migrates = rw (← c.as_str.ensures.value) c.migrate_in_database-status.ensures;
}
