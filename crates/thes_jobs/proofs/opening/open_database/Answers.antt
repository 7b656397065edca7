use Rattle.std.proofs.Common.{refl}
use Rattle.thes_jobs.proofs.opening.open_database.Goals as goal

pub returns-after-is_mark_void-clause-err : goal.returns-after-is_mark_void-clause-err
returns-after-is_mark_void-clause-err g c = record {
  cause = c.in-Err.cause;
  trouble = c.trouble_of-trouble.ensures;
  fault = c.fault.ensures;
  files = c.in-Err.rest;
  rest_is = refl;
  keeps_files = c.in-Err.ensures.fails;
}
