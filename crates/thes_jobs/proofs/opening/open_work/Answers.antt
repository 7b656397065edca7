use Rattle.std.proofs.Common.{◌∙◌, Some, ap}
use Rattle.std.specs.Result.{result_map_both}
use Rattle.thes_jobs.proofs.opening.open_work.Goals as goal

pub returns-in-Import : goal.returns-in-Import
returns-in-Import c = rw (← c.planned_work.ensures, c.in-Import.is)
    (c.open.result, c.with_some.ensures ∙ ap (result_map_both Some (λ error. error)) c.import_work.ensures)

pub returns-in-Serve : goal.returns-in-Serve
returns-in-Serve c = rw (← c.planned_work.ensures, c.in-Serve.is) (
  c.open_socket.result,
  c.open_socket.ensures,
  c.with_some-in-Serve.ensures ∙ ap (result_map_both Some (λ error. error)) c.serve_work.ensures,
)
