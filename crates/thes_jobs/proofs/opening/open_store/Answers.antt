use Rattle.std.proofs.Common.{◌≡◌, Err, refl, rules}
use Rattle.thes_jobs.specs.OpenStore.{unchosen, unopened}
use Rattle.thes_jobs.proofs.opening.open_store.Goals as goal

pub returns-in-Err-opening_for-clause-opens : goal.returns-in-Err-opening_for-clause-opens
returns-in-Err-opening_for-clause-opens g c = rw c.without_files-in-Err-opening_for.ensures
    (unchosen c.file_state-found.result c.in-Err-opening_for.ensures refl)

pub returns-in_err-conn-clause-opens : goal.returns-in_err-conn-clause-opens
returns-in_err-conn-clause-opens g c =
    let same : c.from_residual.result ≡ Err c.in_err-conn.field-0.0 = search rules in
    rw same (unopened c.file_state-found.result c.in-Ok-opening_for.opening c.in-Ok-opening_for.ensures
    c.in_err-conn.ensures.err)
