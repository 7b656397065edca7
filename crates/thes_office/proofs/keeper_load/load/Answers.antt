use Rattle.thes_office.proofs.LoadLemmas.{copy_of_accepted, found_fault, verdict_on_accepted}
use Rattle.thes_office.proofs.keeper_load.load.Goals as goal

pub returns-in-Ok-finish-clause-ok : goal.returns-in-Ok-finish-clause-ok
returns-in-Ok-finish-clause-ok g c = record {
  unspent = c.in-Ok-finish.ensures.spent;
  copy = λ up. copy_of_accepted _ _ _ _ _ c.new-loader.ensures (c.in-Ok.ensures.yields up)
      c.in-Ok-finish.ensures.limits c.in-Ok-finish.ensures.ok;
  copy_of_found = λ up.
      let found = c.in-Ok.ensures.found.passes up in (
        found.0,
        found.1,
        copy_of_accepted _ _ _ _ _ c.new-loader.ensures found.2 c.in-Ok-finish.ensures.limits
            c.in-Ok-finish.ensures.ok,
      );
}

pub returns-in-Err-finish-clause-err : goal.returns-in-Err-finish-clause-err
returns-in-Err-finish-clause-err g c = record {
  verdict = λ up. verdict_on_accepted _ _ _ _ _ _ c.new-loader.ensures (c.in-Ok.ensures.yields up)
      c.verdict.ensures.same c.in-Err-finish.ensures.err;
  verdict_on_found = λ up.
      let found = c.in-Ok.ensures.found.passes up in
      found_fault found.0 found.1 (verdict_on_accepted _ _ _ _ _ _ c.new-loader.ensures found.2
      c.verdict.ensures.same c.in-Err-finish.ensures.err);
}
