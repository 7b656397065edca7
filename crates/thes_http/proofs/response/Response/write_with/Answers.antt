use Rattle.std.proofs.lemmas.Grind.{common_steps}
use Rattle.std.proofs.Common.{arith, rules}
use Rattle.thes_http.proofs.WriteLemmas.{all_written, err_after, err_between, err_before}
use Rattle.thes_base.proofs.PipeLemmas.{pays_then}
use Rattle.thes_http.proofs.response.Response.write_with.Goals as goal

pub returns-in_err-write_all : goal.returns-in_err-write_all
returns-in_err-write_all g c = record {
  whole = grind (arith, common_steps);
  part = rw (← c.requires.body, ← c.head-head.ensures, ← c.as_bytes-2.ensures)
      (err_before c.from_residual.result _ _ _ _ c.in_err-write_all.ensures.err);
  frame = grind (arith, common_steps);
}

pub returns-in_err-write_all-2 : goal.returns-in_err-write_all-2
returns-in_err-write_all-2 g c = record {
  whole = grind (arith, common_steps);
  part = rw (← c.requires.body, ← c.head-head.ensures, ← c.as_bytes-2.ensures)
      (err_between c.from_residual-in_err-write_all-2.result _ _ _ _ _ _ c.in_ok-write_all.ensures.ok
      c.in_err-write_all-2.ensures.err);
  frame = record {
    end = search rules;
    failure = search rules;
    denial = search rules;
    too_long = search rules;
    calls = pays_then c.write_all-2.ensures.frame.calls c.write_all-3.ensures.frame.calls;
  };
}

pub returns : goal.returns
returns g c = record {
  whole = rw (← c.requires.body, ← c.head-head.ensures, ← c.as_bytes-2.ensures)
      (all_written c.write_all-4.result _ _ _ _ _ _ _ c.in_ok-write_all.ensures.ok c.in_ok-write_all-2.ensures.ok
      c.write_all-4.ensures.ok);
  part = rw (← c.requires.body, ← c.head-head.ensures, ← c.as_bytes-2.ensures)
      (err_after c.write_all-4.result _ _ _ _ _ c.in_ok-write_all.ensures.ok
      (err_after c.write_all-4.result _ _ _ _ _ c.in_ok-write_all-2.ensures.ok c.write_all-4.ensures.err));
  frame = record {
    end = search rules;
    failure = search rules;
    denial = search rules;
    too_long = search rules;
    calls = pays_then c.write_all-2.ensures.frame.calls
        (pays_then c.write_all-3.ensures.frame.calls c.write_all-4.ensures.frame.calls);
  };
}
