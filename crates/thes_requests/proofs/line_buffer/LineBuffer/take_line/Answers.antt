use Rattle.std.proofs.Common.{rules, arith, ◌≡◌, refl, false}
use Rattle.std.specs.Prelude.{◌==◌}
use Rattle.thes_requests.proofs.LineBufferLemmas.{line_so_far_append, line_so_far_run}
use Rattle.thes_requests.proofs.line_buffer.LineBuffer.take_line.Goals as goal

pub loop-taken-preserved : goal.loop-taken-preserved
loop-taken-preserved g c =
    let other : (c.in-Some.byte == 10) ≡ false = search rules in
    record {
      front = line_so_far_run _ _ _ _ _ _ _ c.take_run-run.result _ (line_so_far_append _ _ _ _ _ _ c.loop-taken.held
          c.keep-kept.result c.loop-taken.taken c.loop-taken.invariant.front (search rules) (rw other refl)
          c.keep-kept.ensures) c.take_run-run.ensures.run;
      fresh = search rules;
      paid = search rules;
      most = omega arith;
    }
