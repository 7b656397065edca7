use Rattle.std.proofs.Common.{rules, arith}
use Rattle.thes_base.proofs.PipeLemmas.{appends_more, front_of_rest, within_rest}
use Rattle.thes_base.proofs.pipe.Pipe.write_all.Goals as goal

pub loop-at-preserved-in-Ok : goal.loop-at-preserved-in-Ok
loop-at-preserved-in-Ok g c = record {
  clear = search rules;
  ended = search rules;
  denied = search rules;
  within = within_rest c.args.bytes.now c.loop-at.at c.in-Ok.n (omega arith) c.in-Ok.ensures.writes.size;
  bytes = appends_more _ _ _ _ c.loop-at.at c.in-Ok.n c.loop-at.invariant.bytes
      (front_of_rest _ _ c.args.bytes.now c.loop-at.at c.in-Ok.n c.in-Ok.ensures.writes.bytes);
  paid = search rules;
}
