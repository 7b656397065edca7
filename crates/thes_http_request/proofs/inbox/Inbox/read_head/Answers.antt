use Rattle.std.proofs.lemmas.Grind.{common_steps}
use Rattle.std.proofs.Common.{arith, rules}
use Rattle.thes_http_request.proofs.HeadLemmas.{bad_front, bad_long, cut_front}
use Rattle.thes_base.proofs.PipeLemmas.{pays_then}
use Rattle.thes_http_request.proofs.InboxLemmas.{consumes_then_growth}
use Rattle.thes_http_request.proofs.inbox.Inbox.read_head.Goals as goal

pub returns-in-Bad : goal.returns-in-Bad
returns-in-Bad g c = record {
  taken = c.loop-spans.invariant.taken;
  whole = tt;
  bad = λ h. bad_front _ _ c.head_bytes.ensures (c.head_of.ensures.bad (search rules));
  cut = search rules;
  fault = search rules;
  calls = c.loop-spans.invariant.paid;
}

pub returns-then-is_full : goal.returns-then-is_full
returns-then-is_full g c = record {
  taken = c.loop-spans.invariant.taken;
  whole = tt;
  bad = λ h. bad_long _ _ c.head_bytes.ensures (search rules) (c.head_of.ensures.more (search rules)).none;
  cut = search rules;
  fault = search rules;
  calls = c.loop-spans.invariant.paid;
}

pub loop-spans-preserved : goal.loop-spans-preserved
loop-spans-preserved g c = grind (arith, common_steps, consumes_then_growth, pays_then)

pub returns-in-Ok-false : goal.returns-in-Ok-false
returns-in-Ok-false g c = grind (arith, common_steps, consumes_then_growth, cut_front, pays_then)

pub returns-in-Err : goal.returns-in-Err
returns-in-Err g c = grind (arith, common_steps, consumes_then_growth, pays_then)
