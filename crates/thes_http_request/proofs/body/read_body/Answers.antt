use Rattle.std.proofs.lemmas.Grind.{common_steps}
use Rattle.std.proofs.Common.{arith, rules}
use Rattle.thes_http_request.proofs.BodyLemmas.{body_so_far_append, body_so_far_same, capacity_stays_bounded}
use Rattle.thes_http_request.proofs.BodyLemmas.{consumes_some_then}
use Rattle.thes_base.proofs.PipeLemmas.{pays_then}
use Rattle.thes_http_request.proofs.body.read_body.Goals as goal

pub returns-in_err-read_more-clause-outcome : goal.returns-in_err-read_more-clause-outcome
returns-in_err-read_more-clause-outcome g c = record {
  taken = consumes_some_then _ _ _ _ _ _ _ _ c.loop-chunk.invariant.so_far c.read_more.ensures.fills.growth;
  whole = search rules;
  cut = search rules;
  fault = search rules;
  calls = pays_then c.loop-chunk.invariant.paid c.read_more.ensures.fills.calls;
}

pub loop-chunk-preserved : goal.loop-chunk-preserved
loop-chunk-preserved g c =
    grind (arith, common_steps, body_so_far_append, body_so_far_same, capacity_stays_bounded, pays_then)
