use Rattle.std.proofs.Common.{arith}
use Rattle.thes_http.proofs.ServerLemmas.{leads_by_end}
use Rattle.thes_http.proofs.timed_connection.serve_ends.Goals as goal

pub returns-clause-served : goal.returns-clause-served
returns-clause-served g c = record {
  reader = c.new-reader.result;
  writer = c.new-writer.result;
  fresh = (c.new-reader.ensures.fresh, c.new-writer.ensures.fresh);
  input = grind (arith);
  output = grind (arith);
  ends_as = c.serve_one-end.ensures.outcome;
}

pub returns-clause-leads : goal.returns-clause-leads
returns-clause-leads g c = leads_by_end g.S.Service.behaviour _ _ _ _ _ c.serve_one-end.ensures.outcome
