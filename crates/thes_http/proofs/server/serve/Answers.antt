use Rattle.std.proofs.Common.{◌≡◌, rules, refl, arith, ◌+◌}
use Rattle.thes_http.proofs.ServerLemmas.{leads_nowhere, leads_on}
use Rattle.thes_http.proofs.server.serve.Goals as goal

pub loop-init : goal.loop-init
loop-init g c = record {
  led = leads_nowhere g.S.Service.behaviour _ _ _ c.new-connections.ensures.exchanges refl;
  stays_open = c.requires;
  counted = c.new-connections.ensures.finished;
  few = omega (arith, c.new-connections.ensures.exchanges);
}
