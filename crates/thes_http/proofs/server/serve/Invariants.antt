use Rattle.std.proofs.Common.{◌≡◌, ◌≤◌, true}
use Rattle.thes_http.specs.Server.{LeadsBy}
use Rattle.thes_http.proofs.server.serve.Given as goal

abbrev pub invariant-loop : goal.invariant-loop
invariant-loop g l = record {
  led : LeadsBy g.S.Service.behaviour l.connections.exchanges l.fn.service l.service;
  stays_open : g.S.RequestHandler.is_open l.service ≡ true;
  counted : l.connections.finished ≡ l.counter;
  few : l.connections.exchanges ≤ l.connections.finished;
}
