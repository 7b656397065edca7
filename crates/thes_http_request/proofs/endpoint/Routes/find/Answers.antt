use Rattle.std.proofs.Common.{refl}
use Rattle.thes_http_request.proofs.RouteLemmas.{route_with_text, no_route_found}
use Rattle.thes_http_request.proofs.endpoint.Routes.find.Goals as goal

pub returns-in-Ok : goal.returns-in-Ok
returns-in-Ok c =
    rw c.unwrap_or.ensures (route_with_text _ c.args.path.now _ _ _ _ c.self.invariant c.in-Ok.ensures.found
    c.in-Ok.ensures.path c.utf8.path refl c.get.ensures)

pub returns-in-Err : goal.returns-in-Err
returns-in-Err c = no_route_found _ _ c.self.invariant (c.in-Err.ensures.missing)
