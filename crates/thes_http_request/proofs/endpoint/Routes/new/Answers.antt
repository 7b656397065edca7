use Rattle.std.proofs.Common.{refl}
use Rattle.thes_http_request.specs.Routes.{route_rows}
use Rattle.thes_http_request.proofs.endpoint.Routes.new.Goals as goal

pub invariant_of-result : goal.invariant_of-result
unfolding route_rows
invariant_of-result c =
    rw (
      c.in_ok-add_route-10.ensures,
      c.in_ok-add_route-9.ensures,
      c.in_ok-add_route-8.ensures,
      c.in_ok-add_route-7.ensures,
      c.in_ok-add_route-6.ensures,
      c.in_ok-add_route-5.ensures,
      c.in_ok-add_route-4.ensures,
      c.in_ok-add_route-3.ensures,
      c.in_ok-add_route-2.ensures,
      c.in_ok-add_route.ensures,
      c.new-router.ensures,
    ) refl
