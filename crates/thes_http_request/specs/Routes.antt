-- The routes of a router, one for each endpoint.
use Rattle.std.specs.Prelude.{ℕ, List, [], codes, Result, Ok, Err}
use Rattle.matchit.specs.Rows.{RowsOf}
use Rattle.matchit.specs.Order.{placed}
use Rattle.matchit.specs.Route.{Scan, parse_route}
use Rattle.matchit.specs.Router.{RouteOf, route_from}
use Rattle.matchit.specs.declared.error.InsertError.{InsertError}
use Rattle.thes_http_request.specs.declared.endpoint.Endpoint.{Endpoint}
use Rattle.thes_http_request.specs.declared.endpoint.Endpoint.TheVariants.{Requests, Plans, Import, Totals, Concept, Postings}
use Rattle.thes_http_request.specs.declared.endpoint.Endpoint.TheVariants.{Posting, Export, Alphabetical, Hierarchical}

-- The rows of a router: patterns, each with its route to an endpoint.
abbrev pub RouteRows : Type 0
RouteRows = RowsOf (RouteOf Endpoint)

-- The rows with one more route if its text could be parsed, else the rows unchanged.
abbrev pub with_scan : Result Scan InsertError → Endpoint → RouteRows → RouteRows
with_scan (Ok s) endpoint rows = placed (s.pattern, route_from s endpoint) rows
with_scan (Err e) endpoint rows = rows

-- The rows with one more route, which the text spells; unchanged if the text can't be parsed.
unfoldable pub with_route : List ℕ → Endpoint → RouteRows → RouteRows
with_route text endpoint rows = with_scan (parse_route text) endpoint rows

-- The rows of the ten routes.
unfoldable pub route_rows : RouteRows
route_rows =
    with_route (codes "/display/hierarchical") Hierarchical
    (with_route (codes "/display/alphabetical") Alphabetical
    (with_route (codes "/export") Export
    (with_route (codes "/postings/{n}") Posting
    (with_route (codes "/concepts/{n}/postings") Postings
    (with_route (codes "/concepts/{n}") Concept
    (with_route (codes "/totals") Totals
    (with_route (codes "/import") Import
    (with_route (codes "/plans") Plans
    (with_route (codes "/requests") Requests [])))))))))
