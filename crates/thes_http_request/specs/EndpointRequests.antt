-- The request in a head, or the first problem that the checks of the head find.
use Rattle.std.specs.Prelude.{ℕ, if◌then◌else◌, Bool, List, codes, Option, Some, None, Result, Ok, Err}
use Rattle.std.specs.Str.{bytes_eq}
use Rattle.thes_http_request.specs.declared.endpoint.Endpoint.{Endpoint}
use Rattle.thes_http_request.specs.declared.problem.Problem.{Problem}
use Rattle.thes_http_request.specs.declared.problem.Problem.TheVariants.{TransferCoding, NoSuchPath, BadMethod}
use Rattle.thes_http_request.specs.Heads.{Parts}
use Rattle.thes_http_request.specs.Endpoints.{EndpointMatch, endpoint_at, path_of, query_of, method_of}
use Rattle.thes_http_request.specs.Endpoints.{body_limit}
use Rattle.thes_http_request.specs.Fields.{has_field, body_length}

-- The request in a head: an endpoint, the text of its number, the query string, and the length of
-- the body.
pub record EndpointRequest : Type 0 where
  pub endpoint : Endpoint
  pub number : List ℕ
  pub query : List ℕ
  pub body : ℕ

-- The request for an endpoint, or the problem with the length of its body.
abbrev pub request_with_body : EndpointMatch → List ℕ → Result ℕ Problem → Result EndpointRequest Problem
request_with_body found query (Ok n) =
    Ok (record { endpoint = found.endpoint; number = found.number; query = query; body = n })
request_with_body found query (Err p) = Err p

-- The request for the endpoint that the path names, or the first problem with the path, the method or
-- the length of the body.
abbrev pub request_at_endpoint : Parts → Option EndpointMatch → Result EndpointRequest Problem
request_at_endpoint p None = Err NoSuchPath
request_at_endpoint p (Some found) =
    if bytes_eq p.method (method_of found.endpoint)
    then request_with_body found (query_of p.target) (body_length (body_limit found.endpoint) p.fields)
    else Err (BadMethod found.endpoint)

-- The request in a head, or the first problem: a transfer coding, the path, the method, or the length of the body. The
-- outcome depends on whether plans are taken.
unfoldable pub request_of_parts : Bool → Parts → Result EndpointRequest Problem
request_of_parts takes_plans p =
    if has_field (codes "transfer-encoding") p.fields then Err TransferCoding
    else request_at_endpoint p (endpoint_at takes_plans (path_of p.target))
