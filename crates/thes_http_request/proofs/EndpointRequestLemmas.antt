-- Proves the outcome of the checks of a head, one by one.
use Rattle.std.proofs.Common.{◌≡◌, refl, ℕ, Bool, true, false, codes, Some, None, Ok, Err}
use Rattle.std.specs.Str.{bytes_eq}
use Rattle.thes_http_request.specs.declared.problem.Problem.{Problem}
use Rattle.thes_http_request.specs.declared.problem.Problem.TheVariants.{TransferCoding, NoSuchPath, BadMethod}
use Rattle.thes_http_request.specs.Heads.{Parts}
use Rattle.thes_http_request.specs.Endpoints.{EndpointMatch, endpoint_at, path_of, query_of, method_of, body_limit}
use Rattle.thes_http_request.specs.Fields.{has_field, body_length}
use Rattle.thes_http_request.specs.EndpointRequests.{request_of_parts}

abbrev pub is_coded : Parts → Bool
is_coded p = has_field (codes "transfer-encoding") p.fields

pub refuses_coding : (takes_plans : Bool) (p : Parts) → is_coded p ≡ true
    → request_of_parts takes_plans p ≡ Err TransferCoding
unfolding request_of_parts
refuses_coding takes_plans p h = rw h refl

pub refuses_path : (takes_plans : Bool) (p : Parts) → is_coded p ≡ false
    → endpoint_at takes_plans (path_of p.target) ≡ None → request_of_parts takes_plans p ≡ Err NoSuchPath
unfolding request_of_parts
refuses_path takes_plans p h f = rw (h, f) refl

pub refuses_method : (takes_plans : Bool) (p : Parts) (found : EndpointMatch) → is_coded p ≡ false
    → endpoint_at takes_plans (path_of p.target) ≡ Some found
    → bytes_eq p.method (method_of found.endpoint) ≡ false
    → request_of_parts takes_plans p ≡ Err (BadMethod found.endpoint)
unfolding request_of_parts
refuses_method takes_plans p found h f m = rw (h, f, m) refl

pub refuses_length : (takes_plans : Bool) (p : Parts) (found : EndpointMatch) (q : Problem) → is_coded p ≡ false
    → endpoint_at takes_plans (path_of p.target) ≡ Some found → bytes_eq p.method (method_of found.endpoint) ≡ true
    → body_length (body_limit found.endpoint) p.fields ≡ Err q → request_of_parts takes_plans p ≡ Err q
unfolding request_of_parts
refuses_length takes_plans p found q h f m b = rw (h, f, m, b) refl

pub accepts_request : (takes_plans : Bool) (p : Parts) (found : EndpointMatch) (n : ℕ) → is_coded p ≡ false
    → endpoint_at takes_plans (path_of p.target) ≡ Some found → bytes_eq p.method (method_of found.endpoint) ≡ true
    → body_length (body_limit found.endpoint) p.fields ≡ Ok n → request_of_parts takes_plans p
    ≡ Ok (record { endpoint = found.endpoint; number = found.number; query = query_of p.target; body = n })
unfolding request_of_parts
accepts_request takes_plans p found n h f m b = rw (h, f, m, b) refl
