-- The endpoints of the service, and their paths.
use Rattle.std.specs.Prelude.{ℕ, ◌==◌, ◌&&◌, ◌||◌, not, if◌then◌else◌, nat_lt, Bool, true, false, List, [], ◌∷◌, length, codes, Option, Some}
use Rattle.std.specs.Prelude.{None}
use Rattle.std.specs.List.{slice_split, before_first, after_first}
use Rattle.std.specs.Str.{bytes_eq}
use Rattle.thes_http_request.specs.declared.endpoint.Endpoint.{Endpoint}
use Rattle.thes_http_request.specs.declared.endpoint.Endpoint.TheVariants.{Requests, Plans, Import, Totals, Concept, Postings}
use Rattle.thes_http_request.specs.declared.endpoint.Endpoint.TheVariants.{Posting, Export, Alphabetical, Hierarchical}

-- An endpoint, and the text in its path where a number is expected; empty if none is expected.
pub record EndpointMatch : Type 0 where
  pub endpoint : Endpoint
  pub number : List ℕ

-- An endpoint without a number in its path.
abbrev pub plain_endpoint : Endpoint → Option EndpointMatch
plain_endpoint endpoint = Some (record { endpoint = endpoint; number = [] })

-- An endpoint with the text of the number in its path; None if the text is empty.
abbrev pub numbered_endpoint : Endpoint → List ℕ → Option EndpointMatch
numbered_endpoint endpoint text = if nat_lt 0 (length text) then Some
    (record { endpoint = endpoint; number = text }) else None

-- The endpoint for a path with one part, such as `/totals`.
abbrev pub endpoint_named : List ℕ → Option EndpointMatch
endpoint_named a =
    if bytes_eq a (codes "requests") then plain_endpoint Requests
    else if bytes_eq a (codes "plans") then plain_endpoint Plans
    else if bytes_eq a (codes "import") then plain_endpoint Import
    else if bytes_eq a (codes "totals") then plain_endpoint Totals
    else if bytes_eq a (codes "export") then plain_endpoint Export
    else None

-- The endpoint of a display, by the name of the display in its path.
abbrev pub display_named : List ℕ → Option EndpointMatch
display_named b =
    if bytes_eq b (codes "alphabetical") then plain_endpoint Alphabetical
    else if bytes_eq b (codes "hierarchical") then plain_endpoint Hierarchical
    else None

-- The endpoint for a path with two parts, such as `/concepts/7`.
abbrev pub endpoint_within : List ℕ → List ℕ → Option EndpointMatch
endpoint_within a b =
    if bytes_eq a (codes "concepts") then numbered_endpoint Concept b
    else if bytes_eq a (codes "postings") then numbered_endpoint Posting b
    else if bytes_eq a (codes "display") then display_named b
    else None

-- The endpoint for a path with three parts: `/concepts/7/postings`.
abbrev pub endpoint_below : List ℕ → List ℕ → List ℕ → Option EndpointMatch
endpoint_below a b c =
    if bytes_eq a (codes "concepts") && bytes_eq c (codes "postings") then numbered_endpoint Postings b else None

-- The endpoint for the parts of a path between slashes; the first part is empty.
abbrev pub endpoint_of_parts : List (List ℕ) → Option EndpointMatch
endpoint_of_parts ([] ∷ a ∷ []) = endpoint_named a
endpoint_of_parts ([] ∷ a ∷ b ∷ []) = endpoint_within a b
endpoint_of_parts ([] ∷ a ∷ b ∷ c ∷ []) = endpoint_below a b c
endpoint_of_parts _ = None

-- Whether the byte is a slash.
abbrev pub is_slash : ℕ → Bool
is_slash b = b == 47

-- Whether the byte is a question mark.
abbrev pub is_question_mark : ℕ → Bool
is_question_mark b = b == 63

-- The endpoint that a path names, if there is one, for a service that takes plans.
unfoldable pub endpoint_of_path : List ℕ → Option EndpointMatch
endpoint_of_path path = endpoint_of_parts (slice_split is_slash path)

-- Whether the endpoint is that of plans, which a service need not take.
abbrev pub is_plans : Endpoint → Bool
is_plans Plans = true
is_plans _ = false

-- The endpoint found, if any; None for that of plans unless they are taken.
abbrev pub endpoint_taken : Bool → Option EndpointMatch → Option EndpointMatch
endpoint_taken takes_plans None = None
endpoint_taken takes_plans (Some found) =
    if takes_plans || not (is_plans found.endpoint) then Some found else None

-- The endpoint that a path names, if there is one; `/plans` names one only where plans are taken.
abbrev pub endpoint_at : Bool → List ℕ → Option EndpointMatch
endpoint_at takes_plans path = endpoint_taken takes_plans (endpoint_of_path path)

-- The path of a target: the bytes before its first question mark.
abbrev pub path_of : List ℕ → List ℕ
path_of target = before_first is_question_mark target

-- The query string of a target: the bytes after its first question mark; empty if there is none.
abbrev pub query_of : List ℕ → List ℕ
query_of target = after_first is_question_mark target

-- The name of the only method that an endpoint allows.
abbrev pub method_of : Endpoint → List ℕ
method_of Requests = codes "POST"
method_of Plans = codes "POST"
method_of Import = codes "POST"
method_of _ = codes "GET"

-- The greatest length of a body in bytes, or `None` if the endpoint reads no body.
abbrev pub body_limit : Endpoint → Option ℕ
body_limit Requests = Some 1048576
body_limit Plans = Some 1048576
body_limit Import = Some 16777216
body_limit _ = None
