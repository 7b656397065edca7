-- Proves that the parts read from the spans of a head have the outcome of the head.
use Rattle.std.proofs.lemmas.Grind.{common_steps}
use Rattle.std.proofs.Common.{◌≡◌, ℕ, ◌≤◌, Bool, List, length, take, drop, map, Result, Ok, Err, IfOk, arith}
use Rattle.httparse.specs.Spans.{header_bytes, span_bytes}
use Rattle.httparse.specs.declared.spans.HeaderSpan.{HeaderSpan}
use Rattle.httparse.specs.declared.spans.RequestSpans.{RequestSpans}
use Rattle.thes_http_request.specs.declared.problem.Problem.{Problem}
use Rattle.thes_http_request.specs.Heads.{head_limit, Parts}
use Rattle.thes_http_request.specs.Inbox.{IsHeadAt, HeadOutcome}
use Rattle.thes_http_request.specs.EndpointRequests.{EndpointRequest, request_of_parts}

-- The parts of a head, read from its spans.
abbrev pub parts_at : List ℕ → List HeaderSpan → RequestSpans → Parts
parts_at bytes headers spans = record {
  method = span_bytes bytes spans.method;
  target = span_bytes bytes spans.path;
  fields = map (header_bytes bytes) (take spans.headers headers);
}

-- The parts read from the spans are those of the head, so their checks have the same outcome.
head_outcome_from : (takes_plans : Bool) (bytes : List ℕ) (headers : List HeaderSpan) (spans : RequestSpans) (p : Parts)
    (outcome : Result EndpointRequest Problem)
    → IsHeadAt bytes headers spans → length bytes ≤ head_limit → p ≡ parts_at bytes headers spans
    → request_of_parts takes_plans p ≡ outcome → HeadOutcome takes_plans bytes (drop spans.len bytes) outcome
head_outcome_from takes_plans bytes headers spans p outcome a l e w = grind (arith, common_steps)

pub head_outcome_ok : {A E : Type 0} (r : Result A E) (f : A → EndpointRequest) (takes_plans : Bool) (bytes : List ℕ)
    (headers : List HeaderSpan) (spans : RequestSpans) (p : Parts)
    → IsHeadAt bytes headers spans → length bytes ≤ head_limit → p ≡ parts_at bytes headers spans
    → IfOk r (λ w. request_of_parts takes_plans p ≡ Ok (f w))
    → IfOk r (λ w. HeadOutcome takes_plans bytes (drop spans.len bytes) (Ok (f w)))
head_outcome_ok r f takes_plans bytes headers spans p a l e w = grind (arith, common_steps, head_outcome_from)

pub head_outcome_err : (takes_plans : Bool) (bytes : List ℕ) (headers : List HeaderSpan) (spans : RequestSpans)
    (p : Parts) (problem : Problem)
    → IsHeadAt bytes headers spans → length bytes ≤ head_limit → p ≡ parts_at bytes headers spans
    → request_of_parts takes_plans p ≡ Err problem → HeadOutcome takes_plans bytes (drop spans.len bytes) (Err problem)
head_outcome_err takes_plans bytes headers spans p problem a l e w =
    head_outcome_from takes_plans bytes headers spans p (Err problem) a l e w
