-- Proves that the same bytes make the same call of a service.
use Rattle.std.proofs.Common.{◌≡◌, ◌∙◌, sym, ap, subst, refl, ◌⊎◌, inl, inr, ℕ, ◌<◌, List, [], ◌++◌, length, take}
use Rattle.std.proofs.Common.{arith}
use Rattle.std.proofs.Common.{append-nil}
use Rattle.std.proofs.lemmas.List.{take-append-le}
use Rattle.std.proofs.Common.{Option, Some, None, Result, Ok, Err}
use Rattle.thes_base.specs.declared.fault.Fault.{Fault}
use Rattle.thes_base.specs.declared.fault.Fault.TheVariants.{OutOfMemory}
use Rattle.thes_base.specs.declared.fault.FormFault.TheVariants.{BadShape, BadNumber, BadTag}
use Rattle.thes_base.specs.declared.fault.FormFault.{FormFault}
use Rattle.thes_base.specs.declared.request.Command.{Command}
use Rattle.serde_json.specs.Data.{Data}
use Rattle.thes_requests.specs.Laws.{EndsInFault, SameReply}
use Rattle.thes_requests.specs.Requests.{json_in, request_of}
use Rattle.thes_requests.specs.declared.plan_reply.PlanReply.{PlanReply}
use Rattle.thes_requests.specs.Serving.{ServesPlan}
use Rattle.thes_requests.specs.declared.request.Query.{Query}
use Rattle.thes_requests.specs.declared.request.Query.TheVariants as asks
use Rattle.thes_requests.specs.declared.request.Request.TheVariants.{Do, Get}
use Rattle.thes_requests.proofs.ReadingLemmas.{one_outcome}
use Rattle.httparse.specs.Grammar.{RequestHead}
use Rattle.thes_http_request.specs.declared.endpoint.Endpoint.{Endpoint}
use Rattle.thes_http_request.specs.declared.endpoint.Endpoint.TheVariants as endpoint
use Rattle.thes_http_request.specs.declared.problem.Problem.{Problem}
use Rattle.thes_http_request.specs.declared.problem.Problem.TheVariants.{BadHead, BadQuery}
use Rattle.thes_http_request.specs.Heads.{HasHead, IsBadHead, parts_of}
use Rattle.thes_http_request.specs.EndpointRequests.{EndpointRequest, request_of_parts}
use Rattle.thes_http_request.specs.Queries.{DisplayQuery, display_query_of}
use Rattle.thes_http_request.proofs.HeadLawLemmas.{head_is_whole, one_head}
use Rattle.thes_http_request.proofs.HeadLemmas.{cut_is_not_bad}
use Rattle.thes_http.proofs.ServeLemmas.{has_more}
use Rattle.thes_http.specs.declared.response.MediaType.TheVariants.{Json, Plain}
use Rattle.thes_http.specs.declared.response.Response.{Response}
use Rattle.thes_requests.specs.declared.request.Display.{Display}
use Rattle.thes_requests.specs.declared.request.Display.TheVariants as display
use Rattle.thes_http.specs.Responses.{problem_response, form_response, fault_response, command_response, plan_response}
use Rattle.thes_http.specs.Responses.{query_response, import_response, export_response}
use Rattle.thes_http.specs.ServiceBehaviour.{ServiceBehaviour}
use Rattle.thes_http.specs.Serving.{RespondsUnchanged, CommandEffect, QueryEffect, WithNumber}
use Rattle.thes_http.specs.Serving.{DisplayEffect, DisplayQueryEffect, EndpointEffect, AnswersHead, Answers}
use Rattle.thes_http.specs.Laws.{AnswerOneCall, command_answers, plan_answers, query_answers, import_answers, export_answers}
use Rattle.thes_http.specs.Laws.{display_answers, no_call, RunsOut, HasOneAnswerToACall, IsFaultResponse, HasOneCall}
use Rattle.thes_http.specs.Laws.{HasOneAnswer, CutHasNoAnswer, SameResponse}
use Rattle.thes_http.proofs.SameResponseLemmas.{same_reply_responses, same_responses}

whole_is_not_bad : (bytes rest : List ℕ) (h : RequestHead) → HasHead bytes h rest → IsBadHead bytes → ⊥
whole_is_not_bad bytes rest h has bad =
    head_is_whole.not_bad bytes [] rest h (subst (λ (t : List ℕ). HasHead t h rest) (sym (append-nil bytes)) has) bad

module _ {S : Type 0} (d : ServiceBehaviour S) where
  module _ (old x y : S) (r q : Response) where
    same_response : (p : Response) → RespondsUnchanged d old r x p → RespondsUnchanged d old q y p
        → AnswerOneCall d old r x q y
    same_response p a b = no_call (a.0 ∙ sym b.0) a.1 b.1

    same_command : (body : List ℕ) → CommandEffect d old r x body → CommandEffect d old q y body
        → AnswerOneCall d old r x q y
    same_command body (inl a) (inl b) =
        let one = one_outcome (request_of body) (Ok (Do a.0)) (Ok (Do b.0)) a.2 b.2 in
        let same : b.0 ≡ a.0 = cc in
        command_answers a.0 a.1 b.1 a.3 (subst (λ (c : Command). d.requests.performs old c b.1 y) same b.3) a.4 b.4
    same_command body (inl a) (inr (inl b)) =
        let one = one_outcome (request_of body) (Ok (Do a.0)) (Ok (Get b.0)) a.2 b.1 in absurd (cc)
    same_command body (inl a) (inr (inr b)) =
        let one = one_outcome (request_of body) (Ok (Do a.0)) (Err b.0) a.2 b.1 in absurd (cc)
    same_command body (inr (inl a)) (inl b) =
        let one = one_outcome (request_of body) (Ok (Get a.0)) (Ok (Do b.0)) a.1 b.2 in absurd (cc)
    same_command body (inr (inl a)) (inr (inl b)) = same_response (form_response BadShape) a.2 b.2
    same_command body (inr (inl a)) (inr (inr b)) =
        let one = one_outcome (request_of body) (Ok (Get a.0)) (Err b.0) a.1 b.1 in absurd (cc)
    same_command body (inr (inr a)) (inl b) =
        let one = one_outcome (request_of body) (Err a.0) (Ok (Do b.0)) a.1 b.2 in absurd (cc)
    same_command body (inr (inr a)) (inr (inl b)) =
        let one = one_outcome (request_of body) (Err a.0) (Ok (Get b.0)) a.1 b.1 in absurd (cc)
    same_command body (inr (inr a)) (inr (inr b)) =
        let one = one_outcome (request_of body) (Err a.0) (Err b.0) a.1 b.1 in
        let same : b.0 ≡ a.0 = cc in
        same_response (form_response a.0) a.2
        (subst (λ (f : FormFault). RespondsUnchanged d old q y (form_response f)) same b.2)

    same_query : (query : Query) → QueryEffect d old r x query → QueryEffect d old q y query
        → AnswerOneCall d old r x q y
    same_query query a b = query_answers query a.0 b.0 a.1 b.1 a.2 b.2

    same_number : (text : List ℕ) (A B : ℕ → Type 0) → ((n : ℕ) → A n → B n → AnswerOneCall d old r x q y)
        → WithNumber d old r x text A → WithNumber d old q y text B → AnswerOneCall d old r x q y
    same_number text A B next (inl a) (inl b) = same_response (form_response BadNumber) a.1 b.1
    same_number text A B next (inl a) (inr b) = absurd (a.0 b.0 b.1 b.2)
    same_number text A B next (inr a) (inl b) = absurd (b.0 a.0 a.1 a.2)
    same_number text A B next (inr a) (inr b) =
        let same : b.0 ≡ a.0 = sym b.2.1 ∙ a.2.1 in next a.0 a.3 (subst B same b.3)

    same_number_query : (query : ℕ → Query) (text : List ℕ)
        → WithNumber d old r x text (λ n. QueryEffect d old r x (query n))
        → WithNumber d old q y text (λ n. QueryEffect d old q y (query n)) → AnswerOneCall d old r x q y
    same_number_query query text a b = same_number text (λ n. QueryEffect d old r x (query n))
        (λ n. QueryEffect d old q y (query n)) (λ n. same_query (query n)) a b

    same_display : (which : Display) (scheme : ℕ) (lang : List ℕ) → DisplayEffect d old r x which scheme lang
        → DisplayEffect d old q y which scheme lang → AnswerOneCall d old r x q y
    same_display which scheme lang (inl a) (inl b) = same_response (form_response BadTag) a.1 b.1
    same_display which scheme lang (inl a) (inr b) = absurd (a.0 b.0)
    same_display which scheme lang (inr a) (inl b) = absurd (b.0 a.0)
    same_display which scheme lang (inr a) (inr b) =
        display_answers which scheme _ a.1 b.1 a.2 b.2 a.3 b.3

    same_display_query : (which : Display) (asked : Option DisplayQuery) → DisplayQueryEffect d old r x which asked
        → DisplayQueryEffect d old q y which asked → AnswerOneCall d old r x q y
    same_display_query which None a b = same_response (problem_response BadQuery) a b
    same_display_query which (Some asked) a b =
        same_number asked.scheme (λ n. DisplayEffect d old r x which n asked.lang)
        (λ n. DisplayEffect d old q y which n asked.lang) (λ n. same_display which n asked.lang) a b

    same_place : (p : Endpoint) (number query body : List ℕ) → EndpointEffect d old r x p number query body
        → EndpointEffect d old q y p number query body → AnswerOneCall d old r x q y
    same_place endpoint.Requests number query body a b = same_command body a b
    same_place endpoint.Plans number query body a b = plan_answers body a.0 b.0 a.1 b.1 a.2 b.2
    same_place endpoint.Import number query body a b = import_answers body a.0 b.0 a.1 b.1 a.2 b.2
    same_place endpoint.Totals number query body a b = same_query asks.Totals a b
    same_place endpoint.Concept number query body a b = same_number_query asks.Concept number a b
    same_place endpoint.Postings number query body a b = same_number_query asks.Postings number a b
    same_place endpoint.Posting number query body a b = same_number_query asks.Posting number a b
    same_place endpoint.Export number query body a b = export_answers a.0 b.0 a.1 b.1 a.2 b.2
    same_place endpoint.Alphabetical number query body a b =
        same_display_query display.Alphabetical (display_query_of query) a b
    same_place endpoint.Hierarchical number query body a b =
        same_display_query display.Hierarchical (display_query_of query) a b

    same_head : (asked : Result EndpointRequest Problem) (rest more : List ℕ) → AnswersHead d old r x asked rest
        → AnswersHead d old q y asked (rest ++ more) → AnswerOneCall d old r x q y
    same_head (Err problem) rest more a b = same_response (problem_response problem) a b
    same_head (Ok w) rest more a b = same_place w.endpoint w.number w.query (take w.body rest) a.1
        (subst (λ (t : List ℕ). EndpointEffect d old q y w.endpoint w.number w.query t)
        (take-append-le w.body rest more a.0) b.1)

    same_answer : (bytes more : List ℕ) → Answers d old r x bytes → Answers d old q y (bytes ++ more)
        → AnswerOneCall d old r x q y ⊎ (RunsOut d old r x ⊎ RunsOut d old q y)
    same_answer bytes more (inl a) (inl b) = inl (same_response (problem_response BadHead) a.1 b.1)
    same_answer bytes more (inl a) (inr (inl b)) = absurd (head_is_whole.not_bad bytes more b.1 b.0 b.2 a.0)
    same_answer bytes more (inl a) (inr (inr b)) = inr (inr b)
    same_answer bytes more (inr (inl a)) (inl b) =
        absurd (whole_is_not_bad (bytes ++ more) (a.1 ++ more) a.0 (has_more bytes a.0 a.1 more a.2) b.0)
    same_answer bytes more (inr (inl a)) (inr (inl b)) =
        let one = one_head (bytes ++ more) b.1 (a.1 ++ more) b.0 a.0 b.2 (has_more bytes a.0 a.1 more a.2) in
        inl (same_head (request_of_parts (d.requests.takes_plans old) (parts_of a.0)) a.1 more a.3
        (subst (λ (t : List ℕ). AnswersHead d old q y (request_of_parts (d.requests.takes_plans old) (parts_of a.0)) t)
        one.1
        (subst (λ (h : RequestHead). AnswersHead d old q y (request_of_parts (d.requests.takes_plans old) (parts_of h))
        b.1) one.0 b.3)))
    same_answer bytes more (inr (inl a)) (inr (inr b)) = inr (inr b)
    same_answer bytes more (inr (inr a)) b = inr (inl a)

  pub one_call : HasOneCall d
  one_call old x y r q bytes more a b = same_answer old x y r q bytes more a b

  Determined : S → Response → S → Response → Type 0
  Determined x r y q = (SameResponse r q × (x ≡ y)) ⊎ (IsFaultResponse r ⊎ IsFaultResponse q)

  -- Two results of one call are the same, unless one of them is a fault.
  same_results : {A : Type 0} (response : Result A Fault → Response) (P : Result A Fault → S → Type 0) (x y : S)
      (r q : Response) → ((f : Fault) → response (Err f) ≡ fault_response f)
      → ((a b : A) → P (Ok a) x → P (Ok b) y → (a ≡ b) × (x ≡ y)) → (a b : Result A Fault) → P a x → P b y
      → r ≡ response a → q ≡ response b → Determined x r y q
  unfolding Determined
  same_results response P x y r q fault one (Ok a) (Ok b) p p' e e' =
      let same = one a b p p' in
      inl (same_responses r q (e ∙ (ap (λ c. response (Ok c)) same.0 ∙ sym e')), same.1)
  same_results response P x y r q fault one (Err f) b p p' e e' = inr (inl (inl (f, e ∙ fault f)))
  same_results response P x y r q fault one (Ok a) (Err f) p p' e e' = inr (inr (inl (f, e' ∙ fault f)))

  -- Two replies to several requests are the same, but for the changes listed, unless one of them has a fault.
  same_replies : (value : Option Data) (old x y : S) (r q : Response)
      → ((a b : PlanReply) → ServesPlan d.requests old value (Ok a) x → ServesPlan d.requests old value (Ok b) y
      → (SameReply a b × (x ≡ y)) ⊎ (EndsInFault a ⊎ EndsInFault b))
      → (a b : Result PlanReply Fault) → ServesPlan d.requests old value a x → ServesPlan d.requests old value b y
      → r ≡ plan_response a → q ≡ plan_response b → Determined x r y q
  unfolding Determined
  same_replies value old x y r q one (Ok a) (Ok b) p p' e e' = elim (one a b p p') [
    | inl same ↦ inl (same_reply_responses a b r q same.0 e e', same.1)
    | inr (inl fails) ↦ inr (inl (inr (a, fails, e)))
    | inr (inr fails) ↦ inr (inr (inr (b, fails, e')))
  ]
  same_replies value old x y r q one (Err f) b p p' e e' = inr (inl (inl (f, e)))
  same_replies value old x y r q one (Ok a) (Err f) p p' e e' = inr (inr (inl (f, e')))

  same_call : (old x y : S) (r q : Response) → HasOneAnswerToACall d old → AnswerOneCall d old r x q y
      → Determined x r y q
  unfolding Determined
  same_call old x y r q one (command_answers command a b p p' e e') = same_results command_response
      (λ c. d.requests.performs old command c) x y r q (λ f. refl) (λ a' b'. one.performs command a' b' x y) a b p p' e
      e'
  same_call old x y r q one (plan_answers body a b p p' e e') =
      same_replies (json_in body) old x y r q (λ a' b'. one.plans body a' b' x y) a b p p' e e'
  same_call old x y r q one (query_answers query a b p p' e e') = same_results (query_response Json)
      (λ c. d.requests.shows old query c) x y r q (λ f. refl) (λ a' b'. one.shows query a' b' x y) a b p p' e e'
  same_call old x y r q one (import_answers file a b p p' e e') = same_results import_response
      (λ c. d.imports old file c) x y r q (λ f. refl) (λ a' b'. one.imports file a' b' x y) a b p p' e e'
  same_call old x y r q one (export_answers a b p p' e e') = same_results export_response
      (λ c. d.exports old c) x y r q (λ f. refl) (λ a' b'. one.exports a' b' x y) a b p p' e e'
  same_call old x y r q one (display_answers which scheme tag a b p p' e e') = same_results (query_response Plain)
      (λ c. d.displays old which scheme tag c) x y r q (λ f. refl)
      (λ a' b'. one.displays which scheme tag a' b' x y) a b p p' e e'
  same_call old x y r q one (no_call e s t) = inl (same_responses r q e, s ∙ sym t)

  pub one_answer : HasOneAnswer d
  unfolding Determined
  one_answer old x y r q bytes more one a b = elim (one_call old x y r q bytes more a b) [
    | inl call ↦ same_call old x y r q one call
    | inr (inl out) ↦ inr (inl (inl (OutOfMemory, out.0)))
    | inr (inr out) ↦ inr (inr (inl (OutOfMemory, out.0)))
  ]

  cut_head_answered : (old new : S) (response : Response) (h : RequestHead) (rest : List ℕ) (w : EndpointRequest)
      (asked : Result EndpointRequest Problem) → asked ≡ Ok w → length rest < w.body
      → AnswersHead d old response new asked rest → ⊥
  cut_head_answered old new response h rest w (Ok v) e short a =
      let same : v ≡ w = cc in let all = a.0 in absurd
      (omega (arith, ap (λ (u : EndpointRequest). u.body) same, all, short))
  cut_head_answered old new response h rest w (Err p) e short a = absurd (cc)

  pub cut_has_no_answer : CutHasNoAnswer d
  cut_has_no_answer old new response bytes (inl cut) (inl a) = absurd (cut_is_not_bad bytes cut a.0)
  cut_has_no_answer old new response bytes (inl cut) (inr (inl a)) =
      absurd (head_is_whole.not_cut bytes a.1 a.0 a.2 cut)
  cut_has_no_answer old new response bytes (inr cut) (inl a) =
      absurd (whole_is_not_bad bytes cut.1 cut.0 cut.3 a.0)
  cut_has_no_answer old new response bytes (inr cut) (inr (inl a)) =
      let one = one_head bytes a.1 cut.1 a.0 cut.0 a.2 cut.3 in
      absurd (cut_head_answered old new response cut.0 cut.1 cut.2
      (request_of_parts (d.requests.takes_plans old) (parts_of cut.0)) cut.4 cut.5
      (subst (λ (t : List ℕ). AnswersHead d old response new (request_of_parts (d.requests.takes_plans old)
      (parts_of cut.0)) t) one.1
      (subst (λ (h : RequestHead). AnswersHead d old response new
      (request_of_parts (d.requests.takes_plans old) (parts_of h)) a.1) one.0 a.3)))
  cut_has_no_answer old new response bytes cut (inr (inr a)) = a
