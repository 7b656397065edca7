-- Proves that equal responses, and responses with the same replies, are the same but for the changes listed.
use Rattle.std.proofs.Common.{◌≡◌, ◌∙◌, refl, sym, ap, subst, Ok}
use Rattle.thes_requests.specs.Laws.{SameReply}
use Rattle.thes_requests.specs.declared.plan_reply.PlanReply.{PlanReply}
use Rattle.thes_requests.specs.declared.plan_reply.PlanReply.TheVariants.{Done, Reported, Refused, Bad}
use Rattle.thes_http.specs.Laws.{SameBody, SameResponse}
use Rattle.thes_http.specs.Responses.{plan_response, plan_status}
use Rattle.thes_http.specs.declared.response.Body.{Body}
use Rattle.thes_http.specs.declared.response.Body.TheVariants as body
use Rattle.thes_http.specs.declared.response.Response.{Response}

same_reply_itself : (a : PlanReply) → SameReply a a
same_reply_itself (Reported report) = (refl, refl)
same_reply_itself (Done line) = refl
same_reply_itself (Refused place refusal) = refl
same_reply_itself (Bad fault) = refl

-- Equal replies are the same.
pub same_replies : (a b : PlanReply) → a ≡ b → SameReply a b
same_replies a b e = subst (λ (c : PlanReply). SameReply a c) e (same_reply_itself a)

same_body_itself : (b : Body) → SameBody b b
same_body_itself (body.Plan a) = same_reply_itself a
same_body_itself (body.Problem problem) = refl
same_body_itself (body.Reply reply) = refl
same_body_itself (body.Page page) = refl

-- Equal responses are the same.
pub same_responses : (r q : Response) → r ≡ q → SameResponse r q
same_responses r q e = subst (λ (x : Response). SameResponse r x) e
    (record { status = refl; media = refl; body = same_body_itself r.body })

same_status : (a b : PlanReply) → SameReply a b → plan_status a ≡ plan_status b
same_status (Reported r) (Reported q) same =
    ap (λ end. plan_status (Reported (record r { end = end }))) same.1
same_status (Reported r) _ same = ap plan_status same
same_status (Done line) _ same = ap plan_status same
same_status (Refused place refusal) _ same = ap plan_status same
same_status (Bad fault) _ same = ap plan_status same

-- Responses with the same replies are the same.
pub same_reply_responses : (a b : PlanReply) (r q : Response) → SameReply a b → r ≡ plan_response (Ok a)
    → q ≡ plan_response (Ok b) → SameResponse r q
same_reply_responses a b r q same e f =
    subst (λ (x : Response). SameResponse x q) (sym e)
    (subst (λ (x : Response). SameResponse (plan_response (Ok a)) x) (sym f)
    (record { status = same_status a b same; media = refl; body = same }))
