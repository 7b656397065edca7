use Rattle.std.proofs.Common.{rules, ◌≡◌, ◌+◌, ◌∙◌, vec_len, length-append, ◌++◌, ◌∷◌, [], sym, ap, subst, List, length, map, arith, append_assoc}
use Rattle.std.proofs.lemmas.List.{map-append}
use Rattle.serde_json.specs.Data.{Data}
use Rattle.thes_plans.specs.declared.plan.PlanRequest.{PlanRequest}
use Rattle.thes_requests.specs.PlanReadings.{AreRequests, IsPlanRequest}
use Rattle.thes_requests.specs.Tree.{view}
use Rattle.thes_requests.proofs.PlanReadingLemmas.{one_more_request}
use Rattle.thes_requests.proofs.plan.requests_in.Goals as goal

-- One more request is read.
pub loop-item-preserved : goal.loop-item-preserved
loop-item-preserved c =
    let before = c.loop-item.invariant in
    let step = c.in-Some.ensures.steps in
    let a = ap length step.0 in
    let b = step.1 in
    let d = before.3 in
    let whole = ap (λ r. c.loop-item.yielded ++ r) (sym step.0) ∙ before.2 in
    let is : IsPlanRequest (view c.in-Some.item) c.in-Ok.asked = search rules in
    let more : vec_len c.push.new.self ≡ vec_len c.loop-item.plan + 1 = search rules in
    let count = before.1 in
    let place = length-append c.loop-item.yielded (c.in-Some.item ∷ []) in
    let pushed : c.push.new.self.items ≡ c.loop-item.plan.items ++ c.in-Ok.asked ∷ [] = search rules in (
      subst (λ (ds : List Data). AreRequests ds c.push.new.self.items)
          (sym (map-append view c.loop-item.yielded (c.in-Some.item ∷ [])))
          (subst (λ (p : List PlanRequest). AreRequests (map view c.loop-item.yielded ++ view c.in-Some.item ∷ []) p)
          (sym pushed) (one_more_request (map view c.loop-item.yielded) c.loop-item.plan.items (view c.in-Some.item)
          c.in-Ok.asked before.0 is)),
      omega (arith, more, count, place),
      append_assoc c.loop-item.yielded (c.in-Some.item ∷ []) c.next.new.self.rest.items ∙ whole,
      omega (arith, a, b, d),
    )
