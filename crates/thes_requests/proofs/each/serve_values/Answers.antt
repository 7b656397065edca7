use Rattle.std.proofs.Common.{◌≡◌, ◌∙◌, ◌∷◌, [], rules, sym, ap, arith, ◌++◌, length-append, append_assoc, length}
use Rattle.thes_requests.proofs.EachLemmas.{all_values, last_value, next_value}
use Rattle.thes_requests.proofs.each.serve_values.Goals as goal

pub returns-then-serve_next : goal.returns-then-serve_next
returns-then-serve_next g c =
    let step = c.in-Some.ensures.steps in
    let given : c.into_iter-value-iterator.result.rest.items ≡ c.args.values.items = search rules in
    let before = c.loop-value.invariant in
    last_value g.D.RequestHandler.requests _ _ _ c.loop-value.yielded c.in-Some.value _ _ _ _ before.0 _
    c.serve_next.ensures c.next.new.self.rest.items _ _
    (ap (λ r. c.loop-value.yielded ++ r) (sym step.0) ∙ before.2 ∙ given) c.requires.some c.requires.few
    c.if-serve_next.true c.into_reply.ensures

pub loop-value-preserved : goal.loop-value-preserved
loop-value-preserved g c =
    let step = c.in-Some.ensures.steps in
    let before = c.loop-value.invariant in
    let left = before.1 in
    let a = ap length step.0 in
    let b = step.1 in
    let d = before.3 in
    let place = length-append c.loop-value.yielded (c.in-Some.value ∷ []) in
    let all = ap length before.2 in
    let parts = length-append c.loop-value.yielded c.loop-value.value-iterator.rest.items in (
      next_value g.D.RequestHandler.requests _ _ _ c.loop-value.yielded c.in-Some.value _ _ _ _ before.0 _
          c.serve_next.ensures c.if-serve_next.false,
      omega (arith, left, place, a, all, parts),
      append_assoc c.loop-value.yielded (c.in-Some.value ∷ []) c.next.new.self.rest.items
          ∙ ap (λ r. c.loop-value.yielded ++ r) (sym step.0) ∙ before.2,
      omega (arith, a, b, d),
    )

pub returns : goal.returns
returns g c =
    let before = c.loop-value.invariant in
    let step = c.in-None.ensures.steps in
    let none : length c.loop-value.value-iterator.rest.items ≡ 0 = before.3 ∙ step.0 in
    let given : c.into_iter-value-iterator.result.rest.items ≡ c.args.values.items = search rules in
    all_values g.D.RequestHandler.requests _ _ c.loop-value.yielded c.loop-value.value-iterator.rest.items _ _ _ _
    before.0 (before.2 ∙ given) none c.requires.some c.requires.few c.into_reply-2.ensures
