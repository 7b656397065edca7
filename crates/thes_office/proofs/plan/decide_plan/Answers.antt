use Rattle.std.proofs.Common.{◌≡◌, ◌++◌, ◌∷◌, [], List, refl, rules, arith, length, sym, ap, ◌∙◌, subst, length-append}
use Rattle.std.proofs.lemmas.Iterator.Adapters.{YieldsList-from_vec}
use Rattle.std.proofs.lemmas.Iterator.Consumers.{YieldsList-end, YieldsList-so_far, YieldsList-turn}
use Rattle.std.proofs.lemmas.List.{map-id}
use Rattle.std.proofs.lemmas.Option.{slice_get_read}
use Rattle.thes_base.specs.declared.request.Answer.{Answer}
use Rattle.thes_plans.specs.declared.plan.PlanRequest.{PlanRequest}
use Rattle.thes_plans.specs.Resolving.{resolved_command}
use Rattle.thes_store.proofs.StorageLemmas.{kept_after}
use Rattle.thes_office.specs.PlanDecisions.{PlanIsAccepted}
use Rattle.thes_office.proofs.PlanDecisionLemmas.{log_starts, place_counts, plan_continues, plan_decides, plan_refuses}
use Rattle.thes_office.proofs.PlanDecisionLemmas.{plan_starts}
use Rattle.thes_office.proofs.plan.decide_plan.Goals as goal

pub loop-asked-init : goal.loop-asked-init
loop-asked-init g c = record {
  keeps = record { same = λ up. refl; was = λ up. up; count = refl };
  unspent = c.requires.unspent;
  setting = refl;
  logged = log_starts _ c.args.core.now c.new-3.ensures;
  each = ap (λ (l : List Answer). length l) c.in_ok-answers.ensures.items;
  decides = λ up. plan_starts (g.K.Keeper.view c.args.keeper.now).rows c.args.core.now.setting.limits c.args.core.now
      [] _ (c.requires.copies up) refl c.in_ok-answers.ensures.items c.new.ensures c.new-2.ensures c.new-3.ensures;
}

pub loop-asked-preserved : goal.loop-asked-preserved
loop-asked-preserved g c =
    let done = c.loop-asked.yielded in
    let told = c.in-Ok-None.ensures in
    let d = told.decides in record {
      keeps = kept_after _ _ _ c.loop-asked.invariant.keeps _ told.asks;
      unspent = told.usable.0;
      setting = told.usable.1 ∙ c.loop-asked.invariant.setting;
      logged = told.logs c.loop-asked.invariant.logged;
      each = let grown = ap (λ (l : List Answer). length l) d.2 in
          let one = length-append c.loop-asked.progress.decided.answers.items (d.0 ∷ []) in
          let more = length-append done (c.in-Some.asked ∷ []) in
          let before = c.loop-asked.invariant.each in
          omega (arith, grown, one, more, before);
      decides = λ up. let was = told.asks.was up in
          let so_far = c.loop-asked.invariant.decides was in
          plan_continues (g.K.Keeper.view c.args.keeper.now).rows c.args.core.now.setting done c.in-Some.asked
          c.loop-asked.progress c.decide_request.new.progress d.0 c.loop-asked.core c.decide_request.new.core so_far
          (plan_decides (g.K.Keeper.view c.args.keeper.now).rows (g.K.Keeper.view c.loop-asked.keeper).rows
          c.args.core.now.setting done c.loop-asked.progress c.decide_request.new.progress
          (resolved_command c.loop-asked.progress.decided.answers.items c.in-Some.asked) d.0 c.loop-asked.core
          c.decide_request.new.core so_far c.loop-asked.invariant.setting (c.loop-asked.invariant.keeps.same was)
          (d.3 up)) d.2 (done ++ c.in-Some.asked ∷ []) refl (sym d.1 ∙ c.in-Ok-None.field-0-is);
    }

pub returns-in-Ok-Some-clause-decides : goal.returns-in-Ok-Some-clause-decides
returns-in-Ok-Some-clause-decides g c up =
    let done = c.loop-asked.yielded in
    let all = c.args.plan.items in
    let given = c.into_iter-asked-iterator.ensures.into_iter_gives in
    let road = YieldsList-from_vec {s = c.into_iter-asked-iterator.result} all given.0 (given.1 ∙ c.args.plan.ok.0) in
    let turn = YieldsList-turn road done c.loop-asked.asked-iterator c.loop-asked.yielded_by c.next.result
    c.next.new.self c.in-Some.asked c.in-Some.is c.next.ensures.steps in
    let front = sym (map-id done) ∙ YieldsList-so_far road done c.loop-asked.asked-iterator c.loop-asked.yielded_by in
    let told = c.in-Ok-Some.ensures in
    let d = told.decides in
    let was = told.asks.was up in
    let so_far = c.loop-asked.invariant.decides was in
    let at = slice_get_read all (length all) (length done) c.in-Some.asked refl turn.0 turn.1 in
    let placed : c.len-place.result ≡ length c.decide_request.new.progress.decided.answers.items = search rules in
    plan_refuses (g.K.Keeper.view c.args.keeper.now).rows c.args.core.now.setting done c.in-Some.asked
    c.loop-asked.progress c.decide_request.new.progress d.0 c.loop-asked.core c.decide_request.new.core so_far
    (plan_decides (g.K.Keeper.view c.args.keeper.now).rows (g.K.Keeper.view c.loop-asked.keeper).rows
    c.args.core.now.setting done c.loop-asked.progress c.decide_request.new.progress
    (resolved_command c.loop-asked.progress.decided.answers.items c.in-Some.asked) d.0 c.loop-asked.core
    c.decide_request.new.core so_far c.loop-asked.invariant.setting (c.loop-asked.invariant.keeps.same was)
    (d.3 up)) d.2 all (length done) c.len-place.result c.in-Ok-Some.refusal c.take_back.new.self front
    (sym c.loop-asked.invariant.each) at placed (sym d.1 ∙ c.in-Ok-Some.field-0-is)
    (told.usable.1 ∙ c.loop-asked.invariant.setting) c.take_back.ensures

pub returns-in-Ok-Some-clause-each : goal.returns-in-Ok-Some-clause-each
returns-in-Ok-Some-clause-each g c =
    let done = c.loop-asked.yielded in
    let all = c.args.plan.items in
    let given = c.into_iter-asked-iterator.ensures.into_iter_gives in
    let road = YieldsList-from_vec {s = c.into_iter-asked-iterator.result} all given.0 (given.1 ∙ c.args.plan.ok.0) in
    let turn = YieldsList-turn road done c.loop-asked.asked-iterator c.loop-asked.yielded_by c.next.result
    c.next.new.self c.in-Some.asked c.in-Some.is c.next.ensures.steps in
    let d = c.in-Ok-Some.ensures.decides in
    let answers = c.loop-asked.progress.decided.answers.items in
    let placed : c.len-place.result ≡ length c.decide_request.new.progress.decided.answers.items = search rules in
    place_counts c.len-place.result (length answers) (length done)
    (placed ∙ ap (λ (l : List Answer). length l) d.2 ∙ length-append answers (d.0 ∷ []))
    c.loop-asked.invariant.each all turn.0

pub returns-clause-decides : goal.returns-clause-decides
returns-clause-decides g c up =
    let done = c.loop-asked.yielded in
    let given = c.into_iter-asked-iterator.ensures.into_iter_gives in
    let road = YieldsList-from_vec {s = c.into_iter-asked-iterator.result} c.args.plan.items given.0
    (given.1 ∙ c.args.plan.ok.0) in
    let ended = YieldsList-end road done c.loop-asked.asked-iterator c.loop-asked.yielded_by c.next.result
    c.next.new.self c.in-None.is c.next.ensures.steps in
    let so_far = c.loop-asked.invariant.decides up in
    subst (λ (l : List PlanRequest). PlanIsAccepted (g.K.Keeper.view c.args.keeper.now).rows c.args.core.now.setting l
    c.loop-asked.progress.decided.answers.items c.loop-asked.progress.decided.delta c.loop-asked.progress.log
    c.loop-asked.core) (sym (map-id done) ∙ ended.0) (record { decided = so_far.decided; steps = so_far.steps })

pub returns-clause-each : goal.returns-clause-each
returns-clause-each g c =
    let given = c.into_iter-asked-iterator.ensures.into_iter_gives in
    let road = YieldsList-from_vec {s = c.into_iter-asked-iterator.result} c.args.plan.items given.0
    (given.1 ∙ c.args.plan.ok.0) in
    let ended = YieldsList-end road c.loop-asked.yielded c.loop-asked.asked-iterator c.loop-asked.yielded_by
    c.next.result c.next.new.self c.in-None.is c.next.ensures.steps in
    c.loop-asked.invariant.each ∙ ended.1

pub returns-in-Ok-Some-clause-usable : goal.returns-in-Ok-Some-clause-usable
returns-in-Ok-Some-clause-usable g c = λ unspent. (c.take_back.ensures unspent).0 ∙ c.in-Ok-Some.ensures.usable.1
    ∙ c.loop-asked.invariant.setting

pub take_back-requires-clause-logged : goal.take_back-requires-clause-logged
take_back-requires-clause-logged g c = c.in-Ok-Some.ensures.logs c.loop-asked.invariant.logged
