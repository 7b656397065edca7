use Rattle.std.proofs.Common.{ℕ, List, ◌≡◌, ◌++◌, ◌+◌, ◌∷◌, [], ◌∙◌, ap, sym, arith, rules, take, map}
use Rattle.std.proofs.lemmas.List.{take_more, take_all}
use Rattle.thes_base.specs.Resources.{entry_at}
use Rattle.thes_office.proofs.PlanFactLemmas.{plan_rows_more}
use Rattle.thes_office.proofs.plan_facts.rows_in_plan.Goals as goal

pub loop-number-preserved : goal.loop-number-preserved
loop-number-preserved g c =
    let ns : List ℕ = c.args.numbers.now in
    let n : ℕ = c.number-item.result in
    let more = take_more ns c.loop-number.number-index n (omega arith)
    ∙ ap (λ (x : ℕ). take c.loop-number.number-index ns ++ x ∷ []) (sym c.number-item.is) in
    let pushed : c.push.new.self.items ≡ c.loop-number.rows.items ++ c.in-Ok.row ∷ [] = search rules in
    plan_rows_more (g.K.Keeper.view c.args.keeper.now) (g.K.Keeper.view c.loop-number.keeper)
    (g.K.Keeper.view c.row.new.keeper) c.args.postings.now (take c.loop-number.number-index ns)
    (take (c.loop-number.number-index + 1) ns) c.loop-number.rows.items c.push.new.self.items n c.in-Ok.row
    c.loop-number.invariant c.in-Ok.ensures.asks c.in-Ok.ensures.in_plan more pushed

pub returns-clause-in_plan : goal.returns-clause-in_plan
returns-clause-in_plan g c = λ up t rows is are.
    c.loop-number.invariant.rows_are_read up t rows is are ∙ ap (map (entry_at rows))
    (take_all {A = ℕ} c.loop-number.number-index c.args.numbers.now (omega arith))
