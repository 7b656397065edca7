use Rattle.std.proofs.Common.{◌≡◌, ◌∙◌, refl, map, string_bytes, subst, String, Global, Ok, ℕ, List}
use Rattle.std.proofs.lemmas.Iterator.{items_from_collect}
use Rattle.std.proofs.lemmas.Iterator.Adapters.{YieldsList-from_vec}
use Rattle.std.specs.Vec.Iter.{into_iter_items}
use Rattle.thes_command_line.specs.CommandLine.{PlanResult}
use Rattle.thes_command_line.proofs.arguments.plan_args.Goals as goal

pub returns : goal.returns
returns c =
    let args = c.args.args in
    let ran = c.in_ok-arguments.ensures.ran in
    let all = YieldsList-from_vec {s = args} (into_iter_items args) refl args.rest.ok.0 in
    let same : c.as_slice.result.now ≡ into_iter_items args = c.as_slice.ensures.value ∙ items_from_collect {E = ℕ}
    (Ok c.in_ok-arguments.arguments) ran all in
    subst (λ (arguments : List (String Global)). PlanResult (map string_bytes arguments) c.plan.result) same
    c.plan.ensures
