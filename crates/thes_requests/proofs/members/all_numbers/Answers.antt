use Rattle.std.proofs.lemmas.Grind.{common_steps}
use Rattle.std.proofs.Common.{arith, rules, ◌≡◌, Err, None, inr, refl}
use Rattle.serde_json.specs.Find.{as_number}
use Rattle.thes_requests.specs.Tree.{view}
use Rattle.thes_requests.specs.declared.members.TheConstants.{BAD_SHAPE}
use Rattle.thes_requests.proofs.MemberLemmas.{numbers-step, numbers-stop}
use Rattle.thes_requests.proofs.members.all_numbers.Goals as goal

pub returns-in_err-number-clause-err : goal.returns-in_err-number-clause-err
returns-in_err-number-clause-err c =
    let stop : c.from_residual.result ≡ Err BAD_SHAPE = search rules in
    let none : as_number (view c.value-item.result) ≡ None = search rules in
    rw stop (inr (refl, numbers-stop _ _ _ _ c.loop-value-test.true c.value-item.is c.loop-value.invariant none))

pub loop-value-preserved : goal.loop-value-preserved
loop-value-preserved c = grind (arith, common_steps, numbers-step)
