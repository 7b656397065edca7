use Rattle.std.proofs.lemmas.Grind.{common_steps}
use Rattle.std.proofs.Common.{◌≡◌, ◌∙◌, ◌++◌, ◌∷◌, [], arith, sym, ap, true, false, bytes_eq}
use Rattle.std.specs.Prelude.{unwrap_or}
use Rattle.serde_json.specs.Data.{null}
use Rattle.thes_requests.proofs.TreeLemmas.{get_member-popped}
use Rattle.thes_requests.proofs.plan_form.last_member.Goals as goal

pub returns-then-eq : goal.returns-then-eq
returns-then-eq c =
    let popped : c.loop-found.left.items ≡ c.pop.new.self.items ++ (c.in-Some.found, c.in-Some.value) ∷ [] =
    grind (arith, common_steps) in
    let same : bytes_eq c.args.name.now c.in-Some.found.now ≡ true = grind arith in
    sym (ap (λ o. unwrap_or o null) (c.loop-found.invariant
    ∙ get_member-popped c.args.name.now c.loop-found.left.items c.pop.new.self.items (c.in-Some.found, c.in-Some.value)
    true popped same))

pub loop-found-preserved-else-eq : goal.loop-found-preserved-else-eq
loop-found-preserved-else-eq c =
    let popped : c.loop-found.left.items ≡ c.pop.new.self.items ++ (c.in-Some.found, c.in-Some.value) ∷ [] =
    grind (arith, common_steps) in
    let other : bytes_eq c.args.name.now c.in-Some.found.now ≡ false = grind arith in
    c.loop-found.invariant
    ∙ get_member-popped c.args.name.now c.loop-found.left.items c.pop.new.self.items (c.in-Some.found, c.in-Some.value)
    false popped other

pub loop-found-preserved-else-eq-2 : goal.loop-found-preserved-else-eq-2
loop-found-preserved-else-eq-2 c =
    let popped : c.loop-found.left.items ≡ c.pop.new.self.items ++ (c.in-Some.found, c.in-Some.value) ∷ [] =
    grind (arith, common_steps) in
    let other : bytes_eq c.args.name.now c.in-Some.found.now ≡ false = grind arith in
    c.loop-found.invariant
    ∙ get_member-popped c.args.name.now c.loop-found.left.items c.pop.new.self.items (c.in-Some.found, c.in-Some.value)
    false popped other

pub loop-found-preserved : goal.loop-found-preserved
loop-found-preserved c =
    let popped : c.loop-found.left.items ≡ c.pop.new.self.items ++ (c.in-Some.found, c.in-Some.value) ∷ [] =
    grind (arith, common_steps) in
    let other : bytes_eq c.args.name.now c.in-Some.found.now ≡ false = grind arith in
    c.loop-found.invariant
    ∙ get_member-popped c.args.name.now c.loop-found.left.items c.pop.new.self.items (c.in-Some.found, c.in-Some.value)
    false popped other
