use Rattle.std.proofs.Common.{◌≡◌, ◌∙◌, length, sym, subst, arith}
use Rattle.thes_load_rows.specs.ResourceChecks.{HasReplacements}
use Rattle.thes_load_rows.proofs.ReplacementLemmas.{replacements_none, replacements_skip, replacements_more}
use Rattle.thes_load_rows.proofs.ReplacementLemmas.{return_found, return_none}
use Rattle.thes_load_rows.proofs.resources.has_replacement_cycle.Goals.{in_default}
use Rattle.thes_load_rows.proofs.resources.has_replacement_cycle.Goals as goal

pub loop-i-init : goal.loop-i-init
loop-i-init c = grind (arith, replacements_none)

pub loop-i-preserved : goal.loop-i-preserved
loop-i-preserved c = grind (arith, in_default, replacements_more, replacements_skip)

pub returns-then-is_cycle : goal.returns-then-is_cycle
returns-then-is_cycle c =
    let all : c.loop-i.i ≡ length c.args.resources.now =
    (let a = c.loop-i-test.false in let b = c.loop-i.auto.i-end in omega (arith, a, b)) in
    return_found c.args.resources.now c.loop-i.graph.links c.in_ok-first.first
    (subst (λ n. HasReplacements c.args.resources.now n c.loop-i.graph.links) all c.loop-i.invariant)
    c.in_ok-first.ensures (sym c.is_cycle.ensures ∙ c.if-is_cycle.true)

pub returns : goal.returns
returns c =
    let all : c.loop-i.i ≡ length c.args.resources.now =
    (let a = c.loop-i-test.false in let b = c.loop-i.auto.i-end in omega (arith, a, b)) in
    return_none c.args.resources.now c.loop-i.graph.links c.in_ok-first.first
    (subst (λ n. HasReplacements c.args.resources.now n c.loop-i.graph.links) all c.loop-i.invariant)
    c.in_ok-first.ensures (sym c.is_cycle.ensures ∙ c.if-is_cycle.false)
