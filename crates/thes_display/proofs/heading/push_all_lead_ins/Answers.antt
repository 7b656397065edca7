use Rattle.std.proofs.Common.{◌∙◌, ◌++◌, ◌∷◌, [], ap, sym, take, arith, ℕ, List}
use Rattle.std.proofs.lemmas.List.{take_more}
use Rattle.thes_core.specs.CoreView.{with_histories}
use Rattle.thes_display.proofs.HeadingLemmas.{these_none, these_more, these_all}
use Rattle.thes_display.proofs.heading.push_all_lead_ins.Goals as goal

pub loop-concept-init : goal.loop-concept-init
loop-concept-init c = these_none (with_histories [] c.args.core.now) c.args.tag.now c.args.concepts.now c.requires.rise
    c.args.headings.now.items

pub loop-concept-preserved : goal.loop-concept-preserved
loop-concept-preserved c =
    let xs : List ℕ = c.args.concepts.now in
    let i = c.loop-concept.concept-index in
    let n : ℕ = c.concept-item.result in
    these_more (with_histories [] c.args.core.now) c.args.tag.now xs c.requires.rise i n _ _ _
    (take_more xs i n (omega arith) ∙ ap (λ z. take i xs ++ z ∷ []) (sym c.concept-item.is))
    c.loop-concept.invariant c.in_ok-push_lead_ins.ensures

pub returns : goal.returns
returns c = these_all (with_histories [] c.args.core.now) c.args.tag.now c.args.concepts.now c.requires.rise
    c.loop-concept.concept-index _ _ (omega arith) c.loop-concept.invariant
