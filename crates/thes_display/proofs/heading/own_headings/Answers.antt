use Rattle.std.proofs.Common.{◌∙◌, ◌++◌, ◌∷◌, [], ap, map, refl, sym, take, take_all, arith, false, ℕ, List}
use Rattle.std.proofs.lemmas.List.{take_more}
use Rattle.thes_core.specs.CoreView.{with_histories}
use Rattle.thes_display.proofs.HeadingLemmas.{own_with, own_listed, one_more}
use Rattle.thes_display.proofs.heading.own_headings.Goals as goal

pub loop-concept-preserved : goal.loop-concept-preserved
loop-concept-preserved c =
    let xs : List ℕ = c.args.concepts.now in
    let i = c.loop-concept.concept-index in
    let n : ℕ = c.concept-item.result in
    one_more (own_with (with_histories [] c.args.core.now) c.args.tag.now) [] c.loop-concept.headings.items _
    (take i xs) _ n c.in_ok-new.field-0 false c.loop-concept.invariant c.in_ok-push.ensures.items
    (c.in_ok-new.ensures.text ∙ c.in_ok-text.ensures) c.in_ok-new.ensures.concept refl
    (take_more xs i n (omega arith) ∙ ap (λ z. take i xs ++ z ∷ []) (sym c.concept-item.is))

pub returns : goal.returns
returns c =
    let xs : List ℕ = c.args.concepts.now in
    let make = own_with (with_histories [] c.args.core.now) c.args.tag.now in
    own_listed (with_histories [] c.args.core.now) c.args.tag.now xs c.loop-concept.headings.items c.requires.rise
    (c.loop-concept.invariant ∙ ap (map make) (take_all c.loop-concept.concept-index xs (omega arith)))
