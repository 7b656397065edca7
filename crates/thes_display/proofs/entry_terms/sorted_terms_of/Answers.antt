use Rattle.std.proofs.Common.{◌∙◌, ◌++◌, ◌∷◌, [], ap, sym, subst, take, take_all, arith, ℕ, List}
use Rattle.std.specs.Prelude.{Contains}
use Rattle.std.proofs.lemmas.List.{take_more}
use Rattle.thes_display.proofs.TermLemmas.{AreMade, made_more, terms_listed}
use Rattle.thes_display.proofs.entry_terms.sorted_terms_of.Goals as goal

pub loop-concept-preserved : goal.loop-concept-preserved
loop-concept-preserved c =
    let xs : List ℕ = c.args.concepts.now in
    let i = c.loop-concept.concept-index in
    let n : ℕ = c.concept-item.result in
    made_more c.args.core.now.labels c.args.tag.now _ _ _ _ c.in_ok-new.field-0 n c.loop-concept.invariant
    c.in_ok-push.ensures.items c.in_ok-new.ensures.concept (c.in_ok-new.ensures.text ∙ c.in_ok-text.ensures)
    (take_more xs i n (omega arith) ∙ ap (λ z. take i xs ++ z ∷ []) (sym c.concept-item.is))

pub returns : goal.returns
returns c =
    let xs : List ℕ = c.args.concepts.now in
    terms_listed c.args.core.now.labels c.args.tag.now (Contains xs) xs c.loop-concept.terms.items _
    (record { rises = c.requires.rise; sound = λ n i. i; complete = λ n i. i })
    (subst (λ (ns : List ℕ). AreMade c.args.core.now.labels c.args.tag.now ns c.loop-concept.terms.items)
    (take_all c.loop-concept.concept-index xs (omega arith)) c.loop-concept.invariant)
    c.in_ok-sort_terms.ensures.same c.in_ok-sort_terms.ensures.sorted
