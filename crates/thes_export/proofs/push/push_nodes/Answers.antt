use Rattle.std.proofs.Common.{◌≡◌, ◌+◌, ◌∙◌, ◌++◌, ◌∷◌, [], sym, ap, subst, take, take_all, arith, ℕ, List}
use Rattle.std.proofs.lemmas.List.{take_more}
use Rattle.thes_export.specs.Topics.{Adds, IsLineOf, IsNode}
use Rattle.thes_export.proofs.LineAppendLemmas.{OfSome, added_each, added_no_element}
use Rattle.thes_export.proofs.push.push_nodes.Goals as goal

pub loop-object-init : goal.loop-object-init
loop-object-init c = grind (arith, added_no_element)

pub loop-object-preserved : goal.loop-object-preserved
loop-object-preserved c =
    let xs : List ℕ = c.args.objects.now in
    let i = c.loop-object.object-index in
    let x : ℕ = c.object-item.result in
    let Is = λ (m : ℕ). IsNode c.args.about.now.core.now c.args.about.now.n c.args.property m in
    let more : take (i + 1) xs ≡ take i xs ++ x ∷ [] = take_more xs i x (omega arith) ∙ ap (λ z. take i xs ++ z ∷ [])
    (sym c.object-item.is) in
    subst (λ (ys : List ℕ). Adds (IsLineOf (OfSome Is ys)) c.args.lines.now.items c.push_node.new.lines.items)
    (sym more)
    (added_each Is (take i xs) x _ _ _ c.loop-object.invariant c.in_ok-push_node.ensures)

pub returns : goal.returns
returns c =
    let xs : List ℕ = c.args.objects.now in
    subst (λ (ys : List ℕ).
    Adds (IsLineOf (OfSome (λ (m : ℕ). IsNode c.args.about.now.core.now c.args.about.now.n c.args.property m) ys))
    c.args.lines.now.items c.loop-object.lines.items) (take_all c.loop-object.object-index xs (omega arith))
    c.loop-object.invariant
