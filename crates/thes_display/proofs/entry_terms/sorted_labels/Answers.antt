use Rattle.std.proofs.Common.{◌∙◌, ◌++◌, ◌∷◌, [], ap, map, subst, sym, take, take_all, arith, List, IsPermutation}
use Rattle.std.proofs.lemmas.List.{take_more, map-append}
use Rattle.thes_display.specs.LabelTexts.{label_texts, term_with}
use Rattle.thes_display.specs.Order.{Term}
use Rattle.thes_display.proofs.TermLemmas.{same_term}
use Rattle.thes_display.proofs.entry_terms.sorted_labels.Goals as goal

pub loop-label-preserved : goal.loop-label-preserved
loop-label-preserved c =
    let xs = c.args.labels.now in
    let i = c.loop-label.label-index in
    let x = c.label-item.result in
    let make = term_with c.args.n in
    c.in_ok-push.ensures.items ∙ ap (λ l. l ++ c.in_ok-new.field-0 ∷ []) c.loop-label.invariant
    ∙ ap (λ z. map make (label_texts (take i xs)) ++ z ∷ [])
    (same_term c.in_ok-new.field-0 (make x.now.text)
    (c.in_ok-new.ensures.text ∙ c.in_ok-text.ensures.ok ∙ c.text.ensures) c.in_ok-new.ensures.concept)
    ∙ sym (map-append make (label_texts (take i xs)) (x.now.text ∷ []))
    ∙ ap (map make) (sym (map-append (λ l. l.now.text) (take i xs) (x ∷ [])))
    ∙ ap (λ l. map make (label_texts l))
    (sym (take_more xs i x (omega arith) ∙ ap (λ z. take i xs ++ z ∷ []) (sym c.label-item.is)))

pub returns : goal.returns
returns c = record {
  same = subst (λ (ts : List Term). IsPermutation ts c.sort_terms.new.terms.items)
      (c.loop-label.invariant ∙ ap (λ l. map (term_with c.args.n) (label_texts l))
      (take_all c.loop-label.label-index c.args.labels.now (omega arith))) c.in_ok-sort_terms.ensures.same;
  order = c.in_ok-sort_terms.ensures.sorted;
}
