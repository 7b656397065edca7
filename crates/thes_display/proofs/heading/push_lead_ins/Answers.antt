use Rattle.std.proofs.Common.{◌∙◌, ◌++◌, ◌∷◌, [], ap, map, refl, subst, sym, take, take_all, true, arith}
use Rattle.std.proofs.lemmas.List.{take_more, map-append}
use Rattle.thes_base.specs.declared.data.LabelKind.TheVariants.{Alt}
use Rattle.thes_base.specs.Labels.{HasLabel}
use Rattle.thes_base.specs.Listing.{IsListing}
use Rattle.thes_core.specs.CoreView.{with_histories}
use Rattle.thes_display.specs.LabelTexts.{label_texts, text_cmp}
use Rattle.thes_display.proofs.HeadingLemmas.{lead_in_with, lead_ins_listed, one_more}
use Rattle.thes_display.proofs.heading.push_lead_ins.Goals as goal

pub loop-label-preserved : goal.loop-label-preserved
loop-label-preserved c =
    let xs = c.deref-label-items.result.now in
    let i = c.loop-label.label-index in
    let x = c.label-item.result in
    one_more (lead_in_with c.args.n) c.args.headings.now.items c.loop-label.headings.items _
    (label_texts (take i xs)) _ x.now.text c.in_ok-new.field-0 true c.loop-label.invariant
    c.in_ok-push.ensures.items
    (c.in_ok-new.ensures.text ∙ c.in_ok-text.ensures.ok ∙ c.text.ensures) c.in_ok-new.ensures.concept refl
    (ap label_texts (take_more xs i x (omega arith) ∙ ap (λ z. take i xs ++ z ∷ []) (sym c.label-item.is))
    ∙ map-append (λ l. l.now.text) (take i xs) (x ∷ []))

pub returns : goal.returns
returns c =
    let xs = c.deref-label-items.result.now in
    let make = lead_in_with c.args.n in
    record {
      more = map make (label_texts xs);
      listing = lead_ins_listed (with_histories [] c.args.core.now) c.args.tag.now c.args.n (label_texts xs)
          (subst (λ ls. IsListing text_cmp (HasLabel c.args.core.now.labels c.args.n Alt c.args.tag.now)
          (label_texts ls)) (sym c.deref-label-items.ensures.value) c.in_ok-labels.ensures);
      is = c.loop-label.invariant ∙ ap (λ ls. c.args.headings.now.items ++ map make (label_texts ls))
          (take_all c.loop-label.label-index xs (omega arith));
    }
