use Rattle.std.proofs.Common.{◌∙◌, ◌++◌, ap, subst, [], arith}
use Rattle.thes_core.specs.CoreView.{with_histories}
use Rattle.thes_display.specs.LabelTexts.{AreSortedTexts, label_lines, label_texts, term_lines}
use Rattle.thes_display.proofs.LabelLemmas.{terms_sorted}
use Rattle.thes_display.proofs.SymbolLineLemmas.{labels_are_under, lines_of_labels, lines_of_terms, on_written}
use Rattle.thes_display.proofs.entry.write_labels.Goals as goal

-- At most one label is written as it is.
pub returns-then-len-le1 : goal.returns-then-len-le1
returns-then-len-le1 c =
    let s = with_histories [] c.args.source.now.core.now in
    let old = c.args.text.now.items in
    on_written c.write_label_lines.result _ _
    (λ e. lines_of_labels s c.args.source.now.tag.now c.args.n c.args.symbol c.args.kind c.in_ok-labels.labels.items
    old c.write_label_lines.new.text.items c.requires.kind c.in_ok-labels.ensures (omega arith)
    (e ∙ ap (λ ls. old ++ label_lines c.args.symbol ls) c.as_slice.ensures.value)) c.write_label_lines.ensures

-- Several labels are sorted.
pub returns : goal.returns
returns c =
    let s = with_histories [] c.args.source.now.core.now in
    let tag = c.args.source.now.tag.now in
    let old = c.args.text.now.items in
    let labels = c.in_ok-labels.labels.items in
    let terms = c.in_ok-terms.terms.items in
    let are = subst (λ ls. AreSortedTexts c.args.n (label_texts ls) terms) c.as_slice-2.ensures.value
    c.in_ok-terms.ensures in
    on_written c.write_terms.result _ _
    (λ e. lines_of_terms s tag c.args.n c.args.symbol terms old c.write_terms.new.text.items
    (labels_are_under s tag c.args.n c.args.symbol c.args.kind terms c.requires.kind
    (terms_sorted s.labels c.args.n c.args.kind tag (label_texts labels) c.in_ok-labels.ensures terms are))
    (e ∙ ap (λ ts. old ++ term_lines c.args.symbol ts) c.as_slice-3.ensures.value)) c.write_terms.ensures
