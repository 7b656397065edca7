use Rattle.std.proofs.Common.{rules, ◌∙◌, ◌<◌, ap, sym, length, not, ◌&&◌}
use Rattle.std.specs.Ordering.{eq_by_cmp}
use Rattle.thes_vocab.specs.OwnLabels.{own_label, has_own, data_cmp}
use Rattle.thes_vocab.proofs.LabelTableLemmas.{row_set, row_at, row_taken}
use Rattle.thes_vocab.proofs.labels.take.Goals as goal

pub returns-in-Some-clause-after : goal.returns-in-Some-clause-after
returns-in-Some-clause-after c =
    let rows = c.args.rows.now.items in
    let l = own_label c.args.kind c.args.tag.now c.args.text.now in
    let now = c.remove.new.self in
    let within : c.get.result < length rows = search rules in
    let was = row_at rows c.args.owner c.get.result c.in-Some.row.now c.get.ensures.value within
    c.in-Some.ensures.value in
    row_taken rows _ c.args.owner now l (row_set rows c.args.owner c.get.result now c.get.ensures.value within)
    (λ q. c.remove.ensures.after q ∙ ap (λ row. not (eq_by_cmp data_cmp q l) && has_own row q) (sym was))
