use Rattle.std.proofs.Common.{◌∙◌, ◌-◌, ap, sym, cond, Bool, arith}
use Rattle.std.specs.FinSet as set
use Rattle.thes_base.specs.Machine.{owned_label}
use Rattle.thes_vocab.specs.OwnLabels.{own_label}
use Rattle.thes_vocab.proofs.LabelTableLemmas.{rows_taken, take_labels, counted_one}
use Rattle.thes_vocab.proofs.labels.LabelTable.remove.Goals as goal

pub overflow_sub-self : goal.overflow_sub-self
overflow_sub-self c = grind (arith, counted_one)

pub invariant_of-self : goal.invariant_of-self
invariant_of-self c =
    let counted = rows_taken c.self.inside.rows.items c.take.new.rows.items c.self.inside.count c.args.owner
    (own_label c.args.kind c.args.tag.now c.args.text.now) c.self.invariant c.take.ensures.after c.take.result
    c.take.ensures.taken in
    sym (ap (λ (b : Bool). cond b (c.self.inside.count - 1) c.self.inside.count) c.if-take.true) ∙ counted

pub invariant_of-self-else-take : goal.invariant_of-self-else-take
invariant_of-self-else-take c =
    let counted = rows_taken c.self.inside.rows.items c.take.new.rows.items c.self.inside.count c.args.owner
    (own_label c.args.kind c.args.tag.now c.args.text.now) c.self.invariant c.take.ensures.after c.take.result
    c.take.ensures.taken in
    sym (ap (λ (b : Bool). cond b (c.self.inside.count - 1) c.self.inside.count) c.if-take.false) ∙ counted

pub returns-then-take : goal.returns-then-take
returns-then-take c =
    let l = own_label c.args.kind c.args.tag.now c.args.text.now in
    take_labels c.self.inside.rows.items c.take.new.rows.items c.args.owner l c.take.ensures.after
    ∙ ap (λ labels. set.remove labels (owned_label c.args.owner l)) c.self.view_is

pub returns-else-take : goal.returns-else-take
returns-else-take c =
    let l = own_label c.args.kind c.args.tag.now c.args.text.now in
    take_labels c.self.inside.rows.items c.take.new.rows.items c.args.owner l c.take.ensures.after
    ∙ ap (λ labels. set.remove labels (owned_label c.args.owner l)) c.self.view_is
