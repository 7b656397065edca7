use Rattle.std.proofs.Common.{◌≡◌, ◌∙◌, ap, subst, not, ◌&&◌, arith}
use Rattle.std.specs.Prelude.{Ok, Err}
use Rattle.std.specs.Ordering.{eq_by_cmp}
use Rattle.thes_vocab.specs.OwnLabels.{own_label, has_own, data_cmp}
use Rattle.thes_vocab.specs.LabelPositions.{IsLabelPosition}
use Rattle.thes_vocab.proofs.OwnLabelLemmas.{found_is, sorted_remove, has_removed}
use Rattle.thes_vocab.proofs.row.OwnerRow.remove.Goals as goal

pub invariant_of-self : goal.invariant_of-self
invariant_of-self c =
    let l = own_label c.args.kind c.args.tag.now c.args.text.now in
    let at = subst (λ own. IsLabelPosition own l (Ok c.in-Ok.place)) c.as_slice.ensures.value c.in-Ok.ensures in
    rw c.remove.ensures.items (sorted_remove c.self.inside.labels.items l c.in-Ok.place at c.self.invariant)

pub returns-in-Ok-clause-removed : goal.returns-in-Ok-clause-removed
returns-in-Ok-clause-removed c = grind (arith, found_is)

pub returns-in-Ok-clause-after : goal.returns-in-Ok-clause-after
returns-in-Ok-clause-after c q =
    let l = own_label c.args.kind c.args.tag.now c.args.text.now in
    let at = subst (λ own. IsLabelPosition own l (Ok c.in-Ok.place)) c.as_slice.ensures.value c.in-Ok.ensures in
    ap (λ own. has_own own q) c.remove.ensures.items
    ∙ has_removed c.self.inside.labels.items l (Ok c.in-Ok.place) c.self.invariant at q
    ∙ ap (λ own. not (eq_by_cmp data_cmp q l) && has_own own q) c.self.view_is

pub returns-in-Err-clause-removed : goal.returns-in-Err-clause-removed
returns-in-Err-clause-removed c = grind (arith, found_is)

pub returns-in-Err-clause-after : goal.returns-in-Err-clause-after
returns-in-Err-clause-after c q =
    let l = own_label c.args.kind c.args.tag.now c.args.text.now in
    let at = subst (λ own. IsLabelPosition own l (Err c.in-Err.field-0)) c.as_slice.ensures.value c.in-Err.ensures in
    subst (λ own. has_own own q ≡ (not (eq_by_cmp data_cmp q l) && has_own own q)) c.self.view_is
    (has_removed c.self.inside.labels.items l (Err c.in-Err.field-0) c.self.invariant at q)
