use Rattle.std.proofs.Common.{rules, ◌≡◌, ◌∙◌, ◌+◌, ap, sym, cond, Bool, arith}
use Rattle.thes_vocab.proofs.AnswerLemmas.{on_any_err}
use Rattle.thes_vocab.proofs.LabelTableLemmas.{rows_put, same_labels, put_labels}
use Rattle.thes_vocab.proofs.labels.LabelTable.insert.Goals as goal

pub invariant_of-self : goal.invariant_of-self
invariant_of-self c = grind (arith, same_labels)

pub returns-in_err-put-clause-err : goal.returns-in_err-put-clause-err
returns-in_err-put-clause-err c = grind (arith, on_any_err, same_labels)

pub invariant_of-self-then-branch : goal.invariant_of-self-then-branch
invariant_of-self-then-branch c =
    let more : c.self.inside.count + 1 ≡ c.in_ok-count.count = search rules in
    let counted = rows_put c.self.inside.rows.items c.put.new.rows.items c.self.inside.count c.args.owner c.args.label
    c.self.invariant c.in_ok-put.ensures.ok c.in_ok-put.field-0 c.in_ok-put.ensures.answer in
    sym (ap (λ (b : Bool). cond b (c.self.inside.count + 1) c.self.inside.count) c.if-branch.true ∙ more) ∙ counted

pub invariant_of-self-else-branch : goal.invariant_of-self-else-branch
invariant_of-self-else-branch c =
    let counted = rows_put c.self.inside.rows.items c.put.new.rows.items c.self.inside.count c.args.owner c.args.label
    c.self.invariant c.in_ok-put.ensures.ok c.in_ok-put.field-0 c.in_ok-put.ensures.answer in
    sym (ap (λ (b : Bool). cond b (c.self.inside.count + 1) c.self.inside.count) c.if-branch.false) ∙ counted

pub returns-then-branch-clause-ok : goal.returns-then-branch-clause-ok
returns-then-branch-clause-ok c = grind (arith, put_labels)

pub returns-else-branch-clause-ok : goal.returns-else-branch-clause-ok
returns-else-branch-clause-ok c = grind (arith, put_labels)
