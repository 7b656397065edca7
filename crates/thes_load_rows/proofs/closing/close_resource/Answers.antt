use Rattle.std.proofs.Common.{◌∙◌, sym, true≢false}
use Rattle.thes_load_rows.proofs.StageCloseLemmas.{resource_bad, resource_good}
use Rattle.thes_load_rows.proofs.closing.close_resource.Goals as goal

pub new-requires : goal.new-requires
new-requires c =
    let rule = c.in_ok-close.ensures.0 c.if-branch.true in
    record { few = rule.few; each = rule.each; no_return = rule.no_return }

pub returns-in_ok-vocab : goal.returns-in_ok-vocab
returns-in_ok-vocab c =
    resource_good c.args.base c.args.load c.new-then-branch.result (c.in_ok-close.ensures.0 c.if-branch.true)
    (c.new-then-branch.ensures c.args.base c.args.load.resources.items c.in_ok-vocab.ensures)

pub returns-else-branch : goal.returns-else-branch
returns-else-branch c = rw c.stage_after_fault.ensures (resource_bad c.args.base c.args.load
    (λ rule. true≢false (sym (c.in_ok-close.ensures.1 rule) ∙ c.if-branch.false)))
