use Rattle.std.proofs.Common.{◌∙◌, sym, true≢false}
use Rattle.thes_load_rows.proofs.StageCloseLemmas.{outside_bad, outside_good}
use Rattle.thes_load_rows.proofs.closing.close_outside.Goals as goal

pub returns-then-close : goal.returns-then-close
returns-then-close c =
    outside_good c.args.load (λ base rs rows has. (c.close.ensures base rs rows has).0 c.if-close.true)

pub returns-else-close : goal.returns-else-close
returns-else-close c =
    rw c.stage_after_fault.ensures (outside_bad c.args.load
    (λ base rs rows has rule. true≢false (sym ((c.close.ensures base rs rows has).1 rule) ∙ c.if-close.false)))
