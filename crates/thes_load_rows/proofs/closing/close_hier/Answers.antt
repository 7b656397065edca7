use Rattle.thes_load_rows.proofs.LinkedVocabLemmas.{rule_whole, rule_broken}
use Rattle.thes_load_rows.proofs.StageCloseLemmas.{hier_bad, hier_good}
use Rattle.thes_load_rows.proofs.closing.close_hier.Goals as goal

pub returns-in-None : goal.returns-in-None
returns-in-None c = hier_good c.args.linked_vocab c.new.result
    (λ t has. rule_whole t.resource c.args.linked_vocab.graph t.link t.hier has
    (rw c.in-None.is at c.in_ok-check_whole.ensures)) c.new.ensures

pub returns-in-Some : goal.returns-in-Some
returns-in-Some c = rw c.stage_after_fault.ensures (hier_bad c.args.linked_vocab
    (λ t has. rule_broken t.resource c.args.linked_vocab.graph t.link t.hier has c.in-Some.field-0
    (rw c.in-Some.is at c.in_ok-check_whole.ensures)))
