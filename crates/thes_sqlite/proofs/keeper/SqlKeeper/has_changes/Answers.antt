use Rattle.std.proofs.Common.{◌∙◌, ap, not}
use Rattle.thes_sqlite.proofs.FoundRowLemmas.{right_answer_after, unwritten}
use Rattle.thes_sqlite.proofs.keeper.SqlKeeper.has_changes.Goals as goal

pub returns-clause-answer : goal.returns-clause-answer
returns-clause-answer g c =
    let settled = c.is_autocommit-settled.ensures.settled
    (c.is_autocommit-settled.ensures.value ∙ ap not c.self.invariant.autocommit) in
    right_answer_after g.S.Store c.args.changes.now c.self.inside.conn c.has_changes.new.conn c.has_changes.result
    (unwritten g.S.Store c.self.inside.conn c.has_changes.new.conn c.has_changes.ensures.leaves settled)
    c.has_changes.ensures.answer
