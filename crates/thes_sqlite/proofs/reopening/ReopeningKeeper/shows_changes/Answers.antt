use Rattle.std.proofs.Common.{◌∙◌, ap}
use Rattle.thes_sqlite.proofs.ReopeningLemmas.{reads_after}
use Rattle.thes_sqlite.specs.Reopening.{ReopeningView, opened_again}
use Rattle.thes_sqlite.proofs.reopening.ReopeningKeeper.shows_changes.Goals as goal

pub returns-in_default-has_changes-clause-whole : goal.returns-in_default-has_changes-clause-whole
returns-in_default-has_changes-clause-whole g c =
    let after = reads_after g.S.Store c.args.self.now.storage _ _ c.in-Some.keeper c.has_changes.new.self
    c.self.view_is (c.reopen_if_shut.ensures.again c.if-not-reopen_if_shut.false) c.in-Some.is
    c.has_changes.ensures.leaves in
    opened_again (ap (λ (v : ReopeningView _). v.reopenings) c.self.view_is
    ∙ c.reopen_if_shut.ensures.once c.if-not-reopen_if_shut.false) after.0 after.1

pub returns-clause-whole : goal.returns-clause-whole
returns-clause-whole g c =
    let after = reads_after g.S.Store c.args.self.now.storage _ _ c.in-Some.keeper c.has_changes.new.self
    c.self.view_is (c.reopen_if_shut.ensures.again c.if-not-reopen_if_shut.false) c.in-Some.is
    c.has_changes.ensures.leaves in
    opened_again (ap (λ (v : ReopeningView _). v.reopenings) c.self.view_is
    ∙ c.reopen_if_shut.ensures.once c.if-not-reopen_if_shut.false) after.0 after.1
