use Rattle.std.proofs.Common.{subst}
use Rattle.thes_base.specs.declared.request.Command.TheVariants as request
use Rattle.thes_core.specs.PartsView.{setting_of}
use Rattle.thes_core.specs.Losses.{IsLostFromPostings}
use Rattle.thes_core.specs.declared.losses.Lost.{Lost}
use Rattle.thes_core.proofs.UndoLogLemmas.{counts_unwithdrawn}
use Rattle.thes_core.proofs.thesaurus.Thesaurus.take_back_withdrawal.Goals as goal

pub returns-clause-counts : goal.returns-clause-counts
returns-clause-counts c = λ posting s after accepts lost counts.
    let t = c.args.self.now in
    counts_unwithdrawn (setting_of t) s posting c.in-Place.concept t.book c.take_back_withdrawal.new.self
    after.legal accepts (subst (λ (x : Lost). IsLostFromPostings (request.Withdraw posting) s x) c.in-Place.is lost)
    counts c.in_ok-take_back_withdrawal.ensures.ok
