use Rattle.thes_core.proofs.TakingBackLemmas.{parts_before_link}
use Rattle.thes_core.proofs.thesaurus.Thesaurus.take_back_link.Goals as goal

pub returns-clause-parts : goal.returns-clause-parts
returns-clause-parts c = λ s is. parts_before_link c.args.self.now c.args.kind c.args.a c.args.b s is
    c.remove.new.self c.remove.ensures
