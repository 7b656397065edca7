use Rattle.thes_core.proofs.TakingBackLemmas.{parts_before_unlink, unlinked_ends}
use Rattle.thes_core.proofs.thesaurus.Thesaurus.take_back_unlink.Goals as goal

pub add-requires : goal.add-requires
add-requires c = unlinked_ends c.args.self.now c.args.kind c.args.a c.args.b c.requires.0 c.requires.1

pub returns-clause-parts : goal.returns-clause-parts
returns-clause-parts c = λ s is. parts_before_unlink c.args.self.now c.args.kind c.args.a c.args.b s is
    c.add.new.self c.in_ok-add.ensures.ok
