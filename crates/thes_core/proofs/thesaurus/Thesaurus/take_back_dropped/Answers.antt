use Rattle.thes_core.proofs.TakingBackLemmas.{dropped_addable, dropped_owner, parts_before_dropped}
use Rattle.thes_core.proofs.thesaurus.Thesaurus.take_back_dropped.Goals as goal

pub add_label-requires-clause-owner : goal.add_label-requires-clause-owner
add_label-requires-clause-owner c =
    dropped_owner c.args.self.now c.args.owner c.args.label.now c.requires.0 c.requires.1

pub add_label-requires-clause-allowed : goal.add_label-requires-clause-allowed
add_label-requires-clause-allowed c =
    dropped_addable c.args.self.now c.args.owner c.args.label.now c.requires.0 c.requires.1

pub returns-clause-parts : goal.returns-clause-parts
returns-clause-parts c = λ s is. parts_before_dropped c.args.self.now c.args.owner c.args.label.now s is
    c.add_label.new.self c.in_ok-add_label.ensures.ok
