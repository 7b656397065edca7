use Rattle.thes_core.proofs.TakingBackLemmas.{added_droppable, added_owner, parts_before_added}
use Rattle.thes_core.proofs.thesaurus.Thesaurus.take_back_added.Goals as goal

pub drop_label-requires-clause-owner : goal.drop_label-requires-clause-owner
drop_label-requires-clause-owner c =
    added_owner c.args.self.now c.args.owner c.args.label.now c.requires.0 c.requires.1

pub drop_label-requires-clause-allowed : goal.drop_label-requires-clause-allowed
drop_label-requires-clause-allowed c =
    added_droppable c.args.self.now c.args.owner c.args.label.now c.requires.0 c.requires.1

pub returns-clause-parts : goal.returns-clause-parts
returns-clause-parts c = λ s is. parts_before_added c.args.self.now c.args.owner c.args.label.now s is
    c.drop_label.new.self c.drop_label.ensures
