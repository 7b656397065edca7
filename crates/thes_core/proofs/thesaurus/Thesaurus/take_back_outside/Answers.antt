use Rattle.std.proofs.Common.{◌∙◌}
use Rattle.thes_vocab.specs.Vocabulary.{vocabulary_of}
use Rattle.thes_core.proofs.TakingBackLemmas.{outside_last, parts_before_outside, unlinked_outside}
use Rattle.thes_core.proofs.thesaurus.Thesaurus.take_back_outside.Goals as goal

pub take_back_outside-requires : goal.take_back_outside-requires
take_back_outside-requires c = (
  vocabulary_of c.args.self.now.vocab.base c.requires.0,
  outside_last c.args.self.now c.args.iri.now c.requires.0 c.requires.1,
)

pub unmark_outside-requires : goal.unmark_outside-requires
unmark_outside-requires c = unlinked_outside c.args.self.now c.args.iri.now c.requires.0 c.requires.1
    c.new-concept.result (c.new-concept.ensures ∙ c.resource_count.ensures.count)

pub returns-clause-parts : goal.returns-clause-parts
returns-clause-parts c = λ s is.
    let t = c.args.self.now in
    parts_before_outside t c.args.iri.now s is c.new-concept.result
    (c.new-concept.ensures ∙ c.resource_count.ensures.count) c.take_back_outside.new.self c.unmark_outside.new.self
    (c.take_back_outside.ensures (vocabulary_of t.vocab.base s) (outside_last t c.args.iri.now s is))
    c.unmark_outside.ensures
