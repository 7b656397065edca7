use Rattle.thes_vocab.specs.Vocabulary.{vocabulary_of}
use Rattle.thes_core.proofs.TakingBackLemmas.{created_last, parts_before_creation}
use Rattle.thes_core.proofs.thesaurus.Thesaurus.take_back_named.Goals as goal

pub take_back_named-requires : goal.take_back_named-requires
take_back_named-requires c = (
  vocabulary_of c.args.self.now.vocab.base c.requires.0,
  created_last c.args.self.now c.args.tag.now c.args.text.now c.requires.0 c.requires.1,
)

pub returns-clause-parts : goal.returns-clause-parts
returns-clause-parts c = λ s is.
    let t = c.args.self.now in
    parts_before_creation t c.args.tag.now c.args.text.now s is c.take_back_named.new.self
    (c.take_back_named.ensures (vocabulary_of t.vocab.base s) (created_last t c.args.tag.now c.args.text.now s is))
