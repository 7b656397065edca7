use Rattle.thes_vocab.specs.NameIndex.{name_digest}
use Rattle.thes_vocab.proofs.NameLemmas.{kept_by_insert}
use Rattle.thes_vocab.proofs.names.Names.put_in.Goals as goal

pub returns-clause-keeps : goal.returns-clause-keeps
returns-clause-keeps c s n t x had = kept_by_insert c.args.self.now.entries c.insert.new.self _ (name_digest s t x, n)
    c.in_ok-insert.ensures.updates had
