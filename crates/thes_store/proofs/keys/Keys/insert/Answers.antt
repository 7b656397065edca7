use Rattle.thes_store.proofs.KeyIndexLemmas.{kept_by_text}
use Rattle.thes_store.proofs.keys.Keys.insert.Goals as goal

pub returns-in_ok-insert-clause-keeps : goal.returns-in_ok-insert-clause-keeps
returns-in_ok-insert-clause-keeps c =
    kept_by_text c.args.self.now (record { numbers = c.insert_digest.new.numbers; rest = c.insert.new.self })
    c.args.key.now
    c.in_ok-try_clone.field-0 c.args.position c.insert_digest.ensures.keeps c.in_ok-try_clone.ensures
    c.in_ok-insert.ensures.updates
