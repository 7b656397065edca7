use Rattle.std.proofs.Common.{sym, ap, subst, ℕ, List, arith}
use Rattle.thes_base.specs.Resources.{Iris}
use Rattle.thes_vocab.specs.IriIndex.{iris_in, AreInverse}
use Rattle.thes_vocab.proofs.IriLemmas.{iris_after_insert, inverse_after_insert, inverse_after_undo}
use Rattle.thes_vocab.proofs.iris.IriTable.insert.Goals as goal

pub invariant_of-self-in-Ok : goal.invariant_of-self-in-Ok
invariant_of-self-in-Ok c =
    let old = c.self.inside in
    subst (λ (x : Iris). AreInverse x c.insert.new.self)
    (sym (iris_after_insert old.iris c.insert-2.new.self c.args.n c.args.iri c.in-Ok.ensures.updates))
    (inverse_after_insert (iris_in old.iris.entries) _ c.self.view_is old.numbers c.insert.new.self c.args.n c.args.iri
    c.in_ok-copy.copy c.self.invariant c.requires.iri c.in_ok-copy.ensures c.in_ok-insert.ensures.updates
    c.requires.number)

pub returns-in-Ok-clause-ok : goal.returns-in-Ok-clause-ok
returns-in-Ok-clause-ok c = grind (arith, iris_after_insert)

pub invariant_of-self-in-Err : goal.invariant_of-self-in-Err
invariant_of-self-in-Err c =
    let old = c.self.inside in
    subst (λ (x : Iris). AreInverse x c.remove.new.self) (ap iris_in (sym c.in-Err.ensures.err))
    (inverse_after_undo (iris_in old.iris.entries) _ c.self.view_is old.numbers c.insert.new.self c.args.n c.args.iri
    c.in_ok-copy.copy c.self.invariant c.requires.iri c.in_ok-copy.ensures c.in_ok-insert.ensures.updates
    c.remove.new.self _ (ap (λ (p : ℕ × List ℕ). p.1) c.in-Err.ensures.value_returned) c.remove.ensures.updates)
