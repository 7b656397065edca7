use Rattle.std.proofs.Common.{◌∙◌, ap, subst, sym}
use Rattle.std.specs.Prelude.{None}
use Rattle.std.specs.FinMap as dict
use Rattle.thes_base.specs.Resources.{Iris}
use Rattle.thes_vocab.specs.IriIndex.{iris_in, AreInverse}
use Rattle.thes_vocab.proofs.IriLemmas.{iris_after_remove, inverse_after_remove, number_updated}
use Rattle.thes_vocab.proofs.iris.IriTable.remove.Goals as goal

pub invariant_of-self : goal.invariant_of-self
invariant_of-self c =
    let old = c.self.inside in
    subst (λ (x : Iris). AreInverse x c.remove-2.new.self)
    (sym (iris_after_remove old.iris c.remove.new.self c.args.n c.remove.ensures.updates))
    (inverse_after_remove (iris_in old.iris.entries) old.numbers c.remove-2.new.self c.args.n c.args.iri.now
    c.self.invariant (ap (λ (x : Iris). dict.get x c.args.n) c.self.view_is ∙ c.requires)
    (number_updated old.numbers c.remove-2.new.self c.args.iri.now None c.remove-2.ensures.updates))

pub returns : goal.returns
returns c =
    iris_after_remove c.self.inside.iris c.remove.new.self c.args.n c.remove.ensures.updates
    ∙ ap (λ (x : Iris). dict.remove x c.args.n) c.self.view_is
