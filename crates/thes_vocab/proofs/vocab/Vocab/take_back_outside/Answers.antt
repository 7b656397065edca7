use Rattle.std.proofs.Common.{rules, ◌≡◌, ◌+◌, length}
use Rattle.thes_vocab.proofs.OutsideUndoLemmas.{iri_of_last, kept_without_outside, vocabulary_without_outside}
use Rattle.thes_vocab.proofs.vocab.Vocab.take_back_outside.Goals as goal

pub remove-requires : goal.remove-requires
remove-requires c =
    let inside = c.self.inside in
    let next : c.new-n.result ≡ length c.pop.new.self.items + 1 = search rules in
    iri_of_last c.args.iri.now c.requires.0 c.args.self.now c.requires.1 inside.base inside.resources.items
    c.pop.new.self.items c.in-Some.field-0 inside.iris inside.labels c.self.view_is c.in-Some.ensures.items
    c.new-n.result next

pub invariant_of-self-2 : goal.invariant_of-self-2
invariant_of-self-2 c =
    let inside = c.self.inside in
    let next : c.new-n.result ≡ length c.pop.new.self.items + 1 = search rules in
    kept_without_outside c.args.iri.now c.requires.0 c.args.self.now c.requires.1 inside.base inside.resources.items
    c.pop.new.self.items c.in-Some.field-0 inside.iris inside.labels c.self.view_is c.in-Some.ensures.items
    c.new-n.result next c.remove.new.self c.remove.ensures inside.names inside.concepts c.self.invariant

pub returns : goal.returns
returns c =
    let inside = c.self.inside in
    let next : c.new-n.result ≡ length c.pop.new.self.items + 1 = search rules in
    λ before was. vocabulary_without_outside c.args.iri.now before c.args.self.now was inside.base
    inside.resources.items c.pop.new.self.items c.in-Some.field-0 inside.iris inside.labels c.self.view_is
    c.in-Some.ensures.items c.new-n.result next c.remove.new.self c.remove.ensures
