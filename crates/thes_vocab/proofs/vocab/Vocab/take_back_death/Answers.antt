use Rattle.std.proofs.Common.{◌∙◌, ◌-◌, sym, ap, subst, List, get_or, set, true}
use Rattle.std.specs.Prelude.{None}
use Rattle.thes_base.specs.declared.data.Resource.{Resource}
use Rattle.thes_vocab.specs.Consistency.{IsConsistentVocabulary}
use Rattle.thes_vocab.specs.Vocabulary.{vocabulary_from}
use Rattle.thes_vocab.proofs.ConsistencyLemmas.{kept_more, kept_same, numbered_at}
use Rattle.thes_vocab.proofs.DeathUndoLemmas.{dead_at_number, kept_before_death, vocabulary_before_death}
use Rattle.thes_vocab.proofs.vocab.Vocab.take_back_death.Goals as goal

pub invariant_of-self-in_err-put_all : goal.invariant_of-self-in_err-put_all
invariant_of-self-in_err-put_all c =
    let inside = c.self.inside in
    kept_more inside.base inside.resources.items inside.iris inside.labels inside.names c.put_all.new.self
    c.make_room.new.concepts
    (kept_same inside.base inside.resources.items inside.iris inside.labels inside.names inside.concepts
    c.make_room.new.concepts c.self.invariant c.make_room.ensures.same) c.put_all.ensures.keeps

pub invariant_of-self-2 : goal.invariant_of-self-2
invariant_of-self-2 c =
    let inside = c.self.inside in
    let rs = inside.resources.items in
    let dead = c.index-dead.result.now in
    let there = dead_at_number c.args.n c.requires.1 c.requires.0 c.args.self.now c.requires.2 inside.base rs
    inside.iris inside.labels c.self.view_is in
    let read = numbered_at rs c.args.n dead _ there (c.index-dead.ensures ∙ ap (λ k. get_or rs (k - 1) dead)
    c.get.ensures.value) in
    let revived = c.new-concept.ensures
    ∙ ap (λ (x : Resource). record { kind = x.kind; scheme = x.scheme; live = true; replaced = None })
    c.dead.view_is in
    subst (λ (x : List Resource). IsConsistentVocabulary inside.base x inside.iris inside.labels c.put_all.new.self
    c.insert.new.concepts) (λ i. set rs (sym c.get.ensures.value i - 1) c.new-concept.result)
    (kept_before_death c.args.n c.requires.1 c.requires.0 c.args.self.now c.requires.2 inside.base rs inside.iris
    inside.labels c.self.view_is dead c.new-concept.result read revived inside.names c.put_all.new.self inside.concepts
    c.make_room.new.concepts c.insert.new.concepts c.of_owner-own.result.now c.self.invariant c.of_owner-own.ensures
    c.put_all.ensures.keeps c.in_ok-put_all.ensures.ok c.make_room.ensures.same c.insert.ensures)

pub returns-clause-ok : goal.returns-clause-ok
returns-clause-ok c = λ before replaced was.
    let inside = c.self.inside in
    let rs = inside.resources.items in
    let dead = c.index-dead.result.now in
    let there = dead_at_number c.args.n replaced before c.args.self.now was inside.base rs inside.iris inside.labels
    c.self.view_is in
    let read = numbered_at rs c.args.n dead _ there (c.index-dead.ensures ∙ ap (λ k. get_or rs (k - 1) dead)
    c.get.ensures.value) in
    let revived = c.new-concept.ensures
    ∙ ap (λ (x : Resource). record { kind = x.kind; scheme = x.scheme; live = true; replaced = None })
    c.dead.view_is in
    ap (λ (x : List Resource). vocabulary_from inside.base x inside.iris inside.labels)
    (λ i. set rs (c.get.ensures.value i - 1) c.new-concept.result)
    ∙ vocabulary_before_death c.args.n replaced before c.args.self.now was inside.base rs inside.iris inside.labels
    c.self.view_is dead c.new-concept.result read revived
