use Rattle.std.proofs.Common.{rules, ◌≡◌, ◌+◌, ◌∙◌, ap, length}
use Rattle.std.specs.FinSet as set
use Rattle.thes_base.specs.declared.data.LabelKind.TheVariants.{Pref}
use Rattle.thes_base.specs.Changes.{label}
use Rattle.thes_vocab.proofs.TakingBackLemmas.{kept_before, vocabulary_is_before}
use Rattle.thes_vocab.proofs.vocab.Vocab.take_back_named.Goals as goal

pub invariant_of-self-2 : goal.invariant_of-self-2
invariant_of-self-2 c =
    let inside = c.self.inside in
    let next : c.new-n.result ≡ length c.pop.new.self.items + 1 = search rules in
    let removed = c.remove-2.ensures
    ∙ ap (λ x. set.remove inside.labels (label c.new-n.result Pref c.args.tag.now x)) c.as_str.ensures.text in
    kept_before c.args.tag.now c.args.text.now c.requires.0 c.args.self.now c.requires.1 inside.base
    inside.resources.items c.pop.new.self.items c.in-Some.resource inside.iris inside.labels c.remove-2.new.self
    c.self.view_is c.in-Some.ensures.items c.new-n.result next removed inside.names c.forget.new.self inside.concepts
    c.remove.new.concepts c.scheme_if_concept-scheme.result c.scheme_if_concept-scheme-2.result
    c.of_owner-own.result.now c.self.invariant c.scheme_if_concept-scheme.ensures.scheme c.remove.ensures
    c.forget.ensures

pub returns : goal.returns
returns c =
    let inside = c.self.inside in
    let next : c.new-n.result ≡ length c.pop.new.self.items + 1 = search rules in
    let removed = c.remove-2.ensures
    ∙ ap (λ x. set.remove inside.labels (label c.new-n.result Pref c.args.tag.now x)) c.as_str.ensures.text in
    λ before was. vocabulary_is_before c.args.tag.now c.args.text.now before c.args.self.now was inside.base
    inside.resources.items c.pop.new.self.items c.in-Some.resource inside.iris inside.labels
    c.remove-2.new.self c.self.view_is c.in-Some.ensures.items c.new-n.result next removed
