use Rattle.std.proofs.Common.{◌∙◌, ◌-◌, sym, ap, subst, List, get_or, set}
use Rattle.thes_base.specs.declared.data.Resource.{Resource}
use Rattle.thes_base.specs.Resources.{IsLiveConcept}
use Rattle.thes_base.specs.Changes.{resource_after_death}
use Rattle.thes_base.proofs.ResourceLemmas.{marked_dead_at}
use Rattle.thes_vocab.specs.Vocabulary.{Vocabulary, vocabulary_from, IsReplacement, vocabulary_after_death}
use Rattle.thes_vocab.specs.ConceptLists.{ConceptListsAfterRemove}
use Rattle.thes_vocab.specs.Consistency.{IsConsistentVocabulary}
use Rattle.thes_vocab.proofs.ConsistencyLemmas.{kept_dead, numbered_at}
use Rattle.thes_vocab.proofs.vocab.Vocab.mark_dead.Goals as goal

pub invariant_of-self : goal.invariant_of-self
invariant_of-self c =
    let inside = c.self.inside in
    let rs = inside.resources.items in
    let r = c.index-resource.result.now in
    let live = subst (λ (v : Vocabulary). IsLiveConcept v.resources c.args.n) (sym c.self.view_is) c.requires.concept in
    let fit = subst (λ (v : Vocabulary). IsReplacement v.resources c.args.n c.args.replaced) (sym c.self.view_is)
    c.requires.replacement in
    let at = numbered_at rs c.args.n r live.0 live.1 (c.index-resource.ensures ∙ ap (λ k. get_or rs (k - 1) r)
    c.get.ensures.value) in
    let new = ap (resource_after_death c.args.replaced) c.resource.view_is in
    let removed = subst (λ (x : Resource). ConceptListsAfterRemove inside.concepts c.remove.new.concepts x.scheme
    c.args.n) c.resource.view_is c.remove.ensures in
    subst (λ (x : List Resource). IsConsistentVocabulary inside.base x inside.iris inside.labels inside.names
    c.remove.new.concepts) (λ i. set rs (sym c.get.ensures.value i - 1) (sym new i))
    (kept_dead inside.base rs inside.iris inside.labels inside.names inside.concepts c.remove.new.concepts c.args.n
    c.args.replaced r c.self.invariant at live fit removed)

pub returns : goal.returns
returns c =
    let inside = c.self.inside in
    let rs = inside.resources.items in
    let r = c.index-resource.result.now in
    let live = subst (λ (v : Vocabulary). IsLiveConcept v.resources c.args.n) (sym c.self.view_is) c.requires.concept in
    let at = numbered_at rs c.args.n r live.0 live.1 (c.index-resource.ensures ∙ ap (λ k. get_or rs (k - 1) r)
    c.get.ensures.value) in
    let new = ap (resource_after_death c.args.replaced) c.resource.view_is in
    let list = (λ i. set rs (c.get.ensures.value i - 1) (new i))
    ∙ sym (marked_dead_at rs c.args.n c.args.replaced r at) in
    ap (λ (x : List Resource). vocabulary_from inside.base x inside.iris inside.labels) list
    ∙ ap (λ (v : Vocabulary). vocabulary_after_death v c.args.n c.args.replaced) c.self.view_is
