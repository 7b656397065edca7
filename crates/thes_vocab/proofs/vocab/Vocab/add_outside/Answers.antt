use Rattle.std.proofs.Common.{arith}
use Rattle.std.proofs.Common.{rules, ◌≡◌, ◌≢◌, ◌∙◌, ◌+◌, ◌<◌, ◌^◌, ◌++◌, ◌∷◌, [], length, sym, ap, subst, List, ℕ}
use Rattle.std.specs.Prelude.{Some}
use Rattle.std.specs.FinMap as dict
use Rattle.thes_base.specs.declared.data.Resource.{Resource}
use Rattle.thes_base.specs.Resources.{Iris, BeginsWith}
use Rattle.thes_base.specs.Changes.{outside_resource}
use Rattle.thes_vocab.specs.Vocabulary.{Vocabulary}
use Rattle.thes_vocab.specs.Consistency.{IsConsistentVocabulary}
use Rattle.thes_vocab.proofs.ConsistencyLemmas.{kept_outside, no_iri}
use Rattle.thes_vocab.proofs.vocab.Vocab.add_outside.Goals as goal

pub insert-requires-clause-number : goal.insert-requires-clause-number
insert-requires-clause-number c = grind (arith, no_iri)

pub invariant_of-self-2 : goal.invariant_of-self-2
invariant_of-self-2 c =
    let inside = c.self.inside in
    let rs = inside.resources.items in
    let few = subst (λ (v : Vocabulary). length v.resources + 1 < 2 ^ 32) (sym c.self.view_is) c.requires.room in
    let foreign = subst (λ (v : Vocabulary). BeginsWith c.args.iri v.base → ⊥) (sym c.self.view_is)
    c.requires.foreign in
    let free = subst (λ (v : Vocabulary). (n : ℕ) → dict.get v.iris n ≢ Some c.args.iri) (sym c.self.view_is)
    c.requires.free in
    let kept = kept_outside inside.base rs inside.iris inside.labels inside.names inside.concepts c.args.iri
    c.self.invariant few foreign free in
    let n : c.new-n.result ≡ length rs + 1 = search rules in
    let items : c.push.new.self.items ≡ rs ++ outside_resource ∷ [] = search rules in
    let iris = c.in_ok-insert.ensures.ok ∙ ap (λ k. dict.insert inside.iris k c.args.iri) n in
    subst (λ (p : List Resource × Iris). IsConsistentVocabulary inside.base p.0 p.1 inside.labels inside.names
    inside.concepts) (λ i. (sym items i, sym iris i)) kept
