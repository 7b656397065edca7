use Rattle.std.proofs.Common.{sym, subst}
use Rattle.std.specs.Prelude.{None}
use Rattle.thes_base.specs.declared.data.Resource.{Resource}
use Rattle.thes_base.specs.declared.data.NewResource.{NewResource}
use Rattle.thes_base.specs.RefusalRules.{accepted}
use Rattle.thes_vocab.specs.NewResources.{unless_new, IsFreeName}
use Rattle.thes_vocab.proofs.ConsistencyLemmas.{free_concept}
use Rattle.thes_vocab.proofs.vocab.Vocab.add_resource.Goals as goal

pub add_named-requires-in-Concept-clause-free : goal.add_named-requires-in-Concept-clause-free
add_named-requires-in-Concept-clause-free c =
    let v = c.args.self.now in
    let row = subst (λ (new : NewResource). unless_new v new accepted None) c.in-Concept.is c.requires.allowed in
    subst (λ (r : Resource). IsFreeName v.resources v.labels r c.in-Concept.tag c.in-Concept.text)
    (sym c.new-in-Concept.ensures) (free_concept v.resources v.labels c.in-Concept.scheme c.in-Concept.tag
    c.in-Concept.text row)
