use Rattle.std.proofs.Common.{List, sym, subst}
use Rattle.thes_base.specs.declared.data.Resource.{Resource}
use Rattle.thes_base.specs.Resources.{Iris}
use Rattle.thes_vocab.specs.Loading.{IsLoading, IsFreeIri}
use Rattle.thes_vocab.proofs.LoadingLemmas.{loading_iri}
use Rattle.thes_vocab.proofs.load.VocabLoad.take_iri.Goals as goal

pub invariant_of-self-then-is_free_iri : goal.invariant_of-self-then-is_free_iri
invariant_of-self-then-is_free_iri c =
    let inside = c.self.inside in
    let fits = subst (λ (rs : List Resource). IsFreeIri inside.base rs inside.iris c.args.n c.args.iri)
    c.as_slice.ensures.value (c.is_free_iri.ensures.0 c.if-is_free_iri.true) in
    subst (λ (iris : Iris). IsLoading inside.base inside.resources.items iris inside.labels inside.names
    inside.concepts) (sym c.in_ok-insert.ensures.ok)
    (loading_iri inside.base inside.resources.items inside.iris inside.labels inside.names inside.names
    inside.concepts c.self.invariant c.args.n c.args.iri fits)
