use Rattle.std.proofs.Common.{◌∙◌, List, sym, subst, true≢false}
use Rattle.thes_base.specs.declared.data.Resource.{Resource}
use Rattle.thes_base.specs.Labels.{EachHasPreferred}
use Rattle.thes_vocab.specs.Vocabulary.{Vocabulary}
use Rattle.thes_vocab.specs.Loading.{HaveIris}
use Rattle.thes_vocab.proofs.LoadingLemmas.{loading_kept}
use Rattle.thes_vocab.proofs.load.VocabLoad.close.Goals as goal

pub invariant_of-result : goal.invariant_of-result
invariant_of-result c =
    let inside = c.self.inside in
    let named = subst (λ (rs : List Resource). EachHasPreferred rs inside.labels) c.as_slice.ensures.value
    (c.are_named.ensures.0 c.if-are_named.true) in
    loading_kept inside.base inside.resources.items inside.iris inside.labels inside.names inside.names
    inside.concepts c.self.invariant (subst HaveIris (sym c.self.view_is) c.requires) named

pub returns-then-are_named : goal.returns-then-are_named
returns-then-are_named c =
    let inside = c.self.inside in
    let named = subst (λ (rs : List Resource). EachHasPreferred rs inside.labels) c.as_slice.ensures.value
    (c.are_named.ensures.0 c.if-are_named.true) in
    (subst (λ (v : Vocabulary). EachHasPreferred v.resources v.labels) c.self.view_is named, c.self.view_is)

pub returns-else-are_named : goal.returns-else-are_named
returns-else-are_named c = λ named.
    let inside = c.self.inside in
    let here = subst (λ (v : Vocabulary). EachHasPreferred v.resources v.labels) (sym c.self.view_is) named in
    let at = subst (λ (rs : List Resource). EachHasPreferred rs inside.labels) (sym c.as_slice.ensures.value) here in
    true≢false (sym (c.are_named.ensures.1 at) ∙ c.if-are_named.false)
