use Rattle.std.proofs.Common.{◌∙◌, List, sym, ap, subst, arith}
use Rattle.std.specs.FinSet as set
use Rattle.thes_base.specs.declared.data.Resource.{Resource}
use Rattle.thes_base.specs.Labels.{Labels}
use Rattle.thes_base.specs.Machine.{owned_label}
use Rattle.thes_vocab.specs.Vocabulary.{Vocabulary, vocabulary_from, with_labels}
use Rattle.thes_vocab.specs.Loading.{IsLoading, IsFreeLabel, MayLoadLabel}
use Rattle.thes_vocab.proofs.ConsistencyLemmas.{IsSchemeOf}
use Rattle.thes_vocab.proofs.LoadingLemmas.{loading_more, loading_label, fits_free, free_fits}
use Rattle.thes_vocab.proofs.load.VocabLoad.take_label.Goals as goal

pub invariant_of-self-in_err-insert : goal.invariant_of-self-in_err-insert
invariant_of-self-in_err-insert c = grind (arith, loading_more)

pub invariant_of-self-then-is_free_label : goal.invariant_of-self-then-is_free_label
invariant_of-self-then-is_free_label c =
    let inside = c.self.inside in
    let l = owned_label c.args.owner c.args.label in
    let free = subst (λ (rs : List Resource). IsFreeLabel rs inside.labels l) c.as_slice.ensures.value
    (c.is_free_label.ensures.0 c.if-is_free_label.true) in
    let fits = fits_free (vocabulary_from inside.base inside.resources.items inside.iris inside.labels) l
    c.self.invariant.labels_so_far free in
    let at = subst (λ (rs : List Resource). IsSchemeOf rs c.args.owner c.concept_scheme-scheme.result)
    c.as_slice-then-is_free_label.ensures.value c.concept_scheme-scheme.ensures in
    subst (λ (ls : Labels). IsLoading inside.base inside.resources.items inside.iris ls c.put_label.new.self
    inside.concepts) (sym c.in_ok-insert.ensures.ok)
    (loading_label inside.base inside.resources.items inside.iris inside.labels inside.names c.put_label.new.self
    inside.concepts c.self.invariant c.args.owner c.args.label c.put_label.ensures.keeps
    c.concept_scheme-scheme.result at c.in_ok-put_label.ensures.ok fits)

pub returns-in_ok-insert : goal.returns-in_ok-insert
returns-in_ok-insert c =
    let inside = c.self.inside in
    let l = owned_label c.args.owner c.args.label in
    let free = subst (λ (rs : List Resource). IsFreeLabel rs inside.labels l) c.as_slice.ensures.value
    (c.is_free_label.ensures.0 c.if-is_free_label.true) in
    let fits = fits_free (vocabulary_from inside.base inside.resources.items inside.iris inside.labels) l
    c.self.invariant.labels_so_far free in (
      subst (λ (v : Vocabulary). MayLoadLabel v l) c.self.view_is fits,
      ap (λ (ls : Labels). vocabulary_from inside.base inside.resources.items inside.iris ls) c.in_ok-insert.ensures.ok
          ∙ ap (λ (v : Vocabulary). with_labels v (set.insert v.labels l)) c.self.view_is,
    )

pub returns-else-is_free_label : goal.returns-else-is_free_label
returns-else-is_free_label c = grind (arith, free_fits)
