use Rattle.std.proofs.Common.{rules, ◌≡◌, ◌∙◌, sym, subst, ℕ, List, true, arith}
use Rattle.std.specs.Prelude.{Some}
use Rattle.thes_base.specs.declared.data.Resource.{Resource}
use Rattle.thes_base.specs.Resources.{IsScheme, entry_at, is_scheme_kind}
use Rattle.thes_base.specs.Legal.{AreLegalLabels}
use Rattle.thes_vocab.specs.Vocabulary.{Vocabulary}
use Rattle.thes_vocab.proofs.LabelCheckLemmas.{row_taken, row_free, holder_taken, no_holder}
use Rattle.thes_vocab.proofs.vocab.Vocab.check_concept.Goals as goal

-- If the resource that the look-up returns is a scheme, the number is a scheme's.
scheme_is : (seen v : Vocabulary) (scheme : ℕ) (resources : List Resource) (r : Resource) → seen ≡ v → resources
    ≡ seen.resources
    → Some r ≡ entry_at resources scheme → is_scheme_kind r.kind ≡ true → IsScheme v.resources scheme
scheme_is seen v scheme resources r is value found kind = grind (arith)

pub returns-then-is_some : goal.returns-then-is_some
returns-then-is_some c =
    let v = c.args.self.now in
    let legal = subst (λ (v : Vocabulary). AreLegalLabels v.resources v.labels) c.self.view_is c.self.invariant.named in
    let is = scheme_is _ v c.args.scheme _ c.in-Some.resource.now c.self.view_is c.as_slice.ensures.value
    c.in-Some.ensures (search rules) in
    row_taken v.resources v.labels legal c.args.scheme c.args.tag.now c.args.text.now is
    (holder_taken v.resources v.labels c.args.scheme c.args.tag.now c.args.text.now c.holder.result c.holder.ensures
    (sym c.is_some.ensures ∙ c.if-is_some.true))

pub returns : goal.returns
returns c =
    let v = c.args.self.now in
    let legal = subst (λ (v : Vocabulary). AreLegalLabels v.resources v.labels) c.self.view_is c.self.invariant.named in
    let is = scheme_is _ v c.args.scheme _ c.in-Some.resource.now c.self.view_is c.as_slice.ensures.value
    c.in-Some.ensures (search rules) in
    row_free v.resources v.labels legal c.args.scheme c.args.tag.now c.args.text.now is
    (no_holder v.resources v.labels c.args.scheme c.args.tag.now c.args.text.now c.holder.result c.holder.ensures
    (sym c.is_some.ensures ∙ c.if-is_some.false))
