use Rattle.std.proofs.Common.{◌≡◌, ◌∙◌, ℕ, sym, ap, subst, true≢false, arith, IsTrue, false}
use Rattle.std.specs.Prelude.{Some, None}
use Rattle.std.specs.Option.{option_copied}
use Rattle.thes_base.specs.Resources.{IsOutside}
use Rattle.thes_base.proofs.NumberedLemmas.{numbered_bound}
use Rattle.thes_vocab.specs.Loading.{HasIri}
use Rattle.thes_vocab.proofs.LoadingLemmas.{next_of}
use Rattle.thes_vocab.proofs.load.have_iris.Goals as goal
use Rattle.thes_vocab.proofs.load.have_iris.Goals.{then-is_outside+in-Some, else-is_outside}

pub returns-in-None : goal.returns-in-None
returns-in-None c = (
  λ (t : IsTrue false). let e : ⊥ = cc in absurd e,
  λ all.
      let has = all c.new-n.result (c.is_outside.ensures.outside.0 c.if-is_outside.true) in
      let e : None ≡ Some has.0 = sym (ap option_copied c.in-None.is) ∙ c.iri.ensures ∙ has.1 in
      absurd (cc),
)

pub loop-i-preserved : goal.loop-i-preserved
loop-i-preserved c =
    let P = λ (n : ℕ). IsOutside c.args.resources.now n → HasIri c.args.iris.now n in
    next_of P c.loop-i.i c.loop-i.invariant
    (subst P c.new-n.ensures (elim c.if-is_outside.branch [
      | then-is_outside+in-Some w ↦ λ can. (w.in-Some.field-0.now, sym w.iri.ensures ∙ ap option_copied w.in-Some.is)
      | else-is_outside w ↦ λ can. absurd (true≢false (sym (c.is_outside.ensures.outside.1 can)
          ∙ w.if-is_outside.false))
    ]))

pub returns : goal.returns
returns c = grind (arith, numbered_bound)
