use Rattle.std.proofs.Common.{◌≡◌, ◌≢◌, ◌⊎◌, ◌≤◌, ◌+◌, ◌∙◌, ℕ, inl, inr, refl, sym, ap, subst, arith}
use Rattle.std.specs.Prelude.{Some, None}
use Rattle.thes_base.specs.declared.data.Resource.{Resource}
use Rattle.thes_base.specs.Resources.{entry_at}
use Rattle.thes_base.proofs.NumberedLemmas.{numbered_bound}
use Rattle.std.proofs.lemmas.Option.{same_Some}
use Rattle.std.proofs.lemmas.Bool.{cases_eq}
use Rattle.thes_load_rows.specs.ResourceChecks.{ResourceFits}
use Rattle.thes_load_rows.proofs.resources.each_fits.Goals.{in-Some+then-fits, in_default}
use Rattle.thes_load_rows.proofs.resources.each_fits.Goals as goal

pub loop-i-preserved : goal.loop-i-preserved
loop-i-preserved c = λ n r le e. elim c.match-copied.branch [
  | in-Some+then-fits w ↦ either n r le e (λ at. subst (ResourceFits c.args.resources.now n)
      (same_Some _ _ (sym w.in-Some.is ∙ c.copied.ensures ∙ c.resource_at.ensures
      ∙ ap (entry_at c.args.resources.now) (c.new-n.ensures ∙ sym at) ∙ e))
      (subst (λ k. ResourceFits c.args.resources.now k w.in-Some.resource) (c.new-n.ensures ∙ sym at)
      (w.fits.ensures.0 w.if-fits.true))) (cases_eq n (c.loop-i.i + 1))
  | in_default w ↦ either n r le e (λ at. let f : None ≡ Some r = sym w.in_default.is ∙ c.copied.ensures
      ∙ c.resource_at.ensures ∙ ap (entry_at c.args.resources.now) (c.new-n.ensures ∙ sym at) ∙ e in absurd (cc))
      (cases_eq n (c.loop-i.i + 1))
]
  where
    either : (n : ℕ) (r : Resource) → n ≤ c.loop-i.i + 1 → entry_at c.args.resources.now n ≡ Some r
        → (n ≡ c.loop-i.i + 1 → ResourceFits c.args.resources.now n r) → (n ≡ c.loop-i.i + 1) ⊎ (n ≢ c.loop-i.i + 1)
        → ResourceFits c.args.resources.now n r
    either n r le e here (inl at) = here at
    either n r le e here (inr differ) = c.loop-i.invariant n r (omega (arith, le, differ)) e

pub returns : goal.returns
returns c = (
  λ t n r e. c.loop-i.invariant n r (let b = (numbered_bound c.args.resources.now n r e).1 in omega (arith, b)) e,
  λ each. refl,
)
