use Rattle.std.proofs.Common.{◌∙◌, IsTrue, false, refl, sym, subst, true≢false}
use Rattle.thes_load_rows.specs.ResourceChecks.{HasReplacementCycle}
use Rattle.thes_load_rows.proofs.ReplacementLemmas.{apart_of, legal_all, fits_legal}
use Rattle.thes_load_rows.proofs.resources.are_legal.Goals as goal

pub has_replacement_cycle-requires-clause-apart : goal.has_replacement_cycle-requires-clause-apart
has_replacement_cycle-requires-clause-apart c =
    apart_of c.args.resources.now (c.each_fits.ensures.0 c.if-each_fits.true)

pub returns-then-branch : goal.returns-then-branch
returns-then-branch c = (
  λ (t : IsTrue false). let e : ⊥ = cc in absurd e,
  λ legal. let found = subst (HasReplacementCycle c.args.resources.now) c.if-branch.true
      c.in_ok-has_replacement_cycle.ensures in
      absurd (legal.no_return found.0 found.1),
)

pub returns-else-branch : goal.returns-else-branch
returns-else-branch c = (
  λ t. legal_all c.args.resources.now c.requires (c.each_fits.ensures.0 c.if-each_fits.true)
      (subst (HasReplacementCycle c.args.resources.now) c.if-branch.false c.in_ok-has_replacement_cycle.ensures),
  λ legal. refl,
)

pub returns-else-each_fits : goal.returns-else-each_fits
returns-else-each_fits c = (
  λ (t : IsTrue false). let e : ⊥ = cc in absurd e,
  λ legal. absurd (true≢false (sym (c.each_fits.ensures.1 (fits_legal c.args.resources.now legal.each))
      ∙ c.if-each_fits.false)),
)
