use Rattle.std.proofs.Common.{◌≡◌, ◌≤◌, ℕ}
use Rattle.std.specs.Prelude.{Some}
use Rattle.thes_base.specs.declared.data.Resource.{Resource}
use Rattle.thes_base.specs.Resources.{entry_at}
use Rattle.thes_load_rows.specs.ResourceChecks.{ResourceFits}
use Rattle.thes_load_rows.proofs.resources.each_fits.Given as goal

-- The resources checked so far may have their schemes, live flags and replacements.
abbrev pub invariant-loop-i : goal.invariant-loop-i
invariant-loop-i l = (n : ℕ) (r : Resource) → n ≤ l.i → entry_at l.resources n ≡ Some r → ResourceFits l.resources n r
