use Rattle.std.proofs.Common.{subst, ℕ, List}
use Rattle.thes_base.specs.Headline.{IsConsistentState}
use Rattle.thes_base.specs.State.{State}
use Rattle.thes_base.proofs.MachineLemmas.{legal_is_consistent}
use Rattle.thes_office.specs.Office.{OfficeView}
use Rattle.thes_office.specs.TablesOfState.{TablesOfState}
use Rattle.thes_office.proofs.office.Office.is_stale.Goals as goal

pub returns-clause-shows : goal.returns-clause-shows
returns-clause-shows g c =
    subst (λ (d : OfficeView _). (g.K.Keeper.view d.keeper).is_up → (base : List ℕ) × (s : State)
    × TablesOfState (g.K.Keeper.view d.keeper).rows base s × IsConsistentState base s) c.self.view_is
    (λ up. let x = c.self.invariant.shows up in (x.0, x.1, x.2, legal_is_consistent x.0 x.1 x.2.legal))
