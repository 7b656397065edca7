use Rattle.std.proofs.Common.{refl}
use Rattle.thes_office.proofs.OfficeViewLemmas.{ready_core}
use Rattle.thes_office.proofs.office.Office.ready.Goals as goal

pub returns : goal.returns
returns g c = (
  (
    refl,
    λ office. tt,
    ready_core g.K.Keeper.view c.args.self.now c.self.inside.keeper
        c.self.inside.core c.self.inside.limits c.self.inside.stale c.refresh.new.self _ c.self.invariant
        c.self.view_is c.in_ok-refresh.ensures refl,
  ),
  record { after = tt },
)
