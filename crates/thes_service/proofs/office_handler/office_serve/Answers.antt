use Rattle.std.proofs.Common.{ℕ, List, subst}
use Rattle.thes_base.specs.Headline.{IsConsistentState}
use Rattle.thes_base.specs.State.{State}
use Rattle.thes_office.specs.Office.{OfficeView}
use Rattle.thes_office.specs.TablesOfState.{TablesOfState}
use Rattle.thes_service.proofs.ConnectionRunLemmas.{connections_lead}
use Rattle.thes_service.proofs.office_handler.office_serve.Goals as goal

pub returns-clause-reached : goal.returns-clause-reached
returns-clause-reached g c =
    connections_lead g.K.Keeper.view g.M.PlanMode.takes c.serve.result.connections.exchanges
    c.args.handler.now c.serve.new.service
    (subst (λ (d : OfficeView _). (g.K.Keeper.view d.keeper).is_up → (base : List ℕ) × (s : State)
    × TablesOfState (g.K.Keeper.view d.keeper).rows base s × IsConsistentState base s) c.handler.view_is
    c.is_stale.ensures.shows)
    c.serve.ensures.leads
