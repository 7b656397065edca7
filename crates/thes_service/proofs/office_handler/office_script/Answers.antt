use Rattle.std.proofs.Common.{ℕ, List, subst}
use Rattle.thes_base.specs.Headline.{IsConsistentState}
use Rattle.thes_base.specs.State.{State}
use Rattle.thes_office.specs.Office.{OfficeView}
use Rattle.thes_office.specs.TablesOfState.{TablesOfState}
use Rattle.thes_requests.specs.Script.{session}
use Rattle.thes_service.proofs.ScriptRunLemmas.{script_leads}
use Rattle.thes_service.proofs.office_handler.office_script.Goals as goal

pub returns-clause-reached : goal.returns-clause-reached
returns-clause-reached g c =
    script_leads g.K.Keeper.view g.M.PlanMode.takes g.R.Read.remaining g.W.Write.contents
    c.script.result
    (session c.args.reader.now c.args.writer.now c.args.handler.now) (session c.script.new.reader c.script.new.writer
    c.script.new.handler)
    (subst (λ (d : OfficeView _). (g.K.Keeper.view d.keeper).is_up → (base : List ℕ) × (s : State)
    × TablesOfState (g.K.Keeper.view d.keeper).rows base s × IsConsistentState base s) c.handler.view_is
    c.is_stale.ensures.shows)
    c.script.ensures.ends
