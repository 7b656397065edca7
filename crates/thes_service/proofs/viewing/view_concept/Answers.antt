use Rattle.thes_service.proofs.StateViewLemmas.{concept_ready}
use Rattle.thes_service.proofs.viewing.view_concept.Goals as goal

pub returns : goal.returns
returns g c =
    concept_ready g.K.Keeper.view c.args.office.now c.ready.follows.lender-at-none
    c.ready.result c.in_ok-core.core c.args.number c.in_ok-view_core_concept.field-0
    c.ready.follows.holds-at-none c.in_ok-core.was c.in_ok-view_core_concept.ensures
