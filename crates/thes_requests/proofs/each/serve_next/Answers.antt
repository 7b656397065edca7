use Rattle.std.proofs.Common.{refl}
use Rattle.thes_requests.proofs.ElementLemmas.{element_kept}
use Rattle.thes_requests.proofs.each.serve_next.Goals as goal

pub returns : goal.returns
returns g c =
    element_kept g.D.RequestHandler.requests _ _ _ c.report_element-answer.result _ _ _ _ _ _
    c.report_element-answer.ensures refl refl refl refl c.keep.ensures
