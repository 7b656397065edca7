use Rattle.std.proofs.Common.{ap, Ok}
use Rattle.thes_requests.specs.declared.request.Request.TheVariants.{Do, Get}
use Rattle.thes_requests.proofs.ElementLemmas.{command_element, query_element}
use Rattle.thes_requests.proofs.each.report_element.Goals as goal

pub returns-in-Ok-Do : goal.returns-in-Ok-Do
returns-in-Ok-Do g c =
    command_element g.D.RequestHandler.requests _ _ _ c.in-Ok-Do.command _ _ _
    (c.in-Ok-Do.ensures.value (Do c.in-Ok-Do.command) (ap Ok c.in-Ok-Do.field-0-is)) c.report_command.ensures

pub returns-in-Ok-Get : goal.returns-in-Ok-Get
returns-in-Ok-Get g c =
    query_element g.D.RequestHandler.requests _ _ _ c.in-Ok-Get.query _ _ c.show.result
    (c.in-Ok-Get.ensures.value (Get c.in-Ok-Get.query) (ap Ok c.in-Ok-Get.field-0-is)) c.show.ensures
    c.for_query.ensures
