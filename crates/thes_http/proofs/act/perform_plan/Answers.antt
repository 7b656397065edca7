use Rattle.thes_requests.specs.Requests.{json_in}
use Rattle.thes_http.proofs.PlanLemmas.{serves_as_service}
use Rattle.thes_http.proofs.act.perform_plan.Goals as goal

pub returns : goal.returns
returns g c = (
  c.serve_plan.result,
  serves_as_service g.met.S.Service.does_requests c.args.service.now (json_in c.args.body.now) c.serve_plan.result
      c.serve_plan.new.handler c.serve_plan.ensures,
  c.for_plan.ensures,
)
