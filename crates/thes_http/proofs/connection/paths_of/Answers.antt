use Rattle.std.proofs.Common.{◌∙◌}
use Rattle.thes_http.proofs.connection.paths_of.Goals as goal

pub returns : goal.returns
returns g c = c.takes_plans.ensures ∙ g.met.S.Service.does_requests.takes_plans c.args.service.now
