use Rattle.std.proofs.Common.{rules}
use Rattle.thes_http.proofs.act.show.Goals as goal

pub returns : goal.returns
returns g c =
    let does = g.met.S.Service.does_requests.shows _ _ _ _ c.show.ensures in search rules
