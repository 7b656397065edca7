use Rattle.std.proofs.Common.{rules}
use Rattle.thes_http.proofs.act.perform.Goals as goal

pub returns-in-Ok-Do : goal.returns-in-Ok-Do
returns-in-Ok-Do g c =
    let does = g.met.S.Service.does_requests.performs _ _ _ _ c.perform.ensures in search rules
