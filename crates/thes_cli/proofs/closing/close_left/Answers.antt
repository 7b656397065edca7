use Rattle.std.proofs.Common.{refl}
use Rattle.thes_cli.proofs.closing.close_left.Goals as goal

pub returns : goal.returns
returns g c = record { is_reopened = refl; is_in_doubt = refl; files = c.close.ensures; rest_is = refl }
