use Rattle.std.proofs.Common.{sym, ap, ◌∙◌}
use Rattle.std.specs.Option.{option_copied}
use Rattle.thes_core.proofs.UndoLogLemmas.{place_known, place_lost}
use Rattle.thes_core.proofs.losses.lost_place.Goals as goal

pub returns-in-Some : goal.returns-in-Some
returns-in-Some c = λ posting setting s accepts are. place_lost posting s c.args.facts.now c.in-Some.row.now are
    (sym c.first.ensures ∙ ap option_copied c.in-Some.is)

pub returns-in-None : goal.returns-in-None
returns-in-None c = λ posting setting s accepts are. place_known setting posting s c.args.facts.now accepts are
    (sym c.first.ensures ∙ ap option_copied c.in-None.is)
