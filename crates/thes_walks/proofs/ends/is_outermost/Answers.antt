use Rattle.std.proofs.Common.{refl}
use Rattle.thes_base.specs.Links.{Holds}
use Rattle.thes_walks.proofs.KindLemmas.{unbroken_lowest, unbroken_highest}
use Rattle.thes_walks.proofs.ends.is_outermost.Goals as goal

pub returns-then-is_lowest : goal.returns-then-is_lowest
returns-then-is_lowest g c = λ _.
    unbroken_lowest (Holds (g.L.Links.net c.args.links.now).links) c.args.new.now c.requires.joins.ends
    c.requires.joins.unbroken
    c.requires.up.0 c.requires.up.1 c.requires.up.2 c.requires.up.3
    (c.if-is_lowest.ensures.narrower refl).none (c.if-is_lowest.ensures.related refl).none

pub returns : goal.returns
returns g c = λ on.
    unbroken_highest (Holds (g.L.Links.net c.args.links.now).links) c.args.new.now c.requires.joins.ends
    c.requires.joins.unbroken
    c.requires.up.0 c.requires.up.1 c.requires.up.2 c.requires.up.3
    (c.is_highest.ensures.broader on).none (c.is_highest.ensures.related on).none
