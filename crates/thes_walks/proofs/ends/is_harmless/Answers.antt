use Rattle.thes_base.specs.Links.{Holds}
use Rattle.thes_walks.proofs.KindLemmas.{unbroken_loose}
use Rattle.thes_walks.proofs.ends.is_harmless.Goals as goal

pub returns-then-is_loose : goal.returns-then-is_loose
returns-then-is_loose g c = λ _.
    unbroken_loose (Holds (g.L.Links.net c.args.links.now).links) c.args.new.now c.requires.unbroken
    c.if-is_loose.ensures.0 c.if-is_loose.ensures.1 c.if-is_loose.ensures.2 c.if-is_loose.ensures.3
