use Rattle.std.proofs.Common.{Contains, take}
use Rattle.thes_links.specs.Steps.{Steps, GrowsBy}
use Rattle.thes_links.proofs.walk.meet_steps.Given as goal

abbrev pub invariant-loop-link : goal.invariant-loop-link
invariant-loop-link l = GrowsBy l.fn.nodes l.nodes (Steps l.relation (Contains (take l.link-index l.links)) l.x)
