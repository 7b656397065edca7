use Rattle.std.proofs.Common.{take}
use Rattle.thes_display.specs.HierarchyParts.{AreHomesSet}
use Rattle.thes_display.proofs.hierarchy.set_homes.Given as goal

abbrev pub invariant-loop-child : goal.invariant-loop-child
invariant-loop-child l = AreHomesSet l.rank (take l.child-index l.children) l.fn.homes.items l.homes.items
