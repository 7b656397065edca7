use Rattle.thes_display.specs.HeadingIndex.{ArePlaces}
use Rattle.thes_display.specs.HierarchyParts.{rank_at}
use Rattle.thes_display.proofs.heading_index.places_of.Given as goal

abbrev pub invariant-loop-place : goal.invariant-loop-place
invariant-loop-place l = ArePlaces l.headings (rank_at l.places.items)
