use Rattle.std.proofs.Common.{◌≡◌, take}
use Rattle.std.specs.List.{filter_map}
use Rattle.thes_display.specs.HierarchyParts.{rank_at}
use Rattle.thes_display.proofs.number_table.concept_values.Given as goal

abbrev pub invariant-loop-concept : goal.invariant-loop-concept
invariant-loop-concept l = l.found.items ≡ filter_map (rank_at l.table) (take l.concept-index l.concepts)
