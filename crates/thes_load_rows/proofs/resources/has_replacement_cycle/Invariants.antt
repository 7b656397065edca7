use Rattle.thes_load_rows.specs.ResourceChecks.{HasReplacements}
use Rattle.thes_load_rows.proofs.resources.has_replacement_cycle.Given as goal

-- The graph has a link for the replacement of each resource read so far.
abbrev pub invariant-loop-i : goal.invariant-loop-i
invariant-loop-i l = HasReplacements l.resources l.i l.graph.links
