use Rattle.std.proofs.Common.{◌≡◌, ◌++◌, map}
use Rattle.thes_base.specs.Machine.{owned_label}
use Rattle.thes_tables.specs.declared.change.Change.TheVariants as change
use Rattle.thes_core.proofs.row_changes.links.push_labels.Given as goal

abbrev pub invariant-loop-label : goal.invariant-loop-label
invariant-loop-label l = l.delta ≡ l.fn.delta ++ map change.AddLabel (map (owned_label l.owner) l.yielded)
