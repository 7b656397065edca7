use Rattle.std.proofs.Common.{◌≡◌, ◌++◌, drop, map}
use Rattle.thes_tables.specs.Changes.{add_link}
use Rattle.thes_core.proofs.row_changes.links.push_insertions.Given as goal

-- The changes so far, followed by those of the remaining links, are the whole list of changes.
abbrev pub invariant-loop-link : goal.invariant-loop-link
invariant-loop-link l = l.delta ++ map add_link (drop l.link-index l.links) ≡ l.fn.delta ++ map add_link l.links
