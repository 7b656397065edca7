use Rattle.std.proofs.Common.{◌≡◌, take}
use Rattle.std.specs.List.{filter_map}
use Rattle.thes_links.specs.LinkEdit.{link_after_merge}
use Rattle.thes_links.proofs.edit.merge_all.Given as goal

abbrev pub invariant-loop-link : goal.invariant-loop-link
invariant-loop-link l = l.merged.items ≡ filter_map (link_after_merge l.source l.target) (take l.link-index l.row)
