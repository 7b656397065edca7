use Rattle.std.proofs.Common.{◌<◌, ℕ, get_or}
use Rattle.thes_links.specs.declared.relation.Relation.TheVariants.{Related}
use Rattle.thes_links.specs.LinkEdit.{HeldAfter}
use Rattle.thes_walks.specs.Ends.{IsEnd}
use Rattle.thes_walks.proofs.upward_link.have_none.Given as goal

abbrev pub invariant-loop-x : goal.invariant-loop-x
invariant-loop-x g l = (k : ℕ) → k < l.x-index
    → IsEnd Related (HeldAfter l.edit (g.L.Links.net l.links).links) (get_or l.xs k 0)
