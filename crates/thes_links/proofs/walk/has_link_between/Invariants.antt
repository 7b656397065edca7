use Rattle.std.proofs.Common.{ℕ, ◌<◌, get_or}
use Rattle.thes_links.specs.Steps.{Ties}
use Rattle.thes_base.specs.declared.data.Link.{Link}
use Rattle.thes_links.proofs.walk.has_link_between.Given as goal

-- No link before this one leads from one of `xs` to one of `ys` in the relation.
abbrev pub invariant-loop-link : goal.invariant-loop-link
invariant-loop-link l = (k : ℕ) (d : Link) → k < l.link-index → Ties l.relation (get_or l.links k d) l.xs l.ys → ⊥
