-- Kinds of links that can break few rules or none, and nodes from which no link leads in a relation.
use Rattle.std.specs.Prelude.{◌≡◌, ℕ}
use Rattle.thes_base.specs.declared.data.Link.{Link}
use Rattle.thes_base.specs.declared.data.LinkKind.{LinkKind}
use Rattle.thes_base.specs.declared.data.Direction.TheVariants.{Forward, Never}
use Rattle.thes_base.specs.Links.{broader_direction, related_direction, exact_direction, disjoint_direction}
use Rattle.thes_links.specs.declared.relation.Relation.{Relation}
use Rattle.thes_links.specs.Steps.{Steps}

-- No link leads from the node in the relation.
pub record IsEnd (relation : Relation) (Held : Link → Type 0) (n : ℕ) : Type 0 where
  pub none : (y : ℕ) → Steps relation Held n y → ⊥

-- Links of the kind lead from their first end to a broader concept, and have no part in the other relations.
abbrev pub LeadsUp : LinkKind → Type 0
LeadsUp kind = (broader_direction kind ≡ Forward) × (related_direction kind ≡ Never) × (exact_direction kind ≡ Never)
    × (disjoint_direction kind ≡ Never)

-- Links of the kind have no part in any relation, so that none of the rules concerns them.
abbrev pub IsLoose : LinkKind → Type 0
IsLoose kind = (broader_direction kind ≡ Never) × (related_direction kind ≡ Never) × (exact_direction kind ≡ Never)
    × (disjoint_direction kind ≡ Never)
