-- The numbers under which rows are indexed.
use Rattle.std.specs.Prelude.{ℕ, Bool}
use Rattle.std.specs.Ordering.{eq_by_cmp}
use Rattle.thes_base.specs.Labels.{Label, label_cmp}
use Rattle.thes_base.specs.Links.{link_cmp}
use Rattle.thes_base.specs.declared.data.Link.{Link}
use Rattle.thes_base.specs.declared.data.LinkKind.TheVariants as kinds
use Rattle.thes_base.specs.declared.data.LinkKind.{LinkKind}
use Rattle.thes_tables.specs.declared.rows.HierRow.{HierRow}
use Rattle.thes_tables.specs.Tables.{hier_link}

-- The number under which a label is indexed: its owner.
abbrev pub owner_of : Label → ℕ
owner_of l = l.owner

-- The number of the end under which a link of the kind from a to b is indexed: the member of a membership, or else the
-- first end. As a rule this end has fewer links of the kind than the other.
abbrev pub indexed_end : LinkKind → ℕ → ℕ → ℕ
indexed_end kinds.Member a b = b
indexed_end _ a b = a

-- The number under which a link is indexed.
abbrev pub indexed_end_of : Link → ℕ
indexed_end_of l = indexed_end l.kind l.a l.b

-- The number under which a hierarchical link is indexed: its narrower concept.
abbrev pub narrower_end_of : HierRow → ℕ
narrower_end_of row = row.a

-- Whether two labels are equal.
abbrev pub is_same_label : Label → Label → Bool
is_same_label x y = eq_by_cmp label_cmp x y

-- Whether two links are equal.
abbrev pub is_same_link : Link → Link → Bool
is_same_link x y = eq_by_cmp link_cmp x y

-- Whether two rows of table hier encode the same link.
abbrev pub is_same_hier : HierRow → HierRow → Bool
is_same_hier x y = eq_by_cmp link_cmp (hier_link x) (hier_link y)
