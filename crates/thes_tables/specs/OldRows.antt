-- The rows of a state in version 1 of the schema, and their migration to version 2.
use Rattle.std.specs.Prelude.{◌≡◌, ◌≤◌, ◌↔◌, ◌==◌, ℕ, List, map, filter, Bool, not}
use Rattle.thes_base.specs.declared.data.Link.{Link}
use Rattle.thes_base.specs.Links.{Holds, link_kind_no}
use Rattle.thes_base.specs.State.{State}
use Rattle.thes_tables.specs.declared.rows.HierRow.{HierRow}
use Rattle.thes_tables.specs.declared.rows.HierType.TheVariants as typ
use Rattle.thes_tables.specs.Tables.{Tables, IsUnsortedListing, AreIris, AreMoves, IsLabelOf, IsRowsOf, posting_row}

-- The tables encode the state in version 1. Table link has all links; their kinds have the numbers 1 to 8, and only
-- kind 1 (broader) is hierarchical. Version 1 has no table hier, so `t.hier` is arbitrary.
pub record IsOldRowsOf (base : List ℕ) (s : State) (t : Tables) : Type 0 where
  pub base_is : t.base ≡ base
  pub resource : t.resource ≡ s.resources
  pub outside : AreIris s.iris t.outside
  pub label : IsUnsortedListing (IsLabelOf s.labels) t.label
  pub link : IsUnsortedListing (Holds s.links) t.link
  pub kinds : (l : Link) → Holds s.links l → link_kind_no l.kind ≤ 8
  pub posting : t.posting ≡ map posting_row s.histories
  pub move : AreMoves s.histories t.move

-- Whether the link has kind 1 (broader), the only hierarchical kind of version 1.
abbrev pub is_broader : Link → Bool
is_broader l = link_kind_no l.kind == 1

-- The row of table hier for a link of kind broader: it has no type.
abbrev pub untyped_row : Link → HierRow
untyped_row l = record { a = l.a; b = l.b; typ = typ.Untyped }

-- The tables after migration: the links of kind broader leave table link, and become the untyped rows of table hier.
abbrev pub tables_after_migration : Tables → Tables
tables_after_migration t = record t {
  link = filter (λ l. not (is_broader l)) t.link;
  hier =
      map untyped_row (filter is_broader t.link);
}

-- Tables encode a state in version 1 exactly when the migrated tables encode it in version 2.
abbrev pub MigrationKeepsState : Type 0
MigrationKeepsState = (base : List ℕ) (s : State) (t : Tables) → IsOldRowsOf base s t
    ↔ IsRowsOf base s (tables_after_migration t)
