-- The tables as a database stores them: rows of cells.
use Rattle.std.specs.Prelude.{ℕ, pos, List, [], ◌∷◌, ◌+◌, map, Bool, cond, Option, None, Some}
use Rattle.thes_base.specs.declared.data.Resource.{Resource}
use Rattle.thes_base.specs.declared.data.ResourceKind.{ResourceKind}
use Rattle.thes_base.specs.declared.data.ResourceKind.TheVariants.{Scheme, Concept, Collection, Outside}
use Rattle.thes_base.specs.declared.data.Link.{Link}
use Rattle.thes_base.specs.Labels.{Label, label_kind_no}
use Rattle.thes_base.specs.Links.{link_kind_no}
use Rattle.thes_tables.specs.declared.cells.Cell.{Cell}
use Rattle.thes_tables.specs.declared.cells.Cell.TheVariants.{Int, Text, Null}
use Rattle.thes_tables.specs.declared.rows.HierRow.{HierRow}
use Rattle.thes_tables.specs.declared.rows.HierType.{HierType}
use Rattle.thes_tables.specs.declared.rows.HierType.TheVariants as typ
use Rattle.thes_tables.specs.declared.rows.PostingRow.{PostingRow}
use Rattle.thes_tables.specs.declared.rows.MoveRow.{MoveRow}
use Rattle.thes_tables.specs.Tables.{Tables}

-- The rows of a table, or None if the database can't query it.
abbrev pub RawTable : Type 0
RawTable = Option (List (List Cell))

-- The eight tables as rows of cells, as a database may have them: they needn't encode a state.
pub record Raw : Type 0 where
  pub meta : RawTable
  pub resource : RawTable
  pub outside : RawTable
  pub label : RawTable
  pub link : RawTable
  pub hier : RawTable
  pub posting : RawTable
  pub move : RawTable

-- The integer cell of a natural number.
abbrev pub number_cell : ℕ → Cell
number_cell n = Int (pos n)

-- The cell of a flag: 1 if it is set, else 0.
abbrev pub flag_cell : Bool → Cell
flag_cell b = number_cell (cond b 1 0)

-- The cell of a number, or Null if there is none.
abbrev pub optional_cell : Option ℕ → Cell
optional_cell None = Null
optional_cell (Some n) = number_cell n

-- The number that encodes a kind of resource.
abbrev pub resource_kind_no : ResourceKind → ℕ
resource_kind_no Scheme = 1
resource_kind_no Concept = 2
resource_kind_no Collection = 3
resource_kind_no Outside = 4

-- The only row of table meta: its key 1, version 2 of the schema, and the base.
abbrev pub meta_cells : List ℕ → List Cell
meta_cells base = number_cell 1 ∷ number_cell 2 ∷ Text base ∷ []

-- The row of a resource: its number, its kind, its scheme, whether it is live, and its replacement.
abbrev pub resource_cells : ℕ → Resource → List Cell
resource_cells n r =
    number_cell n ∷ number_cell (resource_kind_no r.kind) ∷ optional_cell r.scheme ∷ flag_cell r.live
    ∷ optional_cell r.replaced ∷ []

-- The rows of resources that are numbered consecutively from `n`.
abbrev pub resource_rows : ℕ → List Resource → List (List Cell)
resource_rows n [] = []
resource_rows n (r ∷ rs) = resource_cells n r ∷ resource_rows (n + 1) rs

-- The row of an outside concept: its number and its IRI.
abbrev pub outside_cells : ℕ × List ℕ → List Cell
outside_cells row = number_cell row.0 ∷ Text row.1 ∷ []

-- The row of a label: its owner, its kind, its language tag and its text.
abbrev pub label_cells : Label → List Cell
label_cells l = number_cell l.owner ∷ number_cell (label_kind_no l.kind) ∷ Text l.tag ∷ Text l.text ∷ []

-- The row of a link that isn't hierarchical: its kind and its ends.
abbrev pub link_cells : Link → List Cell
link_cells l = number_cell (link_kind_no l.kind) ∷ number_cell l.a ∷ number_cell l.b ∷ []

-- The number that encodes a type of hierarchical relationship.
abbrev pub hier_type_no : HierType → ℕ
hier_type_no typ.Untyped = 0
hier_type_no typ.Generic = 1
hier_type_no typ.Partitive = 2
hier_type_no typ.Instantial = 3

-- The row of a hierarchical link: the narrower concept, the broader one, and the type.
abbrev pub hier_cells : HierRow → List Cell
hier_cells row = number_cell row.a ∷ number_cell row.b ∷ number_cell (hier_type_no row.typ) ∷ []

-- The row of a posting: its number, its key, its record, its first concept, its place, and whether it was withdrawn.
abbrev pub posting_cells : PostingRow → List Cell
posting_cells row =
    number_cell row.number ∷ Text row.key ∷ Text row.rec ∷ number_cell row.first ∷ number_cell row.place
    ∷ flag_cell row.withdrawn ∷ []

-- The row of a move: its number, its posting, its source and its target.
abbrev pub move_cells : MoveRow → List Cell
move_cells row = number_cell row.number ∷ number_cell row.posting ∷ number_cell row.source ∷ number_cell row.target ∷ []

-- The rows of cells that encode the tables, in version 2 of the schema.
abbrev pub cells_of_tables : Tables → Raw
cells_of_tables t =
    record {
      meta = Some (meta_cells t.base ∷ []);
      resource = Some (resource_rows 1 t.resource);
      outside = Some (map outside_cells t.outside);
      label = Some (map label_cells t.label);
      link = Some (map link_cells t.link);
      hier = Some (map hier_cells t.hier);
      posting = Some (map posting_cells t.posting);
      move = Some (map move_cells t.move);
    }
