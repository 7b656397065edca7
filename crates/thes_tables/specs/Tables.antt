-- The tables that encode a state, as typed rows.
use Rattle.std.specs.Prelude.{◌≡◌, ◌⊎◌, ◌<◌, ℕ, List, [], ◌∷◌, Option, None, Some, map, filter, true, ◌==◌, ◌&&◌}
use Rattle.std.specs.Prelude.{Bool, not}
use Rattle.std.specs.FinSet as set
use Rattle.std.specs.FinMap as dict
use Rattle.thes_base.specs.declared.data.Resource.{Resource}
use Rattle.thes_base.specs.declared.data.History.{History}
use Rattle.thes_base.specs.declared.data.Move.{Move}
use Rattle.thes_base.specs.Resources.{Iris, entry_at}
use Rattle.thes_base.specs.Labels.{Label, Labels}
use Rattle.thes_base.specs.declared.data.Link.{Link}
use Rattle.thes_base.specs.declared.data.LinkKind.{LinkKind}
use Rattle.thes_base.specs.declared.data.LinkKind.TheVariants as kinds
use Rattle.thes_base.specs.Links.{Links, Holds}
use Rattle.thes_base.specs.Postings.{place}
use Rattle.thes_base.specs.State.{State}
use Rattle.thes_tables.specs.declared.rows.HierRow.{HierRow}
use Rattle.thes_tables.specs.declared.rows.HierType.{HierType}
use Rattle.thes_tables.specs.declared.rows.HierType.TheVariants as typ
use Rattle.thes_tables.specs.declared.rows.PostingRow.{PostingRow}
use Rattle.thes_tables.specs.declared.rows.MoveRow.{MoveRow}

-- The eight tables as typed rows. Rows of resource and posting are numbered from 1 without gaps: number 1 is at index
-- 0. Rows of outside and move are in the order of their numbers; rows of label, link and hier are in any order. Table
-- hier has the hierarchical links, table link all others.
pub record Tables : Type 0 where
  -- The base, from the row of table meta.
  pub base : List ℕ
  pub resource : List Resource
  pub outside : List (ℕ × List ℕ)
  pub label : List Label
  pub link : List Link
  pub hier : List HierRow
  pub posting : List PostingRow
  pub move : List MoveRow

-- The tables of a new store: the base in table meta, and no rows in the other tables.
abbrev pub empty_tables : List ℕ → Tables
empty_tables base = record {
  base = base;
  resource = [];
  outside = [];
  label = [];
  link = [];
  hier = [];
  posting =
      [];
  move = [];
}

-- The list has the element.
abbrev pub IsIn : {A : Type 0} → A → List A → Type 0
IsIn x [] = ⊥
IsIn x (y ∷ ys) = (x ≡ y) ⊎ IsIn x ys

-- No element occurs twice in the list.
abbrev pub AreDistinct : {A : Type 0} → List A → Type 0
AreDistinct [] = Unit {0}
AreDistinct (x ∷ xs) = (IsIn x xs → ⊥) × AreDistinct xs

-- The rows are exactly the elements with the property, without duplicates, in any order.
pub record IsUnsortedListing {K : Type 0} (Has : K → Type 0) (rows : List K) : Type 0 where
  pub sound : (row : K) → IsIn row rows → Has row
  pub complete : (row : K) → Has row → IsIn row rows
  pub once : AreDistinct rows

-- The label is in the set.
abbrev pub IsLabelOf : Labels → Label → Type 0
IsLabelOf labels l = set.contains labels l ≡ true

-- The hierarchical kind of link that has the type.
abbrev pub hier_kind : HierType → LinkKind
hier_kind typ.Untyped = kinds.Broader
hier_kind typ.Generic = kinds.BroaderGeneric
hier_kind typ.Partitive = kinds.BroaderPartitive
hier_kind typ.Instantial = kinds.BroaderInstantial

-- The link that a row of table hier encodes.
abbrev pub hier_link : HierRow → Link
hier_link row = record { kind = hier_kind row.typ; a = row.a; b = row.b }

-- The type of a hierarchical kind of link; None for other kinds, whose links are rows of table link.
abbrev pub hier_type : LinkKind → Option HierType
hier_type kinds.Broader = Some typ.Untyped
hier_type kinds.BroaderGeneric = Some typ.Generic
hier_type kinds.BroaderPartitive = Some typ.Partitive
hier_type kinds.BroaderInstantial = Some typ.Instantial
hier_type _ = None

-- The link that the row of table hier encodes is in the set.
abbrev pub IsHierOf : Links → HierRow → Type 0
IsHierOf links row = Holds links (hier_link row)

-- The link is in the set, and isn't hierarchical.
abbrev pub IsLinkOf : Links → Link → Type 0
IsLinkOf links l = Holds links l × (hier_type l.kind ≡ None)

-- The numbers of the rows of table outside are strictly increasing and greater than `above`.
abbrev pub IriNumbersAscend : ℕ → List (ℕ × List ℕ) → Type 0
IriNumbersAscend above [] = Unit {0}
IriNumbersAscend above (row ∷ rows) = (above < row.0) × IriNumbersAscend row.0 rows

-- The rows are the entries of the map of IRIs, in the order of their numbers.
pub record AreIris (iris : Iris) (rows : List (ℕ × List ℕ)) : Type 0 where
  pub same : dict.from_entries rows ≡ iris
  pub ascends : IriNumbersAscend 0 rows

-- The row of table posting for a history: without its moves, but with its place.
abbrev pub posting_row : History → PostingRow
posting_row h = record {
  number = h.number;
  key = h.key;
  rec = h.rec;
  first = h.first;
  place = place h;
  withdrawn =
      h.withdrawn;
}

-- The move that a row of table move encodes.
abbrev pub recorded_move : MoveRow → Move
recorded_move row = record { number = row.number; source = row.source; target = row.target }

-- The moves of a posting, in the order of the rows.
abbrev pub moves_of : ℕ → List MoveRow → List Move
moves_of n rows = map recorded_move (filter (λ (row : MoveRow). row.posting == n) rows)

-- Whether the row's posting is assigned to the concept.
abbrev pub is_assigned_row : ℕ → PostingRow → Bool
is_assigned_row concept row = not row.withdrawn && row.place == concept

-- The row encodes a move of the posting that it names.
abbrev pub IsMoveOf : List History → MoveRow → Type 0
IsMoveOf histories row = (h : History) × (entry_at histories row.posting ≡ Some h) × IsIn (recorded_move row) h.moves

-- The numbers of the rows of table move are strictly increasing and greater than `above`.
abbrev pub MoveNumbersAscend : ℕ → List MoveRow → Type 0
MoveNumbersAscend above [] = Unit {0}
MoveNumbersAscend above (row ∷ rows) = (above < row.number) × MoveNumbersAscend row.number rows

-- The rows encode exactly the moves of the histories, sorted by number.
pub record AreMoves (histories : List History) (rows : List MoveRow) : Type 0 where
  pub rises : MoveNumbersAscend 0 rows
  pub sound : (row : MoveRow) → IsIn row rows → IsMoveOf histories row
  pub complete : (row : MoveRow) → IsMoveOf histories row → IsIn row rows

-- The tables encode the state, with this base.
pub record IsRowsOf (base : List ℕ) (s : State) (t : Tables) : Type 0 where
  pub base_is : t.base ≡ base
  pub resource : t.resource ≡ s.resources
  pub outside : AreIris s.iris t.outside
  pub label : IsUnsortedListing (IsLabelOf s.labels) t.label
  pub link : IsUnsortedListing (IsLinkOf s.links) t.link
  pub hier : IsUnsortedListing (IsHierOf s.links) t.hier
  pub posting : t.posting ≡ map posting_row s.histories
  pub move : AreMoves s.histories t.move
