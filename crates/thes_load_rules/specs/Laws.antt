-- The laws of the verdict on rows of cells.
use Rattle.std.specs.Prelude.{◌≡◌, ℕ, List, map, Result, Ok, Err}
use Rattle.thes_base.specs.declared.fault.Fault.{Fault}
use Rattle.thes_base.specs.declared.fault.Fault.TheVariants.{BadStore, NewerStore, OlderStore}
use Rattle.thes_base.specs.declared.fault.Table.TheVariants as table
use Rattle.thes_base.specs.Legal.{IsLegalState}
use Rattle.thes_base.specs.State.{State}
use Rattle.thes_tables.specs.Tables.{Tables, IsRowsOf}
use Rattle.thes_tables.specs.declared.cells.Cell.{Cell}
use Rattle.thes_tables.specs.Cells.{Raw, RawTable, cells_of_tables, resource_rows, outside_cells, label_cells}
use Rattle.thes_tables.specs.Cells.{link_cells, hier_cells, posting_cells, move_cells}
use Rattle.thes_load_rules.specs.Rules.{state_of, ResourceRule, OutsideRule, LabelRule, LinkRule, HierRule}
use Rattle.thes_load_rules.specs.Rules.{PostingRule, MoveRule}
use Rattle.thes_load_rules.specs.Verdicts.{HasVerdict, IsTable, IsMeta, IsNewer, IsOlder}

-- Rows of cells have at most one verdict.
abbrev pub OneVerdict : Type 0
OneVerdict = (raw : Raw) (a b : Result Tables Fault) → HasVerdict raw a → HasVerdict raw b → a ≡ b

-- Tables that load encode a legal state, and the rows of cells are those of the tables.
abbrev pub LoadedIsLegal : Type 0
LoadedIsLegal =
    (raw : Raw) (t : Tables) → HasVerdict raw (Ok t)
    → IsLegalState t.base (state_of t) × IsRowsOf t.base (state_of t) t × (raw ≡ cells_of_tables t)

-- The tables of a legal state load, and encode that state.
abbrev pub LegalStateLoads : Type 0
LegalStateLoads =
    (base : List ℕ) (s : State) (t : Tables) → IsLegalState base s → IsRowsOf base s t
    → HasVerdict (cells_of_tables t) (Ok t) × (state_of t ≡ s)

-- Table meta meets its rule.
abbrev pub MetaPasses : Raw → Tables → Type 0
MetaPasses raw t = IsMeta raw.meta t.base

-- The tables meta and resource meet their rules.
abbrev pub ResourcePasses : Raw → Tables → Type 0
ResourcePasses raw t = MetaPasses raw t × IsTable (resource_rows 1) ResourceRule raw.resource t.resource

-- The tables from meta to outside meet their rules.
abbrev pub OutsidePasses : Raw → Tables → Type 0
OutsidePasses raw t =
    ResourcePasses raw t × IsTable (map outside_cells) (OutsideRule t.base t.resource) raw.outside t.outside

-- The tables from meta to label meet their rules.
abbrev pub LabelPasses : Raw → Tables → Type 0
LabelPasses raw t = OutsidePasses raw t × IsTable (map label_cells) (LabelRule t.resource) raw.label t.label

-- The tables from meta to link meet their rules.
abbrev pub LinkPasses : Raw → Tables → Type 0
LinkPasses raw t = LabelPasses raw t × IsTable (map link_cells) (LinkRule t.resource) raw.link t.link

-- The tables from meta to hier meet their rules.
abbrev pub HierPasses : Raw → Tables → Type 0
HierPasses raw t = LinkPasses raw t × IsTable (map hier_cells) (HierRule t.resource t.link) raw.hier t.hier

-- The tables from meta to posting meet their rules.
abbrev pub PostingPasses : Raw → Tables → Type 0
PostingPasses raw t = HierPasses raw t × IsTable (map posting_cells) (PostingRule t.resource) raw.posting t.posting

-- All tables meet their rules.
abbrev pub MovePasses : Raw → Tables → Type 0
MovePasses raw t = PostingPasses raw t × IsTable (map move_cells) (MoveRule t.resource t.posting) raw.move t.move

-- The table breaks its rule: no typed rows have its cells and meet the rule.
abbrev pub HasNoRows : {A : Type 0} → (List A → List (List Cell)) → (List A → Type 0) → RawTable → Type 0
HasNoRows {A} cells_of Rule raw = (rows : List A) → IsTable cells_of Rule raw rows → ⊥

-- The verdict on the rows, table by table. Version 1 or a version after 2 is reported first; otherwise the first table
-- that breaks its rule, whatever the tables after it are. If all tables meet their rules, they load.
pub record VerdictByTable (raw : Raw) (t : Tables) : Type 0 where
  pub newer : IsNewer raw.meta → HasVerdict raw (Err NewerStore)
  pub older : IsOlder raw.meta → HasVerdict raw (Err OlderStore)
  pub meta :
      (IsNewer raw.meta → ⊥) → (IsOlder raw.meta → ⊥) → ((base : List ℕ) → IsMeta raw.meta base → ⊥)
      → HasVerdict raw (Err (BadStore table.Meta))
  pub resource :
      MetaPasses raw t → HasNoRows (resource_rows 1) ResourceRule raw.resource
      → HasVerdict raw (Err (BadStore table.Resource))
  pub outside :
      ResourcePasses raw t → HasNoRows (map outside_cells) (OutsideRule t.base t.resource) raw.outside
      → HasVerdict raw (Err (BadStore table.Outside))
  pub label :
      OutsidePasses raw t → HasNoRows (map label_cells) (LabelRule t.resource) raw.label
      → HasVerdict raw (Err (BadStore table.Label))
  pub link :
      LabelPasses raw t → HasNoRows (map link_cells) (LinkRule t.resource) raw.link
      → HasVerdict raw (Err (BadStore table.Link))
  pub hier :
      LinkPasses raw t → HasNoRows (map hier_cells) (HierRule t.resource t.link) raw.hier
      → HasVerdict raw (Err (BadStore table.Hier))
  pub posting :
      HierPasses raw t → HasNoRows (map posting_cells) (PostingRule t.resource) raw.posting
      → HasVerdict raw (Err (BadStore table.Posting))
  pub move :
      PostingPasses raw t → HasNoRows (map move_cells) (MoveRule t.resource t.posting) raw.move
      → HasVerdict raw (Err (BadStore table.Move))
  pub all : MovePasses raw t → HasVerdict raw (Ok t)

-- The verdict on rows is the one that the check table by table gives.
abbrev pub TablesCheckedInTurn : Type 0
TablesCheckedInTurn = (raw : Raw) (t : Tables) → VerdictByTable raw t
