-- The progress of a load through rows of cells, table by table.
use Rattle.std.specs.Prelude.{◌≡◌, ◌⊎◌, List, [], ◌∷◌, ◌++◌, map, Bool, true, false, Option, None, Some}
use Rattle.std.specs.Prelude.{option_map, Err}
use Rattle.thes_base.specs.declared.fault.Fault.TheVariants.{BadStore}
use Rattle.thes_base.specs.declared.fault.Table.{Table}
use Rattle.thes_base.specs.declared.fault.Table.TheVariants as table
use Rattle.thes_tables.specs.declared.cells.Cell.{Cell}
use Rattle.thes_tables.specs.Tables.{Tables}
use Rattle.thes_tables.specs.Cells.{Raw, RawTable, resource_rows, outside_cells, label_cells, link_cells, hier_cells}
use Rattle.thes_tables.specs.Cells.{posting_cells, move_cells}
use Rattle.thes_tables.specs.TableOrder.{next_table, raw_by_table, raw_rows_of, with_rows}
use Rattle.thes_vocab.specs.Vocabulary.{Vocabulary}
use Rattle.thes_load_rules.specs.Verdicts.{HasVerdict}
use Rattle.thes_load_rules.specs.Laws.{MetaPasses, ResourcePasses, OutsidePasses, LabelPasses, LinkPasses, HierPasses}
use Rattle.thes_load_rules.specs.Laws.{PostingPasses}
use Rattle.thes_load_rows.specs.declared.meta.MetaRow.{MetaRow}
use Rattle.thes_load_rows.specs.declared.stage.Stage.{Stage}
use Rattle.thes_load_rows.specs.declared.stage.Stage.TheVariants as stage
use Rattle.thes_load_rows.specs.Version.{SpellsMeta}
use Rattle.thes_load_rows.specs.NamesSoFar.{HasOutside, HasLabels, vocabulary_of_rows}
use Rattle.thes_load_rows.specs.LinksSoFar.{HasLinks}
use Rattle.thes_load_rows.specs.PostingPlaces.{ArePlaced}
use Rattle.thes_load_rows.specs.RowsSoFar.{HasPostings, HasMoves}

-- The table with one more row at its end; a table that can't be queried (None) stays so.
abbrev pub with_row : List Cell → RawTable → RawTable
with_row cells raw = option_map (λ rows. rows ++ cells ∷ []) raw

-- The rows of all tables, with one more row at the end of this table.
abbrev pub raw_with_row : Table → List Cell → Raw → Raw
raw_with_row name cells raw = with_rows name (with_row cells (raw_rows_of name raw)) raw

-- The second table begins with the rows of the first, or can't be queried. If the first can't be queried, neither can
-- the second.
abbrev pub Grows : RawTable → RawTable → Type 0
Grows None queried = queried ≡ None
Grows (Some rows) queried = (queried ≡ None) ⊎ ((more : List (List Cell)) × (queried ≡ Some (rows ++ more)))

-- The second rows extend the first at this table. The tables before it are equal, the table itself may have more rows
-- or be one that can't be queried, and the tables after it are arbitrary.
abbrev pub ExtendsTable : Table → Raw → Raw → Type 0
ExtendsTable table.Meta raw more = Grows raw.meta more.meta
ExtendsTable table.Resource raw more = (more.meta ≡ raw.meta) × Grows raw.resource more.resource
ExtendsTable table.Outside raw more =
    (more.meta ≡ raw.meta) × (more.resource ≡ raw.resource) × Grows raw.outside more.outside
ExtendsTable table.Label raw more =
    (more.meta ≡ raw.meta) × (more.resource ≡ raw.resource) × (more.outside ≡ raw.outside) × Grows raw.label more.label
ExtendsTable table.Link raw more =
    (more.meta ≡ raw.meta) × (more.resource ≡ raw.resource) × (more.outside ≡ raw.outside) × (more.label ≡ raw.label)
    × Grows raw.link more.link
ExtendsTable table.Hier raw more =
    (more.meta ≡ raw.meta) × (more.resource ≡ raw.resource) × (more.outside ≡ raw.outside) × (more.label ≡ raw.label)
    × (more.link ≡ raw.link) × Grows raw.hier more.hier
ExtendsTable table.Posting raw more =
    (more.meta ≡ raw.meta) × (more.resource ≡ raw.resource) × (more.outside ≡ raw.outside) × (more.label ≡ raw.label)
    × (more.link ≡ raw.link) × (more.hier ≡ raw.hier) × Grows raw.posting more.posting
ExtendsTable table.Move raw more =
    (more.meta ≡ raw.meta) × (more.resource ≡ raw.resource) × (more.outside ≡ raw.outside) × (more.label ≡ raw.label)
    × (more.link ≡ raw.link) × (more.hier ≡ raw.hier) × (more.posting ≡ raw.posting) × Grows raw.move more.move

-- The table after posting, which is move, has no rows.
abbrev pub NoneAfterPosting : Raw → Type 0
NoneAfterPosting raw = raw.move ≡ Some []

-- The tables after hier have no rows.
abbrev pub NoneAfterHier : Raw → Type 0
NoneAfterHier raw = (raw.posting ≡ Some []) × NoneAfterPosting raw

-- The tables after link have no rows.
abbrev pub NoneAfterLink : Raw → Type 0
NoneAfterLink raw = (raw.hier ≡ Some []) × NoneAfterHier raw

-- The tables after label have no rows.
abbrev pub NoneAfterLabel : Raw → Type 0
NoneAfterLabel raw = (raw.link ≡ Some []) × NoneAfterLink raw

-- The tables after outside have no rows.
abbrev pub NoneAfterOutside : Raw → Type 0
NoneAfterOutside raw = (raw.label ≡ Some []) × NoneAfterLabel raw

-- The tables after resource have no rows.
abbrev pub NoneAfterResource : Raw → Type 0
NoneAfterResource raw = (raw.outside ≡ Some []) × NoneAfterOutside raw

-- The tables after meta have no rows.
abbrev pub NoneAfterMeta : Raw → Type 0
NoneAfterMeta raw = (raw.resource ≡ Some []) × NoneAfterResource raw

-- Table meta has this row, or no row yet.
abbrev pub HasMeta : Option MetaRow → RawTable → Type 0
HasMeta None raw = raw ≡ Some []
HasMeta (Some row) raw = (cells : List Cell) × (raw ≡ Some (cells ∷ [])) × SpellsMeta cells (Some row)

-- The vocabulary has the resources, IRIs and labels of these tables.
abbrev pub HasNames : Vocabulary → Tables → Type 0
HasNames v t = v ≡ vocabulary_of_rows t.base t.resource t.outside t.label

-- The stage is right for the rows read so far. The tables before the current one meet their rules, and the stage has
-- what the rows of the current one encode. If it has stopped, its fault is the verdict, whatever rows follow.
abbrev pub HasRead : Stage → Raw → Type 0
HasRead (stage.Meta row) raw = HasMeta row raw.meta × NoneAfterMeta raw
HasRead (stage.Resource base load) raw =
    (t : Tables) × MetaPasses raw t × (base ≡ t.base) × (raw.resource ≡ Some (resource_rows 1 t.resource))
    × (t.resource ≡ load.resources.items) × NoneAfterResource raw
HasRead (stage.Outside load) raw =
    (t : Tables) × ResourcePasses raw t × (raw.outside ≡ Some (map outside_cells t.outside))
    × HasOutside t.base t.resource load.vocab load.last t.outside × NoneAfterOutside raw
HasRead (stage.Label vocab) raw =
    (t : Tables) × OutsidePasses raw t × (raw.label ≡ Some (map label_cells t.label))
    × HasLabels t.base t.resource t.outside vocab t.label × NoneAfterLabel raw
HasRead (stage.Link linked_vocab) raw =
    (t : Tables) × LabelPasses raw t × HasNames linked_vocab.vocab t × (raw.link ≡ Some (map link_cells t.link))
    × HasLinks t.resource linked_vocab.graph t.link [] × NoneAfterLink raw
HasRead (stage.Hier linked_vocab) raw =
    (t : Tables) × LinkPasses raw t × HasNames linked_vocab.vocab t × (raw.hier ≡ Some (map hier_cells t.hier))
    × HasLinks t.resource linked_vocab.graph t.link t.hier × NoneAfterHier raw
HasRead (stage.Posting linked_vocab load) raw =
    (t : Tables) × HierPasses raw t × HasNames linked_vocab.vocab t × HasLinks t.resource linked_vocab.graph
    t.link t.hier
    × (raw.posting ≡ Some (map posting_cells t.posting))
    × HasPostings t.resource load.keys.keys load.firsts.items load.stored_places.items load.tally t.posting
    × NoneAfterPosting raw
HasRead (stage.Move linked_vocab placed load) raw =
    (t : Tables) × PostingPasses raw t × HasNames linked_vocab.vocab t × HasLinks t.resource linked_vocab.graph
    t.link t.hier
    × ArePlaced placed t.posting × (raw.move ≡ Some (map move_cells t.move))
    × HasMoves t.resource t.posting load.taken load.places.items t.move
HasRead (stage.Stopped fault at) raw = (more : Raw) → ExtendsTable at raw more → HasVerdict more (Err fault)

-- The table whose rows the stage reads.
abbrev pub stage_table : Stage → Table
stage_table (stage.Meta row) = table.Meta
stage_table (stage.Resource base load) = table.Resource
stage_table (stage.Outside load) = table.Outside
stage_table (stage.Label vocab) = table.Label
stage_table (stage.Link linked_vocab) = table.Link
stage_table (stage.Hier linked_vocab) = table.Hier
stage_table (stage.Posting linked_vocab load) = table.Posting
stage_table (stage.Move linked_vocab placed load) = table.Move
stage_table (stage.Stopped fault at) = at

-- Whether the stage has stopped with a fault.
abbrev pub is_stopped : Stage → Bool
is_stopped (stage.Stopped fault at) = true
is_stopped (stage.Meta row) = false
is_stopped (stage.Resource base load) = false
is_stopped (stage.Outside load) = false
is_stopped (stage.Label vocab) = false
is_stopped (stage.Link linked_vocab) = false
is_stopped (stage.Hier linked_vocab) = false
is_stopped (stage.Posting linked_vocab load) = false
is_stopped (stage.Move linked_vocab placed load) = false

-- The result of reading a row of the current table: true if it was added, false if it can't follow the rows read so far
-- in a table that meets its rule.
abbrev pub ReadsRow : Stage → Stage → List Cell → Bool → Type 0
ReadsRow old new cells true =
    (stage_table new ≡ stage_table old)
    × ((raw : Raw) → HasRead old raw → HasRead new (raw_with_row (stage_table old) cells raw))
ReadsRow old new cells false =
    (raw : Raw) → HasRead old raw
    → HasRead (stage.Stopped (BadStore (stage_table old)) (stage_table old)) (raw_with_row (stage_table old) cells raw)

-- The new stage is at the table after that of the old one, and is right for all rows for which the old one is.
abbrev pub Closes : Stage → Stage → Type 0
Closes old new = (stage_table new ≡ next_table (stage_table old)) × ((raw : Raw) → HasRead old raw → HasRead new raw)

-- The new stage is at this table, and is right for all rows for which the old one is.
abbrev pub ReachesTable : Stage → Stage → Table → Type 0
ReachesTable old new table = (stage_table new ≡ table) × ((raw : Raw) → HasRead old raw → HasRead new raw)

-- The tables before a load: all can be queried, and none has rows.
abbrev pub raw_without_rows : Raw
raw_without_rows = raw_by_table (λ name. Some [])

-- The rows of all tables, except that this table can't be queried.
abbrev pub raw_without_table : Table → Raw → Raw
raw_without_table name raw = with_rows name None raw

-- The new stage is at this table, and is right for all rows for which the old one is, except that this table can't be
-- queried.
abbrev pub HasUnqueried : Stage → Stage → Table → Type 0
HasUnqueried old new table =
    (stage_table new ≡ table) × ((raw : Raw) → HasRead old raw → HasRead new (raw_without_table table raw))

-- The new stage is at this table, and is right for all rows for which the old one is, with one more row in this table.
abbrev pub HasRow : Stage → Stage → Table → List Cell → Type 0
HasRow old new table cells =
    (stage_table new ≡ table) × ((raw : Raw) → HasRead old raw → HasRead new (raw_with_row table cells raw))
