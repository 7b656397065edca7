-- The verdict on arbitrary rows of cells: the tables that they encode, or the fault that a load reports.
use Rattle.std.specs.Prelude.{◌≡◌, ◌⊎◌, ◌<◌, ℕ, List, [], ◌∷◌, map, Some, Result, Ok, Err}
use Rattle.thes_base.specs.declared.fault.Table.{Table}
use Rattle.thes_base.specs.declared.fault.Table.TheVariants as table
use Rattle.thes_base.specs.declared.fault.Fault.{Fault}
use Rattle.thes_base.specs.declared.fault.Fault.TheVariants.{BadStore, NewerStore, OlderStore}
use Rattle.thes_base.specs.Forms.{IsBase}
use Rattle.thes_tables.specs.declared.cells.Cell.{Cell}
use Rattle.thes_tables.specs.Tables.{Tables}
use Rattle.thes_tables.specs.Cells.{Raw, RawTable, number_cell, meta_cells, resource_rows, outside_cells, label_cells}
use Rattle.thes_tables.specs.Cells.{link_cells, hier_cells, posting_cells, move_cells}
use Rattle.thes_tables.specs.declared.rows.HierRow.{HierRow}
use Rattle.thes_tables.specs.declared.rows.PostingRow.{PostingRow}
use Rattle.thes_tables.specs.declared.rows.MoveRow.{MoveRow}
use Rattle.thes_base.specs.declared.data.Resource.{Resource}
use Rattle.thes_base.specs.declared.data.Link.{Link}
use Rattle.thes_base.specs.Labels.{Label}
use Rattle.thes_load_rules.specs.Rules.{ResourceRule, OutsideRule, LabelRule, LinkRule, HierRule, PostingRule, MoveRule}

-- A verdict on rows, as a property of the results of loading them (tables or a fault) that only the right result has.
abbrev pub Verdict : Type 1
Verdict = Result Tables Fault → Type 0

-- The verdict that is this fault if the condition holds, and otherwise the remaining verdict.
abbrev pub stopped_if : Type 0 → Fault → Verdict → Verdict
stopped_if condition fault rest answer = (condition × (answer ≡ Err fault)) ⊎ ((condition → ⊥) × rest answer)

-- The verdict that is the fault `BadStore` with the table's name if no typed rows pass, and otherwise the remaining
-- verdict, given rows that pass.
abbrev pub faulty_unless : {A : Type 0} → (A → Type 0) → Table → (A → Verdict) → Verdict
faulty_unless {A} passes name rest answer =
    (((x : A) → passes x → ⊥) × (answer ≡ Err (BadStore name))) ⊎ ((x : A) × passes x × rest x answer)

-- The database can query the table, the table has the cells of these typed rows, and the rows meet its rule.
abbrev pub IsTable : {A : Type 0} → (List A → List (List Cell)) → (List A → Type 0) → RawTable → List A → Type 0
IsTable cells_of Rule raw rows = (raw ≡ Some (cells_of rows)) × Rule rows

-- Table meta has one row, with key 1, a version that has the property, and an arbitrary base.
abbrev pub HasVersion : (ℕ → Type 0) → RawTable → Type 0
HasVersion Is raw =
    (version : ℕ) × (base : Cell) × Is version × (raw ≡ Some ((number_cell 1 ∷ number_cell version ∷ base ∷ []) ∷ []))

-- The store has a version after 2, which this program doesn't know.
abbrev pub IsNewer : RawTable → Type 0
IsNewer = HasVersion (λ version. 2 < version)

-- The store has version 1, and must be migrated.
abbrev pub IsOlder : RawTable → Type 0
IsOlder = HasVersion (λ version. version ≡ 1)

-- Table meta has one row, with key 1, version 2 and this base, which has the form of a base.
abbrev pub IsMeta : RawTable → List ℕ → Type 0
IsMeta raw base = (raw ≡ Some (meta_cells base ∷ [])) × IsBase base

-- The tables that have these typed rows.
abbrev pub tables_of :
    List ℕ → List Resource → List (ℕ × List ℕ) → List Label → List Link → List HierRow → List PostingRow → List MoveRow
    → Tables
tables_of base resources outside labels links hier postings moves =
    record {
      base = base;
      resource = resources;
      outside = outside;
      label = labels;
      link = links;
      hier = hier;
      posting = postings;
      move = moves;
    }

-- The verdict on the rows. The version is checked first, and then the tables meta, resource, outside, label, link,
-- hier, posting and move in order; the first table that breaks its rule is reported.
abbrev pub HasVerdict : Raw → Verdict
HasVerdict raw =
    stopped_if (IsNewer raw.meta) NewerStore
    (stopped_if (IsOlder raw.meta) OlderStore
    (faulty_unless (IsMeta raw.meta) table.Meta (λ base.
    faulty_unless (IsTable (resource_rows 1) ResourceRule raw.resource) table.Resource (λ resources.
    faulty_unless (IsTable (map outside_cells) (OutsideRule base resources) raw.outside) table.Outside (λ outside.
    faulty_unless (IsTable (map label_cells) (LabelRule resources) raw.label) table.Label (λ labels.
    faulty_unless (IsTable (map link_cells) (LinkRule resources) raw.link) table.Link (λ links.
    faulty_unless (IsTable (map hier_cells) (HierRule resources links) raw.hier) table.Hier (λ hier.
    faulty_unless (IsTable (map posting_cells) (PostingRule resources) raw.posting) table.Posting (λ postings.
    faulty_unless (IsTable (map move_cells) (MoveRule resources postings) raw.move) table.Move (λ moves answer.
    answer ≡ Ok (tables_of base resources outside labels links hier postings moves)))))))))))
