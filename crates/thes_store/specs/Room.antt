-- The tables in memory, and their room for further rows.
use Rattle.std.specs.Prelude.{◌≡◌, ◌≤◌, ◌+◌, ◌++◌, List, length, vec_len}
use Rattle.std.specs.Vec.{vec_capacity}
use Rattle.thes_base.specs.Labels.{Label}
use Rattle.thes_tables.specs.declared.change.Change.{Change}
use Rattle.thes_tables.specs.Tables.{Tables}
use Rattle.thes_store.specs.declared.tables.MemTables.{MemTables}
use Rattle.thes_store.specs.AddedRow.{rows_added_by, added_resource, added_outside, added_label, inserted_link}
use Rattle.thes_store.specs.AddedRow.{added_hier, added_posting, added_move, changed_label}
use Rattle.thes_store.specs.Numbers.{owner_of, indexed_end_of, narrower_end_of}
use Rattle.thes_store.specs.Slots.{rows_in, AreIndexedBy, IsReady}

-- The tables that are kept in memory, without gaps.
abbrev pub tables_in_memory : MemTables → Tables
tables_in_memory m =
    record {
      base = m.base;
      resource = m.resource.items;
      outside = m.outside.items;
      label = rows_in m.label;
      link = rows_in m.link;
      hier = rows_in m.hier;
      posting = m.posting.items;
      move = m.steps.items;
    }

-- Each label is indexed under its owner, and each link under one of its ends.
pub record AllIndexed (m : MemTables) : Type 0 where
  pub label : AreIndexedBy owner_of m.label
  pub link : AreIndexedBy indexed_end_of m.link
  pub hier : AreIndexedBy narrower_end_of m.hier

-- Each table has reserved memory for the rows that the changes insert into it, the indexes of labels and links have the
-- positions of these rows, and the next copies of labels are those of the labels that the changes insert or delete.
pub record HasRoomForRows (changes : List Change) (m : MemTables) : Type 0 where
  pub resource : vec_len m.resource + length (rows_added_by added_resource changes) ≤ vec_capacity m.resource
  pub outside : vec_len m.outside + length (rows_added_by added_outside changes) ≤ vec_capacity m.outside
  pub label : IsReady owner_of m.label (rows_added_by added_label changes)
  pub link : IsReady indexed_end_of m.link (rows_added_by inserted_link changes)
  pub hier : IsReady narrower_end_of m.hier (rows_added_by added_hier changes)
  pub posting : vec_len m.posting + length (rows_added_by added_posting changes) ≤ vec_capacity m.posting
  pub steps : vec_len m.steps + length (rows_added_by added_move changes) ≤ vec_capacity m.steps
  pub label_copies : (rest : List Label) × (m.label_copies.items ≡ rows_added_by changed_label changes ++ rest)

-- The changes can be applied without failing: the tables have room for the rows that they insert, and each label and
-- link is indexed.
pub record IsReadyForChanges (changes : List Change) (m : MemTables) : Type 0 where
  pub room : HasRoomForRows changes m
  pub index : AllIndexed m
