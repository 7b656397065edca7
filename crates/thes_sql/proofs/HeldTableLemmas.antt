-- Proves that a store remains a store when a statement rewrites one of its tables.
use Rattle.std.proofs.Common.{arith, ◌≡◌, ◌≢◌, ℕ, List, [], ◌∷◌, sym, subst, rules}
use Rattle.std.specs.List.{AllByRecursion}
use Rattle.sqlite.specs.Order.{Row}
use Rattle.sqlite.specs.Tree.{Trees}
use Rattle.sqlite.specs.State.{State}
use Rattle.sqlite.specs.Effect.{Database}
use Rattle.thes_base.specs.declared.data.Resource.{Resource}
use Rattle.thes_base.specs.declared.data.Link.{Link}
use Rattle.thes_base.specs.Labels.{Label}
use Rattle.thes_base.specs.declared.fault.Table.{Table}
use Rattle.thes_base.specs.declared.fault.Table.TheVariants as table
use Rattle.thes_tables.specs.declared.rows.HierRow.{HierRow}
use Rattle.thes_tables.specs.declared.rows.PostingRow.{PostingRow}
use Rattle.thes_tables.specs.declared.rows.MoveRow.{MoveRow}
use Rattle.thes_tables.specs.Tables.{Tables}
use Rattle.thes_sql.specs.StoredRows.{Keeps, KeepsIn, AreHidden, ArePostingsNumbered, HoldResources, HoldOutside}
use Rattle.thes_sql.specs.StoredRows.{HoldPostings}
use Rattle.thes_sql.specs.StoredRows.{HoldMoves, label_values, link_values, hier_values, AreSpelled, IsSpelledOutside}
use Rattle.thes_sql.specs.StoredRows.{IsSpelledLabel, IsSpelledPosting}
use Rattle.thes_sql.specs.OldStore.{KeepsAs, stored_version}
use Rattle.thes_sql.specs.Reads.{tree_of}
use Rattle.thes_sql.specs.Additions.{IsStoreSchema, LeavesUserTables}
use Rattle.thes_sql.proofs.ForeignKeyLemmas.{LeavesOtherTables}
use Rattle.thes_sql.proofs.StatementLemmas.{Rewrites}

-- The tree has the rows of this table; the row of table meta has this version.
abbrev pub HoldsAs : ℕ → Table → Tables → List Row → Type 0
HoldsAs version table.Meta t tree = tree ≡ stored_version version t.base ∷ []
HoldsAs version table.Resource t tree = HoldResources t.resource tree
HoldsAs version table.Outside t tree = HoldOutside t.outside tree
HoldsAs version table.Label t tree = AreHidden label_values t.label tree
HoldsAs version table.Link t tree = AreHidden link_values t.link tree
HoldsAs version table.Hier t tree = AreHidden hier_values t.hier tree
HoldsAs version table.Posting t tree = HoldPostings t.posting tree
HoldsAs version table.Move t tree = HoldMoves t.move tree

-- A database has become a store with these tables, whose table meta has this version. It has the schema that it had
-- before, and the rows of a user's tables.
pub record BecomesAs (version : ℕ) (old new : Database) (t : Tables) : Type 0 where
  pub schema : new.schema ≡ old.schema
  pub keeps : KeepsAs version new t
  pub users : LeavesUserTables old.schema old.trees new.trees

-- A database in which each tree has its table's rows, and whose schema was that of a store, is a store with the tables.
pub becomes_all : (version : ℕ) (old new : Database) (t : Tables) → new.schema ≡ old.schema → IsStoreSchema old.schema
    → ((p : Table) → HoldsAs version p t (new.trees (tree_of p))) → ArePostingsNumbered 1 t.posting → AreSpelled t
    → LeavesUserTables old.schema old.trees new.trees → BecomesAs version old new t
becomes_all version old new t same has each numbered spelled users = record {
  schema = same;
  keeps = record {
    schema = subst IsStoreSchema (sym same) has;
    hold = record {
      meta = each table.Meta;
      resource = each table.Resource;
      outside = each table.Outside;
      label = each table.Label;
      link = each table.Link;
      posting = each table.Posting;
      numbered = numbered;
      move = each table.Move;
      spelled = spelled;
    };
    hier = each table.Hier;
  };
  users = users;
}

-- A store is of version 2 exactly if its table meta has version 2.
pub keeps_current : (db : Database) (t : Tables) → KeepsAs 2 db t → Keeps db t
keeps_current db t k = search rules

pub keeps_as_current : (db : Database) (t : Tables) → Keeps db t → KeepsAs 2 db t
keeps_as_current db t k = search rules

pub becomes_current : (old new : Database) (t : Tables) → BecomesAs 2 old new t → KeepsIn old.schema new t
becomes_current old new t b = record { schema_is = b.schema; keeps = keeps_current new t b.keeps }

pub untouched_tree : (tree : ℕ) (old new : Trees) → LeavesOtherTables tree old new → (p : Table) → tree_of p ≢ tree
    → new (tree_of p) ≡ old (tree_of p)
untouched_tree tree old new same table.Meta = same.0
untouched_tree tree old new same table.Resource = same.1.0
untouched_tree tree old new same table.Outside = same.1.1.0
untouched_tree tree old new same table.Label = same.1.1.1.0
untouched_tree tree old new same table.Link = same.1.1.1.1.0
untouched_tree tree old new same table.Hier = same.1.1.1.1.1.1.1.0
untouched_tree tree old new same table.Posting = same.1.1.1.1.1.0
untouched_tree tree old new same table.Move = same.1.1.1.1.1.1.0

-- Assumes a store whose table meta has this version.
module _ (version : ℕ) (old new : State) (t : Tables) (kept : KeepsAs version old.now t) where
  holds_tree : (p : Table) → HoldsAs version p t (old.now.trees (tree_of p))
  holds_tree table.Meta = kept.hold.meta
  holds_tree table.Resource = kept.hold.resource
  holds_tree table.Outside = kept.hold.outside
  holds_tree table.Label = kept.hold.label
  holds_tree table.Link = kept.hold.link
  holds_tree table.Hier = kept.hier
  holds_tree table.Posting = kept.hold.posting
  holds_tree table.Move = kept.hold.move

  -- Each table other than the rewritten one still has its rows.
  pub other_table_held : {tree : ℕ} {Held : List Row → Type 0} → Rewrites tree Held old new → (p : Table)
      → tree_of p ≢ tree → HoldsAs version p t (new.now.trees (tree_of p))
  other_table_held {tree} w p apart =
      subst (HoldsAs version p t) (sym (untouched_tree tree old.now.trees new.now.trees w.others p apart))
      (holds_tree p)

  pub becomes_resource : (rows : List Resource) → Rewrites 1 (HoldResources rows) old new
      → BecomesAs version old.now new.now (record t { resource = rows })
  becomes_resource rows w = becomes_all version old.now new.now (record t { resource = rows }) w.schema kept.schema
      (elim [ table.Resource ↦ w.rows | p ↦ other_table_held w p (λ e. omega (arith, e)) ]) kept.hold.numbered
      kept.hold.spelled w.users

  pub becomes_outside : (rows : List (ℕ × List ℕ)) → Rewrites 2 (HoldOutside rows) old new
      → AllByRecursion IsSpelledOutside rows → BecomesAs version old.now new.now (record t { outside = rows })
  becomes_outside rows w told = becomes_all version old.now new.now (record t { outside = rows }) w.schema kept.schema
      (elim [ table.Outside ↦ w.rows | p ↦ other_table_held w p (λ e. omega (arith, e)) ]) kept.hold.numbered
      (kept.hold.spelled.0, (told, kept.hold.spelled.1.1)) w.users

  pub becomes_label : (rows : List Label) → Rewrites 4 (AreHidden label_values rows) old new
      → AllByRecursion IsSpelledLabel rows → BecomesAs version old.now new.now (record t { label = rows })
  becomes_label rows w told = becomes_all version old.now new.now (record t { label = rows }) w.schema kept.schema
      (elim [ table.Label ↦ w.rows | p ↦ other_table_held w p (λ e. omega (arith, e)) ]) kept.hold.numbered
      (kept.hold.spelled.0, (kept.hold.spelled.1.0, (told, kept.hold.spelled.1.1.1))) w.users

  pub becomes_link : (rows : List Link) → Rewrites 6 (AreHidden link_values rows) old new
      → BecomesAs version old.now new.now (record t { link = rows })
  becomes_link rows w = becomes_all version old.now new.now (record t { link = rows }) w.schema kept.schema
      (elim [ table.Link ↦ w.rows | p ↦ other_table_held w p (λ e. omega (arith, e)) ]) kept.hold.numbered
      kept.hold.spelled w.users

  pub becomes_hier : (rows : List HierRow) → Rewrites 11 (AreHidden hier_values rows) old new
      → BecomesAs version old.now new.now (record t { hier = rows })
  becomes_hier rows w = becomes_all version old.now new.now (record t { hier = rows }) w.schema kept.schema
      (elim [ table.Hier ↦ w.rows | p ↦ other_table_held w p (λ e. omega (arith, e)) ]) kept.hold.numbered
      kept.hold.spelled w.users

  pub becomes_posting : (rows : List PostingRow) → Rewrites 8 (HoldPostings rows) old new → ArePostingsNumbered 1 rows
      → AllByRecursion IsSpelledPosting rows → BecomesAs version old.now new.now (record t { posting = rows })
  becomes_posting rows w num told = becomes_all version old.now new.now (record t { posting = rows }) w.schema
      kept.schema (elim [ table.Posting ↦ w.rows | p ↦ other_table_held w p (λ e. omega (arith, e)) ]) num
      (kept.hold.spelled.0, (kept.hold.spelled.1.0, (kept.hold.spelled.1.1.0, told))) w.users

  pub becomes_move : (rows : List MoveRow) → Rewrites 10 (HoldMoves rows) old new
      → BecomesAs version old.now new.now (record t { move = rows })
  becomes_move rows w = becomes_all version old.now new.now (record t { move = rows }) w.schema kept.schema
      (elim [ table.Move ↦ w.rows | p ↦ other_table_held w p (λ e. omega (arith, e)) ]) kept.hold.numbered
      kept.hold.spelled w.users
