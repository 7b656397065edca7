-- Proves which rows pass the WHERE clause of each statement.
use Rattle.std.proofs.lemmas.Grind.{common_steps}
use Rattle.std.proofs.Common.{arith, ◌≡◌, ℕ, pos, List, [], ◌∷◌, ◌==◌, Bool, true, false, not, ◌&&◌, Some, refl, ap}
use Rattle.std.proofs.Common.{◌∙◌, is_eq, nat_cmp}
use Rattle.std.proofs.Math.Bool.{and-true}
use Rattle.std.specs.List.{list_all}
use Rattle.std.specs.Ordering.{eq_by_cmp}
use Rattle.std.specs.Cmp.Lexicographic.{slice_cmp}
use Rattle.std.proofs.lemmas.Bool.Decides.{nat_tests}
use Rattle.sqlite.specs.declared.types.Value.TheVariants.{Int, Text as Words}
use Rattle.sqlite.specs.Order.{Row}
use Rattle.sqlite_value.proofs.OrderLemmas.{value_cmp-Text}
use Rattle.sqlite.specs.Term.{holds}
use Rattle.sqlite_sql.specs.Ops.{binary, is_true, from_truth}
use Rattle.sqlite_sql.specs.declared.ops.BinaryOp.TheVariants as by
use Rattle.sqlite_sql.specs.declared.ops.CompareOp.TheVariants.{Eq}
use Rattle.sqlite_value.specs.declared.keys.Collation.TheVariants.{Binary}
use Rattle.thes_base.specs.declared.data.Link.{Link}
use Rattle.thes_base.specs.declared.data.Resource.{Resource}
use Rattle.thes_base.specs.Labels.{Label, label_cmp}
use Rattle.thes_base.specs.Links.{link_kind_no, link_cmp}
use Rattle.thes_base.proofs.SetMemberLemmas.{both_equal}
use Rattle.thes_tables.specs.declared.rows.HierRow.{HierRow}
use Rattle.thes_tables.specs.declared.rows.HierType.{HierType}
use Rattle.thes_tables.specs.declared.rows.PostingRow.{PostingRow}
use Rattle.thes_tables.specs.Tables.{hier_link, hier_kind}
use Rattle.thes_tables.specs.Cells.{hier_type_no}
use Rattle.thes_sql.specs.StoredRows.{hidden_row, stored_resource, stored_posting, label_values, link_values}
use Rattle.thes_sql.specs.StoredRows.{hier_values}
use Rattle.thes_sql.proofs.StatementTextLemmas.{number_filter, place_filter, label_filter, link_filter}
use Rattle.thes_sql.proofs.TableRowLemmas.{test_id}

truth_is : (b : Bool) → is_true (from_truth (Some b)) ≡ b
truth_is true = refl
truth_is false = refl

pub same_ints : (m n : ℕ) → is_true (binary (by.Compare Eq Binary) (Int (pos m)) (Int (pos n))) ≡ (m == n)
unfolding binary
same_ints m n = truth_is _ ∙ test_id m n

same_numbers : (m n : ℕ) → is_true (binary (by.Compare Eq Binary) (Int (pos m)) (Int (pos n))) ≡ is_eq (nat_cmp m n)
same_numbers m n = same_ints m n ∙ grind (arith, nat_tests)

pub same_words : (a b : List ℕ) → is_true (binary (by.Compare Eq Binary) (Words a) (Words b)) ≡ is_eq
    (slice_cmp nat_cmp a b)
unfolding binary
same_words a b = truth_is _ ∙ ap is_eq (value_cmp-Text a b)

pub by_resource : (params : Row) (n : ℕ) (row : ℕ × Resource)
    → list_all (holds ((Int (pos n) ∷ params) ∷ stored_resource row ∷ [])) number_filter ≡ (row.0 == n)
by_resource params n row = and-true _ ∙ same_ints row.0 n

pub by_number : (params : Row) (n : ℕ) (x : PostingRow) → list_all
    (holds ((Int (pos n) ∷ params) ∷ stored_posting x ∷ [])) number_filter ≡ (x.number == n)
by_number params n x = and-true _ ∙ same_ints x.number n

pub by_place : (params : Row) (source : ℕ) (x : PostingRow) →
    list_all (holds ((Int (pos source) ∷ params) ∷ stored_posting x ∷ [])) place_filter ≡
    (not x.withdrawn && x.place == source)
by_place params source x = grind (arith, common_steps, same_ints)

-- The only row that passes is that of this label.
pub by_label : (l : Label) (row : ℕ × Label) → list_all (holds (label_values l ∷ hidden_row label_values row ∷ []))
    label_filter ≡ eq_by_cmp label_cmp row.1 l
by_label l row = grind (arith, common_steps, same_numbers, same_words, both_equal)

pub by_link : (l : Link) (row : ℕ × Link) → list_all (holds (link_values l ∷ hidden_row link_values row ∷ []))
    link_filter ≡ eq_by_cmp link_cmp row.1 l
by_link l row = grind (arith, common_steps, same_numbers, both_equal)

same_types : (s t : HierType) → is_eq (nat_cmp (hier_type_no s) (hier_type_no t)) ≡ is_eq
    (nat_cmp (link_kind_no (hier_kind s)) (link_kind_no (hier_kind t)))
same_types s t = grind (arith, common_steps)

-- The only row that passes is that of this hierarchical link.
pub by_hier : (l : HierRow) (row : ℕ × HierRow) → list_all (holds (hier_values l ∷ hidden_row hier_values row ∷ []))
    link_filter ≡ eq_by_cmp link_cmp (hier_link row.1) (hier_link l)
by_hier l row = grind (arith, common_steps, same_numbers, same_types, both_equal)
