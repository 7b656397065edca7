-- The rows of labels that a merge adds are exactly those of the labels that it copies, each once.
use Rattle.std.proofs.lemmas.Grind.{common_steps}
use Rattle.std.proofs.Common.{◌≡◌, inl, inr, ℕ, List, [], ◌∷◌, sym, ap, ◌∙◌, subst, true, false, not, arith, map}
use Rattle.std.specs.Prelude.{filter}
use Rattle.std.specs.declared.cmp.Ordering.TheVariants.{Less}
use Rattle.std.specs.FinSet as set
use Rattle.std.specs.List.{AllByRecursion}
use Rattle.std.specs.List.Sorted.{IsStrictlySortedBy}
use Rattle.std.proofs.lemmas.Bool.{cases_Bool, or_cases, and_parts, and_from, not-true, not_from_false}
use Rattle.std.proofs.lemmas.List.Kept.{IsStrictlySortedBy-filter}
use Rattle.thes_base.specs.Data.{LabelData}
use Rattle.thes_base.specs.Labels.{Label, Labels, HasLabel, S13, is_lexical_kind}
use Rattle.thes_base.specs.Changes.{HasLexicalLabel, IsCopiedLabel, has_lexical_label, copied_labels}
use Rattle.thes_base.specs.Machine.{owned_label}
use Rattle.thes_base.proofs.LabelSetLemmas.{labels_total, labels_exact}
use Rattle.thes_base.proofs.CopiedLabelLemmas.{name_of, merge_copies_labels, name_taken}
use Rattle.thes_vocab.specs.OwnLabels.{AreLabelsOf, data_cmp, own_label}
use Rattle.thes_vocab.specs.CopiedLabels.{lacks_name, merged_label, AreMissingLabels}
use Rattle.thes_vocab.proofs.MergedRowLemmas.{as_labels}
use Rattle.thes_vocab.proofs.OwnLabelLemmas.{data_exact, data_total}
use Rattle.thes_tables.specs.Tables.{IsIn, AreDistinct, IsUnsortedListing}
use Rattle.thes_tables.proofs.RowSetLemmas.{Absent, set_with_list, absent_by, turn_into_by, clash, any_in, in_any}
use Rattle.thes_tables.proofs.RowSetLemmas.{in_filter, filter_in, in_map, map_in, once_map}

not_later : (l : LabelData) (ls : List LabelData) → AllByRecursion (λ y. data_cmp l y ≡ Less) ls → IsIn l ls → ⊥
not_later l [] below h = h
not_later l (x ∷ ls) below (inl e) = grind (arith, common_steps, clash, data_total)
not_later l (x ∷ ls) below (inr h) = not_later l ls below.1 h

once_ordered : (ls : List LabelData) → IsStrictlySortedBy data_cmp ls → AreDistinct ls
unfolding IsStrictlySortedBy
once_ordered [] up = tt
once_ordered (l ∷ ls) up = (not_later l ls up.0, once_ordered ls up.1)

-- The copied labels are all different, because no text in a language is a label of the source under two kinds (SKOS
-- S13).
module _ (labels : Labels) (source target : ℕ) (disjoint : S13 labels) (own : List LabelData)
    (are : AreLabelsOf labels source own) where
  abbrev labels_after_copy : Labels
  labels_after_copy = set.union labels (copied_labels source target labels)

  abbrev missing_names : List LabelData
  missing_names = filter (lacks_name labels target) own

  abbrev copied_names : LabelData → Label
  copied_names l = owned_label target (merged_label l)

  abbrev copied_rows : List Label
  copied_rows = map copied_names missing_names

  held_own : (l : LabelData) → IsIn l own → HasLabel labels source l.kind l.tag l.text
  held_own l h = sym (are.each l) ∙ any_in data_total data_exact l own h

  own_held : (l : LabelData) → HasLabel labels source l.kind l.tag l.text → IsIn l own
  own_held l h = in_any data_total data_exact l own (are.each l ∙ h)

  -- A label in the filtered list is a lexical label of the source that the target lacks.
  missing_name_parts : (l : LabelData) → IsIn l missing_names → IsIn l own × (is_lexical_kind l.kind ≡ true)
      × (has_lexical_label labels target l.tag l.text ≡ false)
  missing_name_parts l h = grind (arith, common_steps, and_parts, in_filter, not-true)

  given_new : (q : Label) → IsIn q copied_rows → IsCopiedLabel source target labels q
      × (set.contains labels q ≡ true → ⊥)
  given_new q h = grind (arith, common_steps, clash, held_own, in_map, missing_name_parts, name_of, name_taken)

  no_name : (tag text : List ℕ) → (¬ HasLexicalLabel labels target tag text) → has_lexical_label labels target tag
      text ≡ false
  no_name tag text free = grind (arith, common_steps, cases_Bool, or_cases)

  given_listed : (q : Label) → IsCopiedLabel source target labels q → IsIn q copied_rows
  given_listed q (kind, name, held, free, is) =
      let l = own_label kind q.tag q.text in
      let hit = and_from (is_lexical_kind kind) (not (has_lexical_label labels target q.tag q.text)) name
      (not_from_false _ (no_name q.tag q.text free)) in
      let Q : Label → Type 0 = λ x. IsIn x copied_rows in
      subst Q (sym is)
      (map_in copied_names l missing_names (filter_in (lacks_name labels target) l own (own_held l held) hit))

  one_given : (x y : LabelData) → IsIn x missing_names → IsIn y missing_names → copied_names x ≡ copied_names y → x ≡ y
  one_given x y hx hy e = grind (arith, common_steps, held_own, missing_name_parts)

  copied_is_added : IsUnsortedListing (λ q. (set.contains labels_after_copy q ≡ true)
      × (set.contains labels q ≡ true → ⊥)) copied_rows
  copied_is_added = record {
    sound = λ q h. let g = given_new q h in ((merge_copies_labels source target labels q).1 (inr g.0), g.1);
    complete = λ q h. elim ((merge_copies_labels source target labels q).0 h.0) [
      | inl old ↦ absurd (h.1 old)
      | inr new ↦ given_listed q new
    ];
    once = once_map copied_names missing_names one_given
        (once_ordered missing_names (IsStrictlySortedBy-filter data_cmp (lacks_name labels target) own are.ordered));
  }

  none_is_removed : IsUnsortedListing (λ q. (set.contains labels q ≡ true) × (set.contains labels_after_copy q ≡ true
      → ⊥)) []
  none_is_removed = grind (arith, common_steps, merge_copies_labels)

  taken_absent : Absent labels_total labels_exact copied_rows labels
  taken_absent = absent_by labels_total labels_exact labels labels_after_copy [] copied_rows
      copied_is_added

  taken_same : set_with_list labels_total labels_exact copied_rows labels
      ≡ set.union labels (copied_labels source target labels)
  taken_same = turn_into_by labels_total labels_exact labels labels_after_copy []
      copied_rows none_is_removed copied_is_added

-- The rows of the missing labels are those of the copies.
module _ (labels : Labels) (source target : ℕ) (disjoint : S13 labels) (copies : List LabelData)
    (missing : AreMissingLabels labels source target copies) where
  rows_are : map (owned_label target) copies ≡ copied_rows labels source target disjoint missing.0 missing.1
  rows_are = ap (map (owned_label target)) missing.2
      ∙ as_labels target (missing_names labels source target disjoint missing.0 missing.1)

  pub missing_absent : Absent labels_total labels_exact (map (owned_label target) copies) labels
  missing_absent = subst (λ rows. Absent labels_total labels_exact rows labels) (sym rows_are)
      (taken_absent labels source target disjoint missing.0 missing.1)

  pub missing_same : set_with_list labels_total labels_exact (map (owned_label target) copies) labels
      ≡ set.union labels (copied_labels source target labels)
  missing_same = ap (λ rows. set_with_list labels_total labels_exact rows labels) rows_are
      ∙ taken_same labels source target disjoint missing.0 missing.1
