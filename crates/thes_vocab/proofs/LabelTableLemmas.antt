-- Changes of an owner's row change the set of all labels in the same way.
use Rattle.std.proofs.lemmas.Grind.{common_steps}
use Rattle.std.proofs.Common.{◌≡◌, ◌≢◌, ◌≤◌, ◌<◌, ℕ, zero, suc, ◌+◌, ◌-◌, List, [], ◌∷◌, refl, sym, ap, ◌∙◌, arith, inl}
use Rattle.std.proofs.Common.{inr, Bool, true, false, not, ◌&&◌, ◌||◌, cond, map, length, get_or, set as set_at}
use Rattle.std.specs.Prelude.{Option, Some, slice_get}
use Rattle.std.specs.Option.{unwrap_or, MatchOption}
use Rattle.std.specs.Ordering.{nat_cmp, eq_by_cmp}
use Rattle.std.specs.Cmp.{Equal-is}
use Rattle.std.specs.List.{list_any}
use Rattle.std.proofs.lemmas.Bool.{cases_lt, both_ways}
use Rattle.std.proofs.lemmas.Grind.{get_or-set_at}
use Rattle.std.proofs.lemmas.List.{get_or-set_other, length-set}
use Rattle.std.proofs.lemmas.Option.{slice_get_past, slice_get-get_or}
use Rattle.std.proofs.lemmas.Map.Lookups.{exact_unsigned}
use Rattle.std.proofs.lemmas.List.Folds.{list_any-append}
use Rattle.std.proofs.Math.Bool.{and_assoc, and-false, and-or_distrib_left, or-false}
use Rattle.std.specs.FinSet as set
use Rattle.thes_base.specs.Data.{LabelData}
use Rattle.thes_base.specs.Labels.{Label, Labels, HasLabel, label_cmp}
use Rattle.thes_base.specs.declared.data.LabelKind.TheVariants.{Pref, Alt}
use Rattle.thes_base.specs.Changes.{label, replace_preferred}
use Rattle.thes_base.specs.Machine.{owned_label}
use Rattle.thes_base.proofs.LabelSetLemmas.{labels_total, labels_exact}
use Rattle.thes_base.proofs.SetMemberLemmas.{both_equal}
use Rattle.thes_vocab.specs.OwnLabels.{data_cmp, own_label, has_own, HasNoOwnPreferred, HasTwoOwnPreferred}
use Rattle.thes_vocab.specs.Rivals.{HasTwoPreferred}
use Rattle.thes_vocab.specs.LabelRows.{LabelRows, all_owned, labels_in, owner_row, IsRowOfOwner, HasNoLabels}
use Rattle.thes_vocab.specs.LabelRows.{RowsAfterInsert, RowsAfterInsertions, RowsAfterRemove, IsRowWritten}
use Rattle.thes_vocab.specs.LabelRows.{AreSameLabelRows}

-- The label without its owner.
abbrev pub data_of : Label → LabelData
data_of q = own_label q.kind q.tag q.text

-- Labels are equal exactly when their owners and their remaining parts are.
pub owned_tie : (q : Label) (owner : ℕ) (l : LabelData) → eq_by_cmp label_cmp q (owned_label owner l)
    ≡ (eq_by_cmp nat_cmp q.owner owner && eq_by_cmp data_cmp (data_of q) l)
owned_tie q owner l = grind (arith, common_steps, and_assoc, both_equal)

pub any_row : (q : Label) (owner : ℕ) (row : List LabelData) → list_any (eq_by_cmp label_cmp q)
    (map (owned_label owner) row) ≡ (eq_by_cmp nat_cmp q.owner owner && has_own row (data_of q))
any_row q owner [] = sym (and-false (eq_by_cmp nat_cmp q.owner owner))
any_row q owner (l ∷ row) = grind (arith, common_steps, and-or_distrib_left, owned_tie, any_row q owner row)

-- Different numbers don't compare as equal.
pub apart_by_cmp : (m n : ℕ) → m ≢ n → eq_by_cmp nat_cmp m n ≡ false
apart_by_cmp m n apart = grind (arith, common_steps, Equal-is, exact_unsigned)

module _ (q : Label) where
  -- If the first row is that of owner `k`, the rows have no labels of owners with smaller numbers.
  none_before : (k : ℕ) (rows : LabelRows) → q.owner < k → list_any (eq_by_cmp label_cmp q) (all_owned k rows) ≡ false
  none_before k [] before = refl
  none_before k (row ∷ rows) before =
      grind (
        arith,
        common_steps,
        any_row,
        apart_by_cmp,
        list_any-append,
        none_before (k + 1) rows (omega (arith, before)),
      )

  found_from : (k i : ℕ) (rows : LabelRows) → q.owner ≡ k + i
      → list_any (eq_by_cmp label_cmp q) (all_owned k rows) ≡ has_own (owner_row rows i) (data_of q)
  found_from k i [] at = refl
  found_from k zero (row ∷ rows) at = grind (arith, common_steps, any_row, list_any-append, none_before, or-false)
  found_from k (suc i) (row ∷ rows) at =
      grind (arith, common_steps, any_row, apart_by_cmp, list_any-append, found_from (k + 1) i rows (omega (arith, at)))

-- The set has a label exactly when its owner's row has it.
pub has_label : (rows : LabelRows) (q : Label) → set.contains (labels_in rows) q
    ≡ has_own (owner_row rows q.owner) (data_of q)
has_label rows q = set.contains-from_list labels_total (all_owned 0 rows) q ∙ found_from q 0 q.owner rows (omega arith)

-- The same rows have the same set of labels.
pub same_labels : (old new : LabelRows) → AreSameLabelRows old new → labels_in new ≡ labels_in old
same_labels old new same = set.same_set labels_total labels_exact _ _
    (λ q. has_label new q ∙ ap (λ row. has_own row (data_of q)) (same q.owner) ∙ sym (has_label old q))

pub put_labels : (old new : LabelRows) (owner : ℕ) (l : LabelData) → RowsAfterInsert old new owner l
    → labels_in new ≡ set.insert (labels_in old) (owned_label owner l)
put_labels old new owner l is = set.same_set labels_total labels_exact _ _ (λ q.
    has_label new q ∙ is q.owner (data_of q)
    ∙ sym (set.contains-insert labels_total (labels_in old) (owned_label owner l) q
    ∙ ap (λ b. b || set.contains (labels_in old) q) (owned_tie q owner l)
    ∙ ap (λ b. (eq_by_cmp nat_cmp q.owner owner && eq_by_cmp data_cmp (data_of q) l) || b) (has_label old q)))

pub take_labels : (old new : LabelRows) (owner : ℕ) (l : LabelData) → RowsAfterRemove old new owner l
    → labels_in new ≡ set.remove (labels_in old) (owned_label owner l)
take_labels old new owner l is = set.same_set labels_total labels_exact _ _ (λ q.
    has_label new q ∙ is q.owner (data_of q)
    ∙ sym (set.contains-remove labels_total (labels_in old) (owned_label owner l) q
    ∙ ap (λ b. not b && set.contains (labels_in old) q) (owned_tie q owner l)
    ∙ ap (λ b. not (eq_by_cmp nat_cmp q.owner owner && eq_by_cmp data_cmp (data_of q) l) && b) (has_label old q)))

pub row_owns : (rows : LabelRows) (owner : ℕ) (o : Option (List LabelData)) → o ≡ slice_get rows owner
    → MatchOption o (HasNoLabels (labels_in rows) owner) (IsRowOfOwner (labels_in rows) owner)
row_owns rows owner o e = grind (arith, common_steps, has_label)

-- Writing a row at the index of an owner that has one replaces only that owner's row.
pub row_set : (rows : LabelRows) (owner i : ℕ) (now : List LabelData) → i ≡ owner → i < length rows
    → IsRowWritten rows (set_at rows i now) owner now
row_set rows owner i now at within = record {
  own = ap (λ o. unwrap_or o []) (slice_get-get_or (set_at rows i now) owner now
      (omega (arith, at, within, length-set rows i now))
      ∙ ap Some (get_or-set_at rows i owner now now (sym at) within));
  others = λ n apart. ap (λ o. unwrap_or o []) (elim (cases_lt n (length rows)) [
    | inl inside ↦ slice_get-get_or (set_at rows i now) n now (omega (arith, inside, length-set rows i now))
        ∙ ap Some (get_or-set_other rows i n now now (λ same. apart (same ∙ at)))
        ∙ sym (slice_get-get_or rows n now inside)
    | inr past ↦ slice_get_past (set_at rows i now) n (omega (arith, past, length-set rows i now))
        ∙ sym (slice_get_past rows n past)
  ]);
}

-- The row at the index that is an owner's number is the owner's row.
pub row_at : (rows : LabelRows) (owner i : ℕ) (row : List LabelData) → i ≡ owner → i < length rows
    → row ≡ get_or rows i row → owner_row rows owner ≡ row
row_at rows owner i row at within is = ap (owner_row rows) (sym at)
    ∙ ap (λ o. unwrap_or o []) (slice_get-get_or rows i row within) ∙ sym is

pub row_after : (old new : LabelRows) (owner : ℕ) (now : List LabelData) → IsRowWritten old new owner now → (n : ℕ)
    → owner_row new n ≡ cond (eq_by_cmp nat_cmp n owner) now (owner_row old n)
row_after old new owner now w n = grind (arith, common_steps, Equal-is, both_ways, exact_unsigned)

pub row_put : (old new : LabelRows) (owner : ℕ) (now : List LabelData) (l : LabelData)
    → IsRowWritten old new owner now
    → ((q : LabelData) → has_own now q ≡ (eq_by_cmp data_cmp q l || has_own (owner_row old owner) q))
    → RowsAfterInsert old new owner l
row_put old new owner now l w each n q = grind (arith, common_steps, Equal-is, exact_unsigned, row_after)

pub row_put_all : (old new : LabelRows) (owner : ℕ) (now inserted : List LabelData) → IsRowWritten old new owner now
    → ((q : LabelData) → has_own now q ≡ (has_own inserted q || has_own (owner_row old owner) q))
    → RowsAfterInsertions old new owner inserted
row_put_all old new owner now inserted w each = grind (arith, common_steps)

pub row_taken : (old new : LabelRows) (owner : ℕ) (now : List LabelData) (l : LabelData)
    → IsRowWritten old new owner now
    → ((q : LabelData) → has_own now q ≡ (not (eq_by_cmp data_cmp q l) && has_own (owner_row old owner) q))
    → RowsAfterRemove old new owner l
row_taken old new owner now l w each n q = grind (arith, common_steps, Equal-is, exact_unsigned, row_after)

-- Replacing a row by itself changes nothing.
pub row_kept : (old new : LabelRows) (owner : ℕ) (now : List LabelData) → IsRowWritten old new owner
    now → now ≡ owner_row old owner → AreSameLabelRows old new
row_kept old new owner now w same n = grind (arith, common_steps, Equal-is, exact_unsigned, row_after)

pub preferred_owned : (labels : Labels) (owner : ℕ) (tag : List ℕ) (row : List LabelData) → IsRowOfOwner labels owner
    row → HasNoOwnPreferred row tag → (text : List ℕ) → HasLabel labels owner Pref tag text → ⊥
preferred_owned labels owner tag row owns none text has = none text (owns (own_label Pref tag text) ∙ has)

-- A row has two preferred labels exactly when its owner has.
pub two_owned : (labels : Labels) (owner : ℕ) (row : List LabelData) → IsRowOfOwner labels owner row
    → (HasTwoOwnPreferred row → HasTwoPreferred labels owner)
    × (HasTwoPreferred labels owner → HasTwoOwnPreferred row)
two_owned labels owner row owns = grind (arith, common_steps)

pub none_two : (labels : Labels) (owner : ℕ) → HasNoLabels labels owner → HasTwoPreferred labels owner → ⊥
none_two labels owner none two = let e = none (own_label Pref two.first_tag two.first_text) in let f = two.first in cc

pub none_preferred : (labels : Labels) (owner : ℕ) (tag text : List ℕ) → HasNoLabels labels owner
    → HasLabel labels owner Pref tag text → ⊥
none_preferred labels owner tag text none has = let e = none (own_label Pref tag text) in cc

module _ (old new : LabelRows) (count owner : ℕ) (l : LabelData) (counted : count ≡ set.len (labels_in old)) where
  was_there : set.contains (labels_in old) (owned_label owner l) ≡ has_own (owner_row old owner) l
  was_there = has_label old (owned_label owner l)

  pub rows_put : RowsAfterInsert old new owner l → (added : Bool) → added ≡ not (has_own (owner_row old owner) l)
      → cond added (count + 1) count ≡ set.len (labels_in new)
  rows_put is added e = go (has_own (owner_row old owner) l) refl ∙ sym after
    where
      after : set.len (labels_in new) ≡ cond (has_own (owner_row old owner) l)
          (set.len (labels_in old)) (set.len (labels_in old) + 1)
      after = ap set.len (put_labels old new owner l is) ∙ set.len-insert labels_total
          (labels_in old) (owned_label owner l)
          ∙ ap (λ b. cond b (set.len (labels_in old)) (set.len (labels_in old) + 1)) was_there

      go : (b : Bool) → has_own (owner_row old owner) l ≡ b → cond added (count + 1) count
          ≡ cond b (set.len (labels_in old)) (set.len (labels_in old) + 1)
      go true h = ap (λ a. cond a (count + 1) count) (e ∙ ap not h) ∙ counted
      go false h = ap (λ a. cond a (count + 1) count) (e ∙ ap not h) ∙ ap (λ n. n + 1) counted

  pub rows_taken : RowsAfterRemove old new owner l → (taken : Bool) → taken ≡ has_own (owner_row old owner) l
      → cond taken (count - 1) count ≡ set.len (labels_in new)
  rows_taken is taken e = ap (λ n. cond taken (n - 1) n) counted
      ∙ sym (ap set.len (take_labels old new owner l is) ∙ set.len-remove labels_total (labels_in old)
      (owned_label owner l)
      ∙ ap (λ b. cond b (set.len (labels_in old) - 1) (set.len (labels_in old))) (was_there ∙ sym e))

  -- If the owner's row has the label, the number of all labels is at least 1.
  pub counted_one : has_own (owner_row old owner) l ≡ true → 1 ≤ count
  counted_one has = grind (arith, common_steps, set.contains-empty, set.empty_of_len, was_there)

module _ (labels : Labels) where
  -- Removing a new label after its insertion gives the old set.
  pub remove_after_insert : (l : Label) → set.contains labels l ≡ false → set.remove (set.insert labels l) l ≡ labels
  remove_after_insert l new = set.same_set labels_total labels_exact _ _
      (λ q. set.contains-remove labels_total (set.insert labels l) l q ∙ ap (λ b. not (eq_by_cmp label_cmp q l) && b)
      (set.contains-insert labels_total labels l q) ∙ go q (eq_by_cmp label_cmp q l) refl)
    where
      go : (q : Label) (b : Bool) → eq_by_cmp label_cmp q l ≡ b → (not b && (b || set.contains labels q))
          ≡ set.contains labels q
      go q true tie = sym (ap (set.contains labels) (labels_exact q l ((Equal-is (label_cmp q l)).0 tie)) ∙ new)
      go q false tie = refl

  -- Inserting a label again after its removal gives the old set.
  pub insert_after_remove : (l : Label) → set.contains labels l ≡ true → set.insert (set.remove labels l) l ≡ labels
  insert_after_remove l held = set.same_set labels_total labels_exact _ _
      (λ q. set.contains-insert labels_total (set.remove labels l) l q ∙ ap (λ b. eq_by_cmp label_cmp q l || b)
      (set.contains-remove labels_total labels l q) ∙ go q (eq_by_cmp label_cmp q l) refl)
    where
      go : (q : Label) (b : Bool) → eq_by_cmp label_cmp q l ≡ b → (b || (not b && set.contains labels q))
          ≡ set.contains labels q
      go q true tie = sym (ap (set.contains labels) (labels_exact q l ((Equal-is (label_cmp q l)).0 tie)) ∙ held)
      go q false tie = refl

  -- Inserting one label and removing another commute.
  pub insert_and_remove_commute : (l old_label : Label) → l ≢ old_label → set.remove (set.insert labels l) old_label
      ≡ set.insert (set.remove labels old_label) l
  insert_and_remove_commute l old_label apart = set.same_set labels_total labels_exact _ _ (λ q.
      set.contains-remove labels_total (set.insert labels l) old_label q
      ∙ ap (λ b. not (eq_by_cmp label_cmp q old_label) && b) (set.contains-insert labels_total labels l q)
      ∙ go q (eq_by_cmp label_cmp q old_label) refl (eq_by_cmp label_cmp q l) refl
      ∙ sym (set.contains-insert labels_total (set.remove labels old_label) l q
      ∙ ap (λ b. eq_by_cmp label_cmp q l || b) (set.contains-remove labels_total labels old_label q)))
    where
      go : (q : Label) (a : Bool) → eq_by_cmp label_cmp q old_label ≡ a → (b : Bool) → eq_by_cmp label_cmp q l ≡ b
          → (not a && (b || set.contains labels q)) ≡ (b || (not a && set.contains labels q))
      go q true e true f =
          absurd (apart (sym (labels_exact q l ((Equal-is (label_cmp q l)).0 f)) ∙ labels_exact q old_label
          ((Equal-is (label_cmp q old_label)).0 e)))
      go q true e false f = refl
      go q false e b f = refl

module _ (labels : Labels) (owner : ℕ) (tag text old : List ℕ) (differ : old ≢ text) where
  abbrev old_label : Label
  old_label = label owner Pref tag old

  pub renamed_plain : set.remove (set.insert labels (label owner Pref tag text)) old_label ≡ replace_preferred owner
      tag text false old labels
  renamed_plain = insert_and_remove_commute labels (label owner Pref tag text) old_label
      (λ e. differ (sym (ap (λ (l : Label). l.text) e)))

  pub renamed_keeping : set.remove (set.insert (set.insert labels (label owner Pref tag text))
      (label owner Alt tag old)) old_label ≡ replace_preferred owner tag text true old labels
  renamed_keeping = grind (arith, common_steps, insert_and_remove_commute, renamed_plain)
