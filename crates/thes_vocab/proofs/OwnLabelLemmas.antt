-- Searches, insertions and removals in an owner's sorted list of labels.
use Rattle.std.proofs.lemmas.Grind.{common_steps}
use Rattle.std.proofs.Common.{◌≡◌, ◌≢◌, inl, inr, ◌<◌, ◌≤◌, ◌+◌, ℕ, suc, length, List, [], ◌∷◌, ◌++◌, refl, sym, ap, ◌∙◌}
use Rattle.std.proofs.Common.{subst, arith, Bool, true, false, not, ◌&&◌, ◌||◌, get_or}
use Rattle.std.specs.Prelude.{Result, Ok, Err, is_ok}
use Rattle.std.specs.Result.{MatchResult, result_ok}
use Rattle.std.specs.Option.{MatchOption}
use Rattle.std.specs.declared.cmp.Ordering.{Ordering}
use Rattle.std.specs.declared.cmp.Ordering.TheVariants.{Less, Equal, Greater}
use Rattle.std.specs.BTreeMap.{is_at}
use Rattle.std.specs.BTreeSet.{insert_key}
use Rattle.std.specs.Set.{remove_key}
use Rattle.std.proofs.Math.Bool.{or-true, or-false, or_assoc}
use Rattle.std.proofs.lemmas.Bool.{cases_lt, or_cases, or_left, or_right}
use Rattle.std.proofs.lemmas.Map.Keys.{Less-from_sorted}
use Rattle.std.proofs.lemmas.List.Sorted.{searchable_from_sorted}
use Rattle.std.specs.Ordering.{nat_cmp, eq_by_cmp, is_eq, is_lt, ordering_reverse, ordering_then}
use Rattle.std.specs.Cmp.{IsTotalOrder, nat_cmp_total, tied_itself, Equal-is}
use Rattle.std.specs.List.{AllByRecursion, insert, list_any, remove}
use Rattle.std.specs.List.Sorted.{IsStrictlySortedBy, IsBinarySearchResult, IsSearchInRange, IsPartitionPoint}
use Rattle.std.specs.Cmp.Lexicographic.{slice_cmp}
use Rattle.std.proofs.lemmas.Cmp.{then_total, on_total, nat_list_cmp_total}
use Rattle.std.proofs.lemmas.List.Folds.{list_any_at, list_any-append}
use Rattle.thes_base.specs.declared.data.LabelKind.{LabelKind}
use Rattle.thes_base.specs.declared.data.LabelKind.TheVariants.{Pref}
use Rattle.thes_base.specs.Data.{LabelData}
use Rattle.thes_base.specs.Labels.{label_kind_no}
use Rattle.thes_base.specs.Machine.{owned_label}
use Rattle.thes_base.proofs.LabelSetLemmas.{labels_exact}
use Rattle.thes_base.proofs.SetMemberLemmas.{then_assoc}
use Rattle.thes_vocab.specs.OwnLabels.{language_cmp, data_cmp, own_label, has_own, HasOwnPreferred, HasNoOwnPreferred}
use Rattle.thes_vocab.specs.OwnLabels.{HasTwoOwnPreferred}
use Rattle.thes_vocab.specs.LabelPositions.{IsLabelPosition, IsPreferredAt}
use Rattle.thes_lists.proofs.OrderLemmas.{sorted_by_index, insert_missing, insert_found, insert_sorted, remove_found}
use Rattle.thes_lists.proofs.OrderLemmas.{remove_missing, remove_sorted}
use Rattle.thes_lists.proofs.TestLemmas.{has_found, has_missed, has_insert, has_remove}

pub language_total : IsTotalOrder language_cmp
language_total = then_total (on_total (λ (l : LabelData). label_kind_no l.kind) nat_cmp_total)
    (on_total (λ (l : LabelData). l.tag) nat_list_cmp_total)

pub data_total : IsTotalOrder data_cmp
data_total = then_total language_total (on_total (λ (l : LabelData). l.text) nat_list_cmp_total)

pub less_not_equal : (r : Ordering) → r ≡ Less → r ≡ Equal → ⊥
less_not_equal r e f = cc

-- Labels that compare as equal are equal.
pub data_exact : (x y : LabelData) → data_cmp x y ≡ Equal → x ≡ y
data_exact x y e = let same = labels_exact (owned_label 0 x) (owned_label 0 y)
    (sym (then_assoc (nat_cmp (label_kind_no x.kind) (label_kind_no y.kind)) (slice_cmp nat_cmp x.tag y.tag)
    (slice_cmp nat_cmp x.text y.text)) ∙ e) in λ i. record {
      kind = (same i).kind;
      tag = (same i).tag;
      text =
          (same i).text;
    }

pub label_data_of_tie : (x y : LabelData) → eq_by_cmp data_cmp x y ≡ true → x ≡ y
label_data_of_tie x y e = data_exact x y ((Equal-is (data_cmp x y)).0 e)

pub tie_of_label_data : (x y : LabelData) → x ≡ y → eq_by_cmp data_cmp x y ≡ true
tie_of_label_data x y e = ap (λ z. eq_by_cmp data_cmp x z) (sym e) ∙ ap is_eq (tied_itself data_total x)

-- A binary search returns the index of the label, or the index at which it would be inserted.
pub place_of_search : (own : List LabelData) (l : LabelData) (r : Result ℕ ℕ) → IsStrictlySortedBy data_cmp own
    → IsSearchInRange r (length own) → IsBinarySearchResult (λ x. data_cmp x l) own r → IsLabelPosition own l r
place_of_search own l (Ok i) sorted bound found = (bound, found)
place_of_search own l (Err i) sorted bound found = (bound, found (sorted_by_index data_cmp data_total own l sorted))

pub found_is : (own : List LabelData) (l : LabelData) (r : Result ℕ ℕ) → IsLabelPosition own l r
    → is_ok r ≡ has_own own l
found_is own l (Ok i) at = sym (has_found data_cmp data_total own i l at.0 at.1)
found_is own l (Err i) at = sym (has_missed data_cmp data_total own i l at.1 at.0)

-- If a test passes somewhere in a list, the list has a label that passes it.
pub any_found : (test : LabelData → Bool) (own : List LabelData) → list_any test own ≡ true → (d : LabelData)
    × (test d ≡ true) × (has_own own d ≡ true)
any_found test [] e = absurd (cc)
any_found test (x ∷ own) e = grind (
  arith,
  common_steps,
  or_cases,
  or_left,
  or_right,
  tie_of_label_data,
  any_found test own,
)

-- If a label of a list passes a test, the test passes somewhere in the list.
pub any_of : (test : LabelData → Bool) (own : List LabelData) (d : LabelData) → test d ≡ true → has_own own d ≡ true
    → list_any test own ≡ true
any_of test [] d hit e = e
any_of test (x ∷ own) d hit e = elim (or_cases _ _ e) [
  | inl same ↦ or_left _ _ (ap test (sym (label_data_of_tie d x same)) ∙ hit)
  | inr later ↦ or_right (test x) _ (any_of test own d hit later)
]

-- The members of a list are its last label and those before it.
pub has_pushed : (own : List LabelData) (l q : LabelData) → has_own (own ++ l ∷ []) q
    ≡ (has_own own q || eq_by_cmp data_cmp q l)
has_pushed own l q = list_any-append (eq_by_cmp data_cmp q) own (l ∷ [])
    ∙ ap (λ b. has_own own q || b) (or-false (eq_by_cmp data_cmp q l))

-- Moving the last label of one list into another doesn't change which labels the two have together.
pub has_moved : (labels rest own now : List LabelData) (l q : LabelData) → labels ≡ rest ++ l ∷ []
    → has_own now q ≡ (eq_by_cmp data_cmp q l || has_own own q)
    → (has_own rest q || has_own now q) ≡ (has_own labels q || has_own own q)
has_moved labels rest own now l q is after = grind (arith, common_steps, has_pushed, or_assoc)

pub insert_is : (own : List LabelData) (l : LabelData) (i : ℕ) → IsLabelPosition own l (Err i) → insert own i l
    ≡ insert_key data_cmp own l
insert_is own l i at = insert_missing data_cmp data_total own i l at.0 at.1

pub sorted_insert : (own : List LabelData) (l : LabelData) (i : ℕ) → IsLabelPosition own l (Err i)
    → IsStrictlySortedBy data_cmp own → IsStrictlySortedBy data_cmp (insert own i l)
sorted_insert own l i at sorted = subst (IsStrictlySortedBy data_cmp) (sym (insert_is own l i at))
    (insert_sorted data_cmp data_total own l sorted)

pub has_inserted : (own : List LabelData) (l : LabelData) (i : ℕ) → IsLabelPosition own l (Err i) → (q : LabelData)
    → has_own (insert own i l) q ≡ (eq_by_cmp data_cmp q l || has_own own q)
has_inserted own l i at q = ap (λ xs. has_own xs q) (insert_is own l i at) ∙ has_insert data_cmp data_total own l q

-- Inserting a label that the list already has changes no membership.
pub has_again : (own : List LabelData) (l : LabelData) (i : ℕ) → IsStrictlySortedBy data_cmp own
    → IsLabelPosition own l (Ok i) → (q : LabelData) → has_own own q ≡ (eq_by_cmp data_cmp q l || has_own own q)
has_again own l i sorted at q =
    ap (λ xs. has_own xs q) (sym (insert_found data_cmp data_total own i l at.0 sorted at.1))
    ∙ has_insert data_cmp data_total own l q

pub remove_is : (own : List LabelData) (l : LabelData) (r : Result ℕ ℕ) → IsStrictlySortedBy data_cmp own
    → IsLabelPosition own l r → elim r [ Ok i ↦ remove own i | Err i ↦ own ] ≡ remove_key (is_at (data_cmp l)) own
remove_is own l (Ok i) sorted at = remove_found data_cmp data_total own i l at.0 sorted at.1
remove_is own l (Err i) sorted at = sym (remove_missing data_cmp data_total own i l at.1)

pub sorted_remove : (own : List LabelData) (l : LabelData) (i : ℕ) → IsLabelPosition own l (Ok i)
    → IsStrictlySortedBy data_cmp own → IsStrictlySortedBy data_cmp (remove own i)
sorted_remove own l i at sorted = subst (IsStrictlySortedBy data_cmp) (sym (remove_is own l (Ok i) sorted at))
    (remove_sorted data_cmp data_total own (is_at (data_cmp l)) sorted)

pub has_removed : (own : List LabelData) (l : LabelData) (r : Result ℕ ℕ) → IsStrictlySortedBy data_cmp own
    → IsLabelPosition own l r → (q : LabelData) → has_own (elim r [ Ok i ↦ remove own i | Err i ↦ own ]) q
    ≡ (not (eq_by_cmp data_cmp q l) && has_own own q)
has_removed own l r sorted at q = ap (λ xs. has_own xs q) (remove_is own l r sorted at)
    ∙ has_remove data_cmp data_total own l q sorted

-- If a label comes before another, the second doesn't come before the first by kind and language.
language_rises : (r s : Ordering) → ordering_then r s ≡ Less → is_lt (ordering_reverse r) ≡ false
language_rises r s e = grind (arith, common_steps)

-- Labels that compare as equal by kind and language have the same kind and language.
same_language : (x y : LabelData) → language_cmp x y ≡ Equal → (x.kind ≡ y.kind) × (x.tag ≡ y.tag)
same_language x y e =
    let same = data_exact (own_label x.kind x.tag []) (own_label y.kind y.tag []) (ap (λ r. ordering_then r Equal) e) in
    (ap (λ (l : LabelData). l.kind) same, ap (λ (l : LabelData). l.tag) same)

abbrev preferred_ord : List ℕ → LabelData → Ordering
preferred_ord tag l = language_cmp l (own_label Pref tag [])

-- A binary search by kind and language returns the index of a preferred label in the language, if there is one.
pub preferred_searched : (own : List LabelData) (tag : List ℕ) (r : Result ℕ ℕ) → IsStrictlySortedBy data_cmp own
    → IsSearchInRange r (length own) → IsBinarySearchResult (preferred_ord tag) own r
    → MatchResult r (IsPreferredAt own tag) (λ _. HasNoOwnPreferred own tag)
preferred_searched own tag (Ok i) sorted bound found = record {
  within = bound;
  kind = λ d. (same_language (get_or own i d) (own_label Pref tag []) (found d)).0;
  tag_is = λ d. (same_language (get_or own i d) (own_label Pref tag []) (found d)).1;
}
preferred_searched own tag (Err i) sorted bound found = λ text has. go text has parts
  where
    parts : IsPartitionPoint (λ l. preferred_ord tag l ≡ Less) (λ l. preferred_ord tag l ≡ Greater) own i
    parts = found (searchable_from_sorted language_total (λ (l : LabelData). l) own (own_label Pref tag [])
        (λ k d low below. ap is_lt (language_total.antisymm (get_or own (k + 1) d) (get_or own k d))
        ∙ language_rises _ _ (Less-from_sorted data_cmp own k (k + 1) d sorted (omega arith) below)))

    none : (text : List ℕ) (xs : List LabelData)
        → ((k : ℕ) (d : LabelData) → k < length xs → preferred_ord tag (get_or xs k d) ≢ Equal)
        → has_own xs (own_label Pref tag text) ≡ true → ⊥
    none text [] each e = cc
    none text (x ∷ xs) each e = elim (or_cases _ _ e) [
      | inl same ↦ each 0 x (omega arith)
          (subst (λ l. preferred_ord tag l ≡ Equal) (label_data_of_tie (own_label Pref tag text) x same)
          (tied_itself language_total (own_label Pref tag [])))
      | inr later ↦ none text xs (λ k d b. each (suc k) d (omega arith)) later
    ]

    go : (text : List ℕ) → HasOwnPreferred own tag text → IsPartitionPoint (λ l. preferred_ord tag l ≡ Less)
        (λ l. preferred_ord tag l ≡ Greater) own i → ⊥
    go text has p = grind (arith, common_steps, cases_lt, none)

-- If the label at an index is preferred in the language and has the text, the list has the text as a preferred label in
-- the language.
pub preferred_at : (own : List LabelData) (tag text : List ℕ) (place : ℕ) (l : LabelData)
    → IsPreferredAt own tag place → get_or own place l ≡ l → l.text ≡ text → HasOwnPreferred own tag text
preferred_at own tag text place l at is e = grind (arith, common_steps, list_any_at, tie_of_label_data)

kind_before : (j k : LabelKind) (r s : Ordering)
    → ordering_then (ordering_then (nat_cmp (label_kind_no j) (label_kind_no k)) r) s ≡ Less → k ≡ Pref → j ≡ Pref
kind_before j k r s e f = grind (arith, common_steps)

has_first : (x : LabelData) (xs : List LabelData) → has_own (x ∷ xs) x ≡ true
has_first x xs = ap (λ b. b || has_own xs x) (tie_of_label_data x x refl)

has_later : (x y : LabelData) (xs : List LabelData) → has_own xs y ≡ true → has_own (x ∷ xs) y ≡ true
has_later x y xs e = ap (λ b. eq_by_cmp data_cmp y x || b) e ∙ or-true (eq_by_cmp data_cmp y x)

as_preferred : (l : LabelData) → l.kind ≡ Pref → l ≡ own_label Pref l.tag l.text
as_preferred l e i = record { kind = e i; tag = l.tag; text = l.text }

-- If the second label of a sorted list is preferred, the list has two preferred labels.
pub two_first : (x y : LabelData) (xs : List LabelData) → IsStrictlySortedBy data_cmp (x ∷ y ∷ xs) → y.kind ≡ Pref
    → HasTwoOwnPreferred (x ∷ y ∷ xs)
unfolding IsStrictlySortedBy
two_first x y xs sorted is = record {
  first_tag = x.tag;
  first_text = x.text;
  second_tag = y.tag;
  second_text = y.text;
  first = subst (λ l. has_own (x ∷ y ∷ xs) l ≡ true) (as_preferred x first) (has_first x (y ∷ xs));
  second = subst (λ l. has_own (x ∷ y ∷ xs) l ≡ true) (as_preferred y is) (has_later x y (y ∷ xs) (has_first y xs));
  apart = λ e. less_not_equal (data_cmp x y) sorted.0.0
      (subst (λ l. data_cmp x l ≡ Equal) (as_preferred x first ∙ e ∙ sym (as_preferred y is))
      (tied_itself data_total x));
}
  where
    first : x.kind ≡ Pref
    first = kind_before x.kind y.kind _ _ sorted.0.0 is

-- If a sorted list has a preferred label, its first label is preferred.
preferred_in_rest : (y : LabelData) (xs : List LabelData) (tag text : List ℕ) → IsStrictlySortedBy data_cmp (y ∷ xs)
    → HasOwnPreferred (y ∷ xs) tag text → y.kind ≡ Pref
unfolding IsStrictlySortedBy
preferred_in_rest y xs tag text sorted has = elim (or_cases _ _ has) [
  | inl same ↦ sym (ap (λ (l : LabelData). l.kind) (label_data_of_tie (own_label Pref tag text) y same))
  | inr later ↦ below xs sorted.0 later
]
  where
    below : (zs : List LabelData) → AllByRecursion (λ z. data_cmp y z ≡ Less) zs
        → has_own zs (own_label Pref tag text) ≡ true → y.kind ≡ Pref
    below [] each e = absurd (cc)
    below (z ∷ zs) each e = grind (arith, common_steps, kind_before, label_data_of_tie, or_cases, below zs each.1)

pub second_of_two : (x y : LabelData) (xs : List LabelData) → IsStrictlySortedBy data_cmp (x ∷ y ∷ xs)
    → HasTwoOwnPreferred (x ∷ y ∷ xs) → y.kind ≡ Pref
unfolding IsStrictlySortedBy
second_of_two x y xs sorted two = elim (or_cases _ _ two.first) [
  | inl a ↦ elim (or_cases _ _ two.second) [
    | inl b ↦ absurd (two.apart (label_data_of_tie _ x a ∙ sym (label_data_of_tie _ x b)))
    | inr later ↦ preferred_in_rest y xs two.second_tag two.second_text sorted.1 later
  ]
  | inr later ↦ preferred_in_rest y xs two.first_tag two.first_text sorted.1 later
]

pub not_two_of_one : (x : LabelData) → HasTwoOwnPreferred (x ∷ []) → ⊥
not_two_of_one x two = elim (or_cases _ _ two.first) [
  | inl a ↦ elim (or_cases _ _ two.second)
      [ inl b ↦ two.apart (label_data_of_tie _ x a ∙ sym (label_data_of_tie _ x b)) | inr later ↦ absurd (cc) ]
  | inr later ↦ absurd (cc)
]

pub not_two_of_none : HasTwoOwnPreferred [] → ⊥
not_two_of_none two = let e = two.first in cc

pub found_option : (P : ℕ → Type 0) (Q : Type 0) (r : Result ℕ ℕ) → MatchResult r P (λ _. Q)
    → MatchOption (result_ok r) Q P
found_option P Q (Ok i) h = h
found_option P Q (Err i) h = h

-- A list with at most one label doesn't have two preferred ones.
pub two_of_none : (own : List LabelData) → length own ≤ 1 → HasTwoOwnPreferred own → ⊥
two_of_none [] short two = not_two_of_none two
two_of_none (x ∷ []) short two = not_two_of_one x two
two_of_none (x ∷ y ∷ own) short two = absurd (omega arith)

pub two_of_second : (own : List LabelData) (l : LabelData) → IsStrictlySortedBy data_cmp own → 1 < length own → l
    ≡ get_or own 1 l → (l.kind ≡ Pref → HasTwoOwnPreferred own) × (HasTwoOwnPreferred own → l.kind ≡ Pref)
two_of_second own l sorted b e = grind (arith, common_steps, second_of_two, two_first)

-- Whether a list has two preferred labels is decided by its second label.
pub ruleset two_preferred = (two_of_none, two_of_second)
