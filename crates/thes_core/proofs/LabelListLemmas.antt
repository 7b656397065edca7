-- The labels of one kind, filtered from an owner's sorted list, are exactly the owner's labels of that kind, sorted by
-- language and text.
use Rattle.std.proofs.lemmas.Grind.{common_steps}
use Rattle.std.proofs.Common.{◌≡◌, ◌∙◌, refl, sym, ap, subst, ℕ, List, [], ◌∷◌, map, filter, true, false, cond, arith}
use Rattle.std.proofs.Common.{◌==◌, eqb-true, Contains}
use Rattle.std.specs.declared.cmp.Ordering.TheVariants.{Less, Equal}
use Rattle.std.specs.Ordering.{nat_cmp, ordering_then}
use Rattle.std.specs.Cmp.{nat_cmp_total, tied_itself}
use Rattle.std.specs.Cmp.Lexicographic.{slice_cmp}
use Rattle.std.specs.List.{AllByRecursion}
use Rattle.std.specs.List.Sorted.{IsStrictlySortedBy}
use Rattle.std.proofs.lemmas.Simd.{map-map}
use Rattle.thes_base.specs.declared.data.LabelKind.{LabelKind}
use Rattle.thes_base.specs.Data.{LabelData}
use Rattle.thes_base.specs.Labels.{Labels, HasLabel, label_kind_no}
use Rattle.thes_base.specs.Listing.{IsListing}
use Rattle.thes_base.specs.Views.{TaggedText, tagged_text_cmp}
use Rattle.thes_base.proofs.LabelSetLemmas.{same_kind}
use Rattle.thes_base.proofs.ListMemberLemmas.{Contains-map, Contains-filter, Contains-from_map, Contains-from_filter}
use Rattle.thes_base.proofs.SetMemberLemmas.{then_assoc}
use Rattle.thes_vocab.specs.OwnLabels.{AreLabelsOf, data_cmp, has_own, own_label}
use Rattle.thes_vocab.proofs.OwnLabelLemmas.{data_exact, data_total}
use Rattle.thes_tables.proofs.RowSetLemmas.{any_in, in_any}
use Rattle.thes_core.specs.LabelLists.{tagged_text, is_of_kind}
use Rattle.thes_core.proofs.DeltaLemmas.{contains_in, in_contains}

-- The order of labels is by kind, and then by language and text.
as_owned : (x y : LabelData) → data_cmp x y ≡ ordering_then (nat_cmp (label_kind_no x.kind) (label_kind_no y.kind))
    (tagged_text_cmp (tagged_text x) (tagged_text y))
as_owned x y = then_assoc (nat_cmp (label_kind_no x.kind) (label_kind_no y.kind)) (slice_cmp nat_cmp x.tag y.tag)
    (slice_cmp nat_cmp x.text y.text)

pub own_contains : (own : List LabelData) (l : LabelData) → has_own own l ≡ true → Contains own l
own_contains own l e = in_contains own l (in_any data_total data_exact l own e)

pub contains_own : (own : List LabelData) (l : LabelData) → Contains own l → has_own own l ≡ true
contains_own own l c = any_in data_total data_exact l own (contains_in own l c)

kind_itself : (kind : LabelKind) → (label_kind_no kind == label_kind_no kind) ≡ true
kind_itself kind = grind (arith, common_steps)

kinds_tie : (j k : LabelKind) → label_kind_no j ≡ label_kind_no k → nat_cmp (label_kind_no j) (label_kind_no k) ≡ Equal
kinds_tie j k e = subst (λ n. nat_cmp (label_kind_no j) n ≡ Equal) e (tied_itself nat_cmp_total (label_kind_no j))

module _ (kind : LabelKind) where
  abbrev labels_shown : List LabelData → List TaggedText
  labels_shown xs = map tagged_text (filter (is_of_kind kind) xs)

  -- Labels of one kind are ordered by language and text.
  ordered_by_text : (x y : LabelData) → label_kind_no x.kind ≡ label_kind_no y.kind → data_cmp x y ≡ Less
      → tagged_text_cmp (tagged_text x) (tagged_text y) ≡ Less
  ordered_by_text x y k e = grind (arith, common_steps, as_owned, kinds_tie)

  all_below : (x : LabelData) → label_kind_no x.kind ≡ label_kind_no kind → (xs : List LabelData)
      → AllByRecursion (λ y. data_cmp x y ≡ Less) xs → AllByRecursion (λ t. tagged_text_cmp (tagged_text x) t ≡ Less)
      (labels_shown xs)
  all_below x k [] h = tt
  all_below x k (y ∷ xs) h = grind (arith, common_steps, eqb-true, ordered_by_text, all_below x k xs h.1)

  shown_rising : (xs : List LabelData) → IsStrictlySortedBy data_cmp xs → IsStrictlySortedBy tagged_text_cmp
      (labels_shown xs)
  unfolding IsStrictlySortedBy
  shown_rising [] s = tt
  shown_rising (x ∷ xs) s =
      elim (is_of_kind kind x) as (λ t. is_of_kind kind x ≡ t → IsStrictlySortedBy tagged_text_cmp
      (map tagged_text (cond t (x ∷ filter (is_of_kind kind) xs) (filter (is_of_kind kind) xs)))) [
        | true ↦ λ e. (all_below x (eqb-true _ _ e) xs s.0, shown_rising xs s.1)
        | false ↦ λ e. shown_rising xs s.1
      ] refl

  -- The filtered list is a listing of the owner's labels of the kind.
  owned_is_shown : (labels : Labels) (owner : ℕ) (own : List LabelData) → AreLabelsOf labels owner own
      → IsListing tagged_text_cmp (λ t. HasLabel labels owner kind t.tag t.text) (labels_shown own)
  owned_is_shown labels owner own a = record {
    rises = shown_rising own a.ordered;
    sound = λ t c.
        let (l, shown, is) = Contains-from_map tagged_text (filter (is_of_kind kind) own) t c in
        let found = Contains-from_filter (is_of_kind kind) own l shown in
        let held = sym (a.each l) ∙ contains_own own l found.0 in
        subst (λ (p : LabelKind × TaggedText). HasLabel labels owner p.0 p.1.tag p.1.text)
        (λ i. (same_kind l.kind kind (eqb-true _ _ found.1) i, is i)) held;
    complete = λ t h.
        let l = own_label kind t.tag t.text in
        let held = own_contains own l (a.each l ∙ h) in
        Contains-map tagged_text (filter (is_of_kind kind) own) l
        (Contains-filter (is_of_kind kind) own l held (kind_itself kind));
  }

  pub listed_by : {X : Type 0} (see : X → LabelData) (labels : Labels) (owner : ℕ) (own : List LabelData)
      (xs : List X) → AreLabelsOf labels owner own → map see xs ≡ filter (is_of_kind kind) own
      → IsListing tagged_text_cmp (λ t. HasLabel labels owner kind t.tag t.text) (map (λ x. tagged_text (see x)) xs)
  listed_by see labels owner own xs a e =
      subst (IsListing tagged_text_cmp (λ t. HasLabel labels owner kind t.tag t.text)) (sym (ap (map tagged_text) e)
      ∙ map-map tagged_text see xs) (owned_is_shown labels owner own a)
