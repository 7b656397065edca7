-- Proves that selecting a concept's labels by kind and language lists the texts of these labels, and that the terms
-- with these texts, once sorted, are listed in alphabetical order.
use Rattle.std.proofs.Common.{◌≡◌, ◌∙◌, ◌≤◌, refl, sym, ap, subst, ℕ, List, true, [], ◌∷◌, map}
use Rattle.std.proofs.Common.{filter, length, arith, eqb-true, Ordering, Less, Equal, Contains}
use Rattle.std.proofs.lemmas.Bool.{and_from, and_parts, eq-eqb}
use Rattle.std.specs.Borrow.{Bor}
use Rattle.std.specs.Prelude.{nat_eq}
use Rattle.std.specs.Ordering.{nat_cmp, ordering_then}
use Rattle.std.specs.Cmp.{IsTotalOrder, nat_cmp_total, tied_itself}
use Rattle.std.specs.Cmp.Lexicographic.{pointwise, slice_cmp, bytes_decides}
use Rattle.std.specs.List.Sorted.{IsStrictlySortedBy}
use Rattle.std.proofs.lemmas.Cmp.{on_total, nat_list_cmp_total}
use Rattle.std.proofs.lemmas.List.Kept.{IsStrictlySortedBy-filter}
use Rattle.std.proofs.lemmas.Simd.{map-map}
use Rattle.thes_base.specs.declared.data.LabelKind.{LabelKind}
use Rattle.thes_base.specs.Data.{LabelData}
use Rattle.thes_base.specs.Labels.{Labels, HasLabel, label_kind_no}
use Rattle.thes_base.specs.Listing.{IsListing}
use Rattle.thes_base.proofs.LabelSetLemmas.{same_kind}
use Rattle.thes_base.proofs.ListMemberLemmas.{Contains-filter, Contains-from_filter}
use Rattle.thes_vocab.specs.OwnLabels.{AreLabelsOf, data_cmp, own_label}
use Rattle.thes_core.proofs.LabelListLemmas.{own_contains, contains_own}
use Rattle.thes_core.specs.LabelLists.{is_of_kind}
use Rattle.thes_display.specs.EntryTerms.{IsLabelTerm}
use Rattle.thes_display.specs.LabelTexts.{AreSortedTexts, is_label_in, label_texts, term_with, text_cmp}
use Rattle.thes_display.specs.Order.{Term, term_cmp}
use Rattle.thes_display.proofs.OrderLemmas.{term_total}
use Rattle.thes_display.proofs.TermLemmas.{first_ties, second_ties, same_term}
use Rattle.thes_display.proofs.SortLemmas.{listing_in_order}
use Rattle.thes_display.proofs.ListingLemmas.{listing_mapped}

later_less : (a b c : Ordering) → a ≡ Equal → b ≡ Equal → ordering_then (ordering_then a b) c ≡ Less → c ≡ Less
later_less a b c e f l = sym (ap (λ o. ordering_then (ordering_then o b) c) e ∙ ap (λ o. ordering_then o c) f) ∙ l

module _ (kind : LabelKind) (tag : List ℕ) where
  kind_of : (l : LabelData) → is_label_in kind tag l ≡ true → label_kind_no l.kind ≡ label_kind_no kind
  kind_of l e = eqb-true _ _ (and_parts (is_of_kind kind l) (pointwise nat_eq l.tag tag) e).0

  tag_of : (l : LabelData) → is_label_in kind tag l ≡ true → l.tag ≡ tag
  tag_of l e = (bytes_decides l.tag tag).0 (and_parts (is_of_kind kind l) (pointwise nat_eq l.tag tag) e).1

  -- Labels of one kind and language are ordered by their texts.
  text_less : (x y : LabelData) → is_label_in kind tag x ≡ true → is_label_in kind tag y ≡ true → data_cmp x y ≡ Less
      → text_cmp x.text y.text ≡ Less
  text_less x y e f l =
      later_less _ _ _ (ap (λ n. nat_cmp n (label_kind_no y.kind)) (kind_of x e ∙ sym (kind_of y f))
      ∙ tied_itself nat_cmp_total (label_kind_no y.kind))
      (ap (λ t. slice_cmp nat_cmp t y.tag) (tag_of x e ∙ sym (tag_of y f)) ∙ tied_itself nat_list_cmp_total y.tag) l

  is_in : (text : List ℕ) → is_label_in kind tag (own_label kind tag text) ≡ true
  is_in text = and_from _ _ (eq-eqb _ _ refl) ((bytes_decides tag tag).1 refl)

  -- The label is one of the owner's, of the kind and in the language.
  abbrev IsSelected : List LabelData → LabelData → Type 0
  IsSelected own l = Contains own l × (is_label_in kind tag l ≡ true)

  selected_held : (labels : Labels) (n : ℕ) (own : List LabelData) → AreLabelsOf labels n own → (l : LabelData)
      → IsSelected own l → HasLabel labels n kind tag l.text
  selected_held labels n own are l p =
      subst (λ (q : LabelKind × List ℕ). HasLabel labels n q.0 q.1 l.text)
      (λ i. (same_kind l.kind kind (kind_of l p.1) i, tag_of l p.1 i)) (sym (are.each l) ∙ contains_own own l p.0)

  -- The texts of the labels selected from an owner's labels are a listing.
  pub texts_listed : (labels : Labels) (n : ℕ) (own : List LabelData) (found : List (Bor LabelData))
      → AreLabelsOf labels n own → map (λ l. l.now) found ≡ filter (is_label_in kind tag) own
      → IsListing text_cmp (HasLabel labels n kind tag) (label_texts found)
  texts_listed labels n own found are e =
      subst (IsListing text_cmp (HasLabel labels n kind tag)) (sym (ap (map (λ l. l.text)) e)
      ∙ map-map (λ l. l.text) (λ (b : Bor LabelData). b.now) found)
      (listing_mapped (λ (l : LabelData). l.text) data_cmp text_cmp (IsSelected own) (HasLabel labels n kind tag)
      (filter (is_label_in kind tag) own)
      (record {
        rises = IsStrictlySortedBy-filter data_cmp (is_label_in kind tag) own are.ordered;
        sound = λ l c. Contains-from_filter (is_label_in kind tag) own l c;
        complete = λ l p. Contains-filter (is_label_in kind tag) own l p.0 p.1;
      })
      (λ x y p q l. text_less x y p.1 q.1 l) (λ l p. selected_held labels n own are l p)
      (λ text h. (own_label kind tag text, (own_contains own _ (are.each _ ∙ h), is_in text), refl)))

abbrev by_text : Term → Term → Ordering
by_text x y = text_cmp x.text y.text

by_text_total : IsTotalOrder by_text
by_text_total = on_total (λ (t : Term). t.text) nat_list_cmp_total

pub text_ties : (x y : Term) → term_cmp x y ≡ Equal → text_cmp x.text y.text ≡ Equal
text_ties x y e = first_ties (by_text x y) (nat_cmp x.concept y.concept) (second_ties _ _ e)

few_rise : (n : ℕ) (texts : List (List ℕ)) → length texts ≤ 1 → IsStrictlySortedBy term_cmp (map (term_with n) texts)
unfolding IsStrictlySortedBy
few_rise n [] l = tt
few_rise n (t ∷ []) l = (tt, tt)
few_rise n (t ∷ u ∷ texts) l = absurd (omega (arith, l))

module _ (labels : Labels) (n : ℕ) (kind : LabelKind) (tag : List ℕ) (texts : List (List ℕ))
    (listed : IsListing text_cmp (HasLabel labels n kind tag) texts) where
  terms_by_text : IsListing by_text (IsLabelTerm labels n kind tag) (map (term_with n) texts)
  terms_by_text = listing_mapped (term_with n) text_cmp by_text (HasLabel labels n kind tag) _ texts listed
      (λ x y p q l. l) (λ text h. (refl, h)) (λ t p. (t.text, p.1, same_term t (term_with n t.text) refl p.0))

  pub terms_sorted : (terms : List Term) → AreSortedTexts n texts terms
      → IsListing term_cmp (IsLabelTerm labels n kind tag) terms
  terms_sorted terms are = listing_in_order by_text term_cmp by_text_total term_total text_ties _
      (map (term_with n) texts) terms terms_by_text are.same are.order

  -- A list of at most one term needs no sorting.
  pub few_terms : length texts ≤ 1 → IsListing term_cmp (IsLabelTerm labels n kind tag) (map (term_with n) texts)
  few_terms few = record {
    rises = few_rise n texts few;
    sound = terms_by_text.sound;
    complete = terms_by_text.complete;
  }
