-- Removing labels one by one removes them all, and keeps the invariant of a vocabulary.
use Rattle.std.proofs.Common.{◌≡◌, ◌<◌, ◌+◌, ℕ, length, get_or, List, [], ◌∷◌, ◌++◌, take, map, Bool, true, false, not}
use Rattle.std.proofs.Common.{◌&&◌, ◌||◌, refl, sym, ap, ◌∙◌}
use Rattle.std.proofs.Math.Bool.{and-true}
use Rattle.std.proofs.lemmas.Bool.{and_parts}
use Rattle.std.proofs.lemmas.List.{map-append, take_more}
use Rattle.std.specs.FinSet as set
use Rattle.std.specs.Ordering.{eq_by_cmp}
use Rattle.thes_base.specs.declared.data.Resource.{Resource}
use Rattle.thes_base.specs.Data.{LabelData}
use Rattle.thes_base.specs.Labels.{Label, Labels, label_cmp}
use Rattle.thes_base.specs.Legal.{AreLegalLabels}
use Rattle.thes_base.specs.Machine.{owned_label}
use Rattle.thes_base.specs.Resources.{Iris}
use Rattle.thes_base.proofs.LabelSetLemmas.{labels_total, labels_exact}
use Rattle.thes_lists.specs.declared.lists.Lists.{Lists}
use Rattle.thes_vocab.specs.declared.names.Names.{Names}
use Rattle.thes_vocab.specs.Consistency.{IsConsistentVocabulary}
use Rattle.thes_vocab.specs.LabelRows.{labels_of_owner}

pub difference_with_none : (s : Labels) → set.difference s (set.empty {R = label_cmp}) ≡ s
difference_with_none s = set.same_set labels_total labels_exact _ _ (λ q.
    set.contains-difference labels_total s set.empty q
    ∙ ap (λ b. set.contains s q && not b) (set.contains-empty label_cmp q) ∙ and-true (set.contains s q))

one_more_out : (e c a : Bool) → (not e && (c && not a)) ≡ (c && not (e || a))
one_more_out true true a = refl
one_more_out true false a = refl
one_more_out false c a = refl

remove_from_difference : (s t : Labels) (l : Label) → set.remove (set.difference s t) l
    ≡ set.difference s (set.insert t l)
remove_from_difference s t l = set.same_set labels_total labels_exact _ _ (λ q.
    set.contains-remove labels_total (set.difference s t) l q
    ∙ ap (λ b. not (eq_by_cmp label_cmp q l) && b) (set.contains-difference labels_total s t q)
    ∙ one_more_out (eq_by_cmp label_cmp q l) (set.contains s q) (set.contains t q)
    ∙ sym (set.contains-difference labels_total s (set.insert t l) q
    ∙ ap (λ b. set.contains s q && not b) (set.contains-insert labels_total t l q)))

-- If the first `i` labels of the list are removed, removing the next one leaves the set without the first `i + 1`.
pub removed_next : (s : Labels) (owner : ℕ) (ls : List LabelData) (i : ℕ) (x : LabelData) (middle new : Labels)
    → i < length ls → x ≡ get_or ls i x → middle ≡ set.difference s (labels_of_owner owner (take i ls))
    → new ≡ set.remove middle (owned_label owner x)
    → new ≡ set.difference s (labels_of_owner owner (take (i + 1) ls))
removed_next s owner ls i x middle new within is was removed =
    let l = owned_label owner x in
    let more : take (i + 1) ls ≡ take i ls ++ x ∷ [] = take_more ls i x within
    ∙ ap (λ (y : LabelData). take i ls ++ y ∷ []) (sym is) in
    let pushed = ap (λ (ys : List LabelData). labels_of_owner owner ys) more
    ∙ ap (λ (ys : List Label). set.from_list {R = label_cmp} ys) (map-append (owned_label owner) (take i ls) (x ∷ []))
    ∙ set.from_list_push labels_total labels_exact (map (owned_label owner) (take i ls)) l in
    removed ∙ ap (λ (m : Labels). set.remove m l) was
    ∙ remove_from_difference s (labels_of_owner owner (take i ls)) l ∙ ap (set.difference s) (sym pushed)

-- The invariant holds after labels are removed if those that are left are legal.
pub kept_without_labels : (base : List ℕ) (rs : List Resource) (iris : Iris) (labels gone : Labels) (names : Names)
    (concepts : Lists ℕ) → IsConsistentVocabulary base rs iris labels names concepts
    → AreLegalLabels rs (set.difference labels gone)
    → IsConsistentVocabulary base rs iris (set.difference labels gone) names concepts
kept_without_labels base rs iris labels gone names concepts kept legal = record {
  legal = kept.legal;
  named = legal;
  found = λ s n t x h. kept.found s n t x (h.0, had _ h.1);
  listed = kept.listed;
}
  where
    had : (q : Label) → set.contains (set.difference labels gone) q ≡ true → set.contains labels q ≡ true
    had q e = (and_parts (set.contains labels q) (not (set.contains gone q))
        (sym (set.contains-difference labels_total labels gone q) ∙ e)).0
