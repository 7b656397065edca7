-- The members of a set of labels after an insertion and after a removal.
use Rattle.std.proofs.Common.{◌≡◌, ◌≢◌, ◌⊎◌, ℕ, ◌+◌, refl, ap, true, false, [], ◌∷◌, List, Equal}
use Rattle.std.specs.Prelude.{Some}
use Rattle.std.specs.Ordering.{nat_cmp}
use Rattle.std.specs.Cmp.{IsTotalOrder, nat_cmp_total}
use Rattle.std.proofs.lemmas.Cmp.{then_total, on_total, nat_list_cmp_total}
use Rattle.std.proofs.lemmas.Map.Lookups.{exact_unsigned, exact_bytes, exact_pairs}
use Rattle.std.specs.Cmp.Lexicographic.{slice_cmp}
use Rattle.std.specs.FinSet.{IsAntisymmetric, contains, contains-empty, empty, insert, remove, len}
use Rattle.thes_base.specs.declared.data.LabelKind.{LabelKind}
use Rattle.thes_base.specs.declared.data.LabelKind.TheVariants.{Pref, Alt, Hidden, Scope}
use Rattle.thes_base.specs.Resources.{entry_at}
use Rattle.thes_base.specs.Labels.{Label, label_cmp, label_kind_no, Labels}
use Rattle.thes_base.proofs.InjectiveCodeLemmas.{one_to_one}
use Rattle.thes_base.proofs.SetMemberLemmas as members

pub labels_total : IsTotalOrder label_cmp
labels_total =
    then_total (on_total (λ (l : Label). l.owner) nat_cmp_total)
    (then_total (on_total (λ (l : Label). label_kind_no l.kind) nat_cmp_total)
    (then_total (on_total (λ (l : Label). l.tag) nat_list_cmp_total)
    (on_total (λ (l : Label). l.text) nat_list_cmp_total)))

-- The empty set has no label.
pub no_label : (l : Label) → contains (empty {R = label_cmp}) l ≡ true → ⊥
no_label l held = let e = contains-empty label_cmp l in cc

-- The kinds of labels, each at the position of its number.
abbrev label_kinds : List LabelKind
label_kinds = Pref ∷ Alt ∷ Hidden ∷ Scope ∷ []

kind_found : (k : LabelKind) → entry_at label_kinds (label_kind_no k) ≡ Some k
kind_found Pref = refl
kind_found _ = refl

pub same_kind : (j k : LabelKind) → label_kind_no j ≡ label_kind_no k → j ≡ k
same_kind = one_to_one label_kind_no (entry_at label_kinds) kind_found

exact_kinds : (j k : LabelKind) → nat_cmp (label_kind_no j) (label_kind_no k) ≡ Equal → j ≡ k
exact_kinds j k e = same_kind j k (exact_unsigned _ _ e)

-- Labels that compare equal are equal.
pub labels_exact : IsAntisymmetric label_cmp
labels_exact x y e =
    ap (λ (p : ℕ × (LabelKind × (List ℕ × List ℕ))). record {
      owner = p.0;
      kind = p.1.0;
      tag = p.1.1.0;
      text =
          p.1.1.1;
    })
    (exact_pairs nat_cmp _ exact_unsigned (exact_pairs (λ j k. nat_cmp (label_kind_no j) (label_kind_no k)) _
    exact_kinds (exact_pairs (slice_cmp nat_cmp) (slice_cmp nat_cmp) exact_bytes exact_bytes))
    (x.owner, (x.kind, (x.tag, x.text))) (y.owner, (y.kind, (y.tag, y.text))) e)

-- A label after an insertion is the inserted one or an old one.
pub inserted_cases : (labels : Labels) (l q : Label) → contains (insert labels l) q ≡ true → (q ≡ l)
    ⊎ (contains labels q ≡ true)
inserted_cases = members.inserted_cases labels_total labels_exact

pub inserted_kept : (labels : Labels) (l q : Label) → contains labels q ≡ true → contains (insert labels l) q ≡ true
inserted_kept = members.inserted_kept labels_total labels_exact

pub inserted_new : (labels : Labels) (l : Label) → contains (insert labels l) l ≡ true
inserted_new = members.inserted_new labels_total labels_exact

pub same_or_not : (x y : Label) → (x ≡ y) ⊎ (x ≢ y)
same_or_not = members.same_or_not labels_total labels_exact

-- A label after a removal is an old one, and not the removed one.
pub removed_cases : (labels : Labels) (l q : Label) → contains (remove labels l) q ≡ true → (q ≢ l)
    × (contains labels q ≡ true)
removed_cases = members.removed_cases labels_total labels_exact

pub removed_kept : (labels : Labels) (l q : Label) → q ≢ l → contains labels q ≡ true → contains (remove labels l) q
    ≡ true
removed_kept = members.removed_kept labels_total labels_exact

-- A new label adds one to the number of labels.
pub len_inserted : (labels : Labels) (l : Label) → contains labels l ≡ false → len (insert labels l) ≡ len labels + 1
len_inserted = members.len_inserted labels_total labels_exact
