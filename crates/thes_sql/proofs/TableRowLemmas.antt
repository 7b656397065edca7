-- Lemmas on lists as sets, and on trees whose rows are sorted by rowid.
use Rattle.std.proofs.lemmas.Grind.{common_steps}
use Rattle.std.proofs.Common.{arith, ◌≡◌, inl, inr, ℕ, ℤ, pos, ◌==◌, List, [], ◌∷◌, map, Bool, true, false, not}
use Rattle.std.proofs.Common.{if◌then◌else◌, refl, sym, ap, ◌∙◌, Less, is_eq}
use Rattle.std.specs.List.{AllByRecursion}
use Rattle.std.specs.List.Sorted.{IsPermutation}
use Rattle.std.proofs.lemmas.List.Sorted.{IsPermutation-sym}
use Rattle.std.proofs.lemmas.Bool.Decides.{nat_tests}
use Rattle.std.proofs.lemmas.Int.{ints}
use Rattle.std.specs.Ordering.{ordering_reverse}
use Rattle.sqlite.specs.declared.types.Value.TheVariants.{Int}
use Rattle.sqlite.specs.Order.{Row, value_cmp}
use Rattle.sqlite_value.proofs.OrderLemmas.{value_cmp-Int, value_cmp_total}
use Rattle.sqlite.specs.Tree.{put_row, has_rowid, without_rowid}
use Rattle.sqlite_trees.specs.Tree.{IsTable, rowid}
use Rattle.sqlite_rules.specs.Edit.{put_all, without_all}
use Rattle.sqlite_rules.specs.Lists.{Has}
use Rattle.sqlite_rules.proofs.ListLemmas.{all_has, all_from}
pub use Rattle.sqlite_rules.proofs.ListLemmas.{has_filtered as filter_has, has_kept as has_filter}
use Rattle.sqlite_rules.proofs.TableLemmas.{without_all_has}
use Rattle.sqlite_trees.proofs.TreeLemmas.{IsTable-put_row}
use Rattle.sqlite_trees.proofs.ListLemmas.{ascending-filter, all-permutation}

pub perm_has : {A : Type 0} (xs ys : List A) → IsPermutation xs ys → (x : A) → Has xs x → Has ys x
perm_has xs ys same x h = all_has (Has ys) xs x
    (all-permutation (Has ys) ys xs (IsPermutation-sym xs ys same) (all_from (Has ys) ys (λ y k. k))) h

pub all_turned : {A : Type 0} (P : A → Type 0) (p : A → Bool) (f : A → A) → ((x : A) → P x → P (f x)) → (xs : List A)
    → AllByRecursion P xs → AllByRecursion P (map (λ x. if p x then f x else x) xs)
all_turned P p f told [] all = tt
all_turned {A} P p f told (x ∷ xs) all = grind (arith, common_steps, all_turned P p f told xs)

never_both : (a b : Row) → value_cmp (rowid a) (rowid b) ≡ Less → value_cmp (rowid b) (rowid a) ≡ Less → ⊥
never_both a b p q = let e = value_cmp_total.antisymm (rowid a) (rowid b) ∙ ap ordering_reverse q in cc

not_among_later : (z : Row) (zs : List Row) → AllByRecursion (λ r. value_cmp (rowid z) (rowid r) ≡ Less) zs → (r : Row)
    → Has zs r → r ≡ z → ⊥
not_among_later z zs up r h e = grind (arith, common_steps, all_has, never_both)

-- Two trees sorted by rowid are equal if each has the rows of the other.
pub same_rows : (xs ys : List Row) → IsTable xs → IsTable ys → ((r : Row) → Has xs r → Has ys r)
    → ((r : Row) → Has ys r → Has xs r) → xs ≡ ys
same_rows [] [] p q a b = refl
same_rows [] (y ∷ ys) p q a b = absurd (b y (inl refl))
same_rows (x ∷ xs) [] p q a b = absurd (a x (inl refl))
same_rows (x ∷ xs) (y ∷ ys) p q a b =
    let first : x ≡ y = elim (a x (inl refl)) [
      | inl e ↦ e
      | inr later ↦ elim (b y (inl refl)) [
        | inl e ↦ sym e
        | inr also ↦ absurd
            (never_both x y (all_has _ xs y p.0 also) (all_has _ ys x q.0 later))
      ]
    ] in
    let rest = same_rows xs ys p.1 q.1
    (λ r h. elim (a r (inr h)) [ inl e ↦ absurd (not_among_later x xs p.0 r h (e ∙ sym first)) | inr k ↦ k ])
    (λ r h. elim (b r (inr h)) [ inl e ↦ absurd (not_among_later y ys q.0 r h (e ∙ first)) | inr k ↦ k ]) in
    λ i. first i ∷ rest i

pub table_put : (news rows : List Row) → IsTable rows → IsTable (put_all rows news)
table_put [] rows up = up
table_put (n ∷ news) rows up = table_put news (put_row n rows) (IsTable-put_row n rows up)

pub table_left : (ids : List ℤ) (rows : List Row) → IsTable rows → IsTable (without_all rows ids)
table_left [] rows up = up
table_left (id ∷ ids) rows up = table_left ids (without_rowid id rows)
    (ascending-filter _ (λ r. not (has_rowid id r)) rows up)

-- A row remains exactly when its rowid isn't one of those removed.
pub left_not : (ids : List ℤ) (rows : List Row) (x : Row) → Has (without_all rows ids) x → (id : ℤ) → Has ids id
    → has_rowid id x ≡ false
left_not [] rows x h id m = absurd m
left_not (j ∷ ids) rows x h id m =
    grind (arith, common_steps, filter_has, without_all_has, left_not ids (without_rowid j rows) x)

pub left_has : (ids : List ℤ) (rows : List Row) (x : Row) → Has rows x
    → ((id : ℤ) → Has ids id → has_rowid id x ≡ false) → Has (without_all rows ids) x
left_has [] rows x h out = h
left_has (j ∷ ids) rows x h out = left_has ids (without_rowid j rows) x
    (has_filter (λ r. not (has_rowid j r)) rows x h (ap not (out j (inl refl)))) (λ id m. out id (inr m))

pub test_id : (m n : ℕ) → is_eq (value_cmp (Int (pos m)) (Int (pos n))) ≡ (m == n)
test_id m n = ap is_eq (value_cmp-Int (pos m) (pos n)) ∙ grind (arith, ints, nat_tests)

pub num_same : (n : ℕ) → (n == n) ≡ true
num_same n = grind (arith, nat_tests)
