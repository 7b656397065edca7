-- The test for a value in a sorted list, after a search, an insertion and a removal.
use Rattle.std.proofs.Common.{◌≡◌, ◌<◌, ◌≤◌, ℕ, arith, length, get_or, List, [], ◌∷◌, Bool, true, false, not, cond}
use Rattle.std.proofs.Common.{◌||◌, ◌&&◌, inl, inr, Ordering, Less, Equal, Greater, refl, sym, ap, ◌∙◌}
use Rattle.std.specs.Ordering.{is_eq, eq_by_cmp, match_ordering, ordering_reverse}
use Rattle.std.specs.Cmp.{IsTotalOrder, Equal-is}
use Rattle.std.specs.List.{HoldsAt, AllByRecursion, list_any}
use Rattle.std.specs.List.Sorted.{IsStrictlySortedBy, IsPartitionPoint}
use Rattle.std.specs.BTreeMap.{is_at}
use Rattle.std.specs.BTreeSet.{insert_key}
use Rattle.std.specs.Set.{remove_key}
use Rattle.std.proofs.Math.Bool.{and-false}
use Rattle.std.proofs.lemmas.Bool.{cases_lt}
use Rattle.std.proofs.lemmas.List.Folds.{list_any_at, list_any_none}
use Rattle.std.proofs.lemmas.Map.Keys.{sorted_head, sorted_tail}
use Rattle.thes_base.proofs.SetMemberLemmas.{or_swap}

module _ {A : Type 0} (c : A → A → Ordering) (o : IsTotalOrder c) where
  abbrev has_key : List A → A → Bool
  has_key ks x = list_any (eq_by_cmp c x) ks

  turned : (x y : A) (r : Ordering) → c y x ≡ r → eq_by_cmp c x y ≡ is_eq (ordering_reverse r)
  turned x y r e = ap is_eq (o.antisymm x y ∙ ap ordering_reverse e)

  pub has_found : (ks : List A) (i : ℕ) (x : A) → i < length ks → HoldsAt (λ y. c y x ≡ Equal) ks i → has_key ks x
      ≡ true
  has_found ks i x within is = list_any_at (eq_by_cmp c x) ks i x within (turned x (get_or ks i x) Equal (is x))

  pub has_missed : (ks : List A) (i : ℕ) (x : A) → IsPartitionPoint (λ y. c y x ≡ Less) (λ y. c y x ≡ Greater) ks i
      → i ≤ length ks → has_key ks x ≡ false
  has_missed ks i x (below, above) within = list_any_none (eq_by_cmp c x) ks (λ k d l. elim (cases_lt k i) [
    | inl before ↦ turned x (get_or ks k d) Less (below k d (omega arith) before)
    | inr from ↦ turned x (get_or ks k d) Greater (above k d from l)
  ])

  -- Values that compare equal to one another compare alike with others.
  alike : (x y q : A) → c x y ≡ Equal → eq_by_cmp c q x ≡ eq_by_cmp c q y
  alike x y q tied = ap is_eq (o.antisymm q x ∙ ap ordering_reverse (o.congr x y q tied) ∙ sym (o.antisymm q y))

  -- After an insertion a list has the inserted value and the old values.
  pub has_insert : (ks : List A) (x q : A) → has_key (insert_key c ks x) q ≡ (eq_by_cmp c q x || has_key ks q)
  has_insert [] x q = refl
  has_insert (y ∷ ys) x q = go (c x y) refl (has_insert ys x q)
    where
      twice : (a b : Bool) → (a || b) ≡ (a || (a || b))
      twice true b = refl
      twice false b = refl

      go : (r : Ordering) → c x y ≡ r → has_key (insert_key c ys x) q ≡ (eq_by_cmp c q x || has_key ys q)
          → has_key (match_ordering r (x ∷ y ∷ ys) (y ∷ ys) (y ∷ insert_key c ys x)) q
          ≡ (eq_by_cmp c q x || has_key (y ∷ ys) q)
      go Less below later = refl
      go Equal tied later = twice (eq_by_cmp c q y) (has_key ys q) ∙ ap (λ b. b || (eq_by_cmp c q y || has_key ys q))
          (sym (alike x y q tied))
      go Greater above later = ap (λ b. eq_by_cmp c q y || b) later ∙ or_swap (eq_by_cmp c q y) (eq_by_cmp c q x)
          (has_key ys q)

  -- After a removal a list has the old values other than the removed one.
  pub has_remove : (ks : List A) (x q : A) → IsStrictlySortedBy c ks → has_key (remove_key (is_at (c x)) ks) q
      ≡ (not (eq_by_cmp c q x) && has_key ks q)
  has_remove [] x q sorted = sym (and-false (not (eq_by_cmp c q x)))
  has_remove (y ∷ ys) x q sorted = go (is_eq (c x y)) refl (has_remove ys x q (sorted_tail c y ys sorted))
    where
      none_like : (zs : List A) → c q y ≡ Equal → AllByRecursion (λ z. c y z ≡ Less) zs → has_key zs q ≡ false
      none_like [] tied all = refl
      none_like (z ∷ zs) tied all = (λ i. is_eq ((o.congr q y z tied ∙ all.0) i) || has_key zs q)
          ∙ none_like zs tied all.1

      here : (b : Bool) → eq_by_cmp c q y ≡ b → has_key ys q ≡ (not b && (b || has_key ys q))
      here true same = none_like ys ((Equal-is (c q y)).0 same) (sorted_head c y ys sorted)
      here false apart = refl

      go : (b : Bool) → is_eq (c x y) ≡ b → has_key (remove_key (is_at (c x)) ys) q
          ≡ (not (eq_by_cmp c q x) && has_key ys q)
          → has_key (cond b ys (y ∷ remove_key (is_at (c x)) ys)) q ≡ (not (eq_by_cmp c q x) && has_key (y ∷ ys) q)
      go true tied later = here (eq_by_cmp c q y) refl
          ∙ (λ i. not (sym (alike x y q ((Equal-is (c x y)).0 tied)) i) && has_key (y ∷ ys) q)
      go false apart later = other (eq_by_cmp c q x) refl (ap (λ b. eq_by_cmp c q y || b) later)
        where
          other : (b : Bool) → eq_by_cmp c q x ≡ b → (eq_by_cmp c q y || has_key (remove_key (is_at (c x)) ys) q)
              ≡ (eq_by_cmp c q y || (not (eq_by_cmp c q x) && has_key ys q))
              → (eq_by_cmp c q y || has_key (remove_key (is_at (c x)) ys) q)
              ≡ (not (eq_by_cmp c q x) && (eq_by_cmp c q y || has_key ys q))
          other true same e = e ∙ (λ i. eq_by_cmp c q y || (not (same i) && has_key ys q))
              ∙ (λ i. (ap is_eq (o.congr q x y ((Equal-is (c q x)).0 same)) ∙ apart) i || false)
              ∙ (λ i. not (sym same i) && (eq_by_cmp c q y || has_key ys q))
          other false same e = e ∙ (λ i. eq_by_cmp c q y || (not (same i) && has_key ys q))
              ∙ (λ i. not (sym same i) && (eq_by_cmp c q y || has_key ys q))
