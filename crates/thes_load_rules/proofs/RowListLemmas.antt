-- The number of each row in a list, and the sets and maps that lists of rows encode.
use Rattle.std.proofs.Common.{◌≡◌, ◌⊎◌, ◌≤◌, ℕ, zero, suc, length, List, [], ◌∷◌, map, refl, sym, ap, ◌∙◌, arith, inl}
use Rattle.std.proofs.Common.{inr, true, false, cond}
use Rattle.std.proofs.lemmas.Bool.{cases_Bool}
use Rattle.std.proofs.lemmas.Option.{same_Some}
use Rattle.std.proofs.lemmas.Map.Lookups.{exact_unsigned}
use Rattle.std.specs.Prelude.{Some}
use Rattle.std.specs.Ordering.{nat_cmp, eq_by_cmp}
use Rattle.std.specs.declared.cmp.Ordering.{Ordering}
use Rattle.std.specs.Cmp.{IsTotalOrder, nat_cmp_total, Equal-is}
use Rattle.std.specs.FinMap.{IsAntisymmetric}
use Rattle.std.specs.FinSet as set
use Rattle.std.specs.FinMap as dict
use Rattle.thes_base.specs.Resources.{entry_at}
use Rattle.thes_base.proofs.SetMemberLemmas.{same_members}
use Rattle.thes_tables.specs.Tables.{IsIn, AreDistinct, IsUnsortedListing}
use Rattle.thes_tables.proofs.RowSetLemmas.{in_any, any_in}
use Rattle.thes_load_rules.specs.Rules.{iris_of}

module _ {A : Type 0} where
  pub numbered_later : (xs : List A) (n : ℕ) (x y : A) → entry_at xs n ≡ Some x → entry_at (y ∷ xs) (suc n) ≡ Some x
  numbered_later xs zero x y e = absurd (cc)
  numbered_later xs (suc n) x y e = e

  pub numbered_some : (xs : List A) (n : ℕ) → 1 ≤ n → n ≤ length xs → (x : A) × (entry_at xs n ≡ Some x)
  numbered_some xs zero least le = absurd (omega arith)
  numbered_some [] (suc n) least le = absurd (omega arith)
  numbered_some (x ∷ xs) (suc zero) least le = (x, refl)
  numbered_some (x ∷ xs) (suc (suc n)) least le = numbered_some xs (suc n) (omega arith) (omega arith)

  pub numbered_in : (xs : List A) (n : ℕ) (x : A) → entry_at xs n ≡ Some x → IsIn x xs
  numbered_in xs zero x e = absurd (cc)
  numbered_in [] (suc n) x e = absurd (cc)
  numbered_in (y ∷ xs) (suc zero) x e = inl (sym (same_Some _ _ e))
  numbered_in (y ∷ xs) (suc (suc n)) x e = inr (numbered_in xs (suc n) x e)

  pub in_numbered : (xs : List A) (x : A) → IsIn x xs → (n : ℕ) × (entry_at xs n ≡ Some x)
  in_numbered [] x h = absurd h
  in_numbered (y ∷ xs) x (inl e) = (1, ap (λ z. Some z) (sym e))
  in_numbered (y ∷ xs) x (inr h) = let r = in_numbered xs x h in (suc r.0, numbered_later xs r.0 x y r.1)

module _ {A B : Type 0} (f : A → B) where
  pub numbered_unmap : (xs : List A) (n : ℕ) (y : B) → entry_at (map f xs) n ≡ Some y → (x : A)
      × (entry_at xs n ≡ Some x) × (y ≡ f x)
  numbered_unmap xs zero y e = absurd (cc)
  numbered_unmap [] (suc n) y e = absurd (cc)
  numbered_unmap (x ∷ xs) (suc zero) y e = (x, refl, sym (same_Some _ _ e))
  numbered_unmap (x ∷ xs) (suc (suc n)) y e = numbered_unmap xs (suc n) y e

module _ {A : Type 0} {R : A → A → Ordering} (total : IsTotalOrder R) (exact : IsAntisymmetric R) where
  pub row_of : (rows : List A) (q : A) → set.contains (set.from_list {R = R} rows) q ≡ true → IsIn q rows
  row_of rows q e = in_any total exact q rows (sym (set.contains-from_list total rows q) ∙ e)

  pub in_set : (rows : List A) (q : A) → IsIn q rows → set.contains (set.from_list {R = R} rows) q ≡ true
  in_set rows q h = set.contains-from_list total rows q ∙ any_in total exact q rows h

  pub lists_own : (rows : List A) → AreDistinct rows
      → IsUnsortedListing (λ q. set.contains (set.from_list {R = R} rows) q ≡ true) rows
  lists_own rows once = record { sound = in_set rows; complete = row_of rows; once = once }

  pub set_of_lists : (s : set.FinSet R) (rows : List A) → IsUnsortedListing (λ q. set.contains s q ≡ true) rows
      → set.from_list rows ≡ s
  set_of_lists s rows are = same_members total exact _ _ (λ q e. are.sound q (row_of rows q e))
      (λ q e. in_set rows q (are.complete q e))

nat_tied : (m n : ℕ) → eq_by_cmp nat_cmp m n ≡ true → m ≡ n
nat_tied m n e = exact_unsigned m n ((Equal-is (nat_cmp m n)).0 e)

-- Each entry of the map of IRIs comes from a row.
pub iri_row : (rows : List (ℕ × List ℕ)) (n : ℕ) (iri : List ℕ) → dict.get (iris_of rows) n ≡ Some iri
    → IsIn (n, iri) rows
iri_row [] n iri e = let none = dict.get-empty {X = List ℕ} nat_cmp n in absurd (cc)
iri_row (x ∷ rows) n iri e = either (λ f. iri_row rows n iri f) (cases_Bool (eq_by_cmp nat_cmp n x.0))
  where
    is : dict.get (iris_of (x ∷ rows)) n ≡ cond (eq_by_cmp nat_cmp n x.0) (Some x.1) (dict.get (iris_of rows) n)
    is = dict.get-insert nat_cmp_total (iris_of rows) x.0 x.1 n

    either : (dict.get (iris_of rows) n ≡ Some iri → IsIn (n, iri) rows) → (eq_by_cmp nat_cmp n x.0 ≡ true)
        ⊎ (eq_by_cmp nat_cmp n x.0 ≡ false) → IsIn (n, iri) (x ∷ rows)
    either ih (inl hit) =
        let found : x.1 ≡ iri = same_Some _ _ (sym (is ∙ ap (λ b. cond b (Some x.1) (dict.get (iris_of rows) n)) hit)
        ∙ e) in
        inl (λ i. (nat_tied n x.0 hit i, sym found i))
    either ih (inr miss) = inr (ih (sym (is ∙ ap (λ b. cond b (Some x.1) (dict.get (iris_of rows) n)) miss) ∙ e))
