-- The next row of a list, and what the rules require of it and of the rows before it.
use Rattle.std.proofs.lemmas.Grind.{common_steps}
use Rattle.std.proofs.Common.{◌≡◌, ◌<◌, ◌^◌, ℕ, zero, suc, ◌+◌, length, List, [], ◌∷◌, ◌++◌, refl, sym, ap, ◌∙◌}
use Rattle.std.proofs.Common.{subst, arith, inl, inr, length-append}
use Rattle.std.specs.Prelude.{Some}
use Rattle.thes_base.specs.Forms.{IsNumber}
use Rattle.thes_base.specs.Resources.{entry_at}
use Rattle.thes_base.proofs.NumberedLemmas.{push_cases}
use Rattle.thes_tables.specs.Tables.{IsIn, AreDistinct}
use Rattle.thes_tables.proofs.RowSetLemmas.{in_append, append_right}
use Rattle.thes_tables.proofs.MoveRowLemmas.{get_at}
use Rattle.thes_load_rules.specs.Rules.{EachRow, AreInOrder}

module _ {A : Type 0} where
  -- The row that follows `rows` has the next number.
  pub numbered_next : (rows : List A) (x : A) (more : List A) → entry_at (rows ++ x ∷ more) (length rows + 1) ≡ Some x
  numbered_next rows x more = ap (entry_at (rows ++ x ∷ more)) (let q : length rows + 1 ≡ suc (length rows) =
      omega arith in q) ∙ get_at rows x more

  pub in_next : (rows : List A) (x : A) (more : List A) → IsIn x (rows ++ x ∷ more)
  in_next rows x more = append_right x rows (x ∷ more) (inl refl)

  -- A row keeps its number when others follow.
  pub numbered_still : (rows more : List A) (n : ℕ) (y : A) → entry_at rows n ≡ Some y → entry_at (rows ++ more) n
      ≡ Some y
  numbered_still rows more zero y e = absurd (cc)
  numbered_still [] more (suc n) y e = absurd (cc)
  numbered_still (x ∷ rows) more (suc zero) y e = e
  numbered_still (x ∷ rows) more (suc (suc n)) y e = numbered_still rows more (suc n) y e

  pub each_push : (P : A → Type 0) (rows : List A) (x : A) → EachRow P rows → P x → EachRow P (rows ++ x ∷ [])
  each_push P rows x each p = λ y h. elim (in_append y rows (x ∷ []) h) [
    | inl old ↦ each y old
    | inr new ↦ elim new [ inl is ↦ subst P (sym is) p | inr none ↦ absurd none ]
  ]

  -- If the next row occurs among the rows before it, the list has duplicates.
  pub once_twice : (rows : List A) (x : A) (more : List A) → IsIn x rows → AreDistinct (rows ++ x ∷ more) → ⊥
  once_twice [] x more h once = h
  once_twice (y ∷ rows) x more (inl e) once = once.0 (append_right y rows (x ∷ more) (inl (sym e)))
  once_twice (y ∷ rows) x more (inr h) once = once_twice rows x more h once.1

  pub order_push : (number : A → ℕ) (rows : List A) (x : A) → AreInOrder number rows → number x ≡ length rows + 1
      → AreInOrder number (rows ++ x ∷ [])
  order_push number rows x order last = grind (arith, common_steps, push_cases)

  -- If the number of the last row is in range, there are fewer than 2³² rows.
  pub few_push : (number : A → ℕ) (rows : List A) (x : A) → number x ≡ length rows + 1 → IsNumber (number x)
      → length (rows ++ x ∷ []) < 2 ^ 32
  few_push number rows x last form = let l = length-append rows (x ∷ []) in let f = form.1 in omega (arith, l, last, f)
