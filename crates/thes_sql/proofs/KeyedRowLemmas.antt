-- Proves the effects of edits by rowid on rows that are sorted by number.
use Rattle.std.proofs.lemmas.Grind.{common_steps}
use Rattle.std.proofs.Common.{arith, ◌≡◌, inl, inr, ℕ, ℤ, pos, ◌<◌, ◌≤◌, ◌==◌, List, [], ◌∷◌, ◌++◌, map, filter, Bool}
use Rattle.std.proofs.Common.{true, false, not, if◌then◌else◌, refl, sym, ap, subst, ◌∙◌, Less}
use Rattle.std.specs.List.{AllByRecursion}
use Rattle.std.specs.List.Sorted.{IsPermutation}
use Rattle.std.proofs.lemmas.List.Sorted.{IsPermutation-sym}
use Rattle.std.proofs.lemmas.Bool.{cases_Bool, not-true}
use Rattle.std.proofs.lemmas.Bool.Decides.{nat_tests}
use Rattle.std.proofs.lemmas.Int.{ints}
use Rattle.sqlite.specs.declared.types.Value.TheVariants.{Int}
use Rattle.sqlite.specs.Order.{Row, value_cmp}
use Rattle.sqlite_value.proofs.OrderLemmas.{value_cmp-Int}
use Rattle.sqlite.specs.Tree.{put_row, has_rowid}
use Rattle.sqlite_trees.specs.Tree.{IsTable, rowid}
use Rattle.sqlite.specs.Rowids.TheVariants.{Given}
use Rattle.sqlite_rules.specs.Edit.{put_all, without_all, numbered, are_fresh, id_in}
use Rattle.sqlite_rules.specs.Lists.{Has}
use Rattle.sqlite_rules.proofs.PlaceLemmas.{given as given_is}
use Rattle.sqlite_rules.proofs.ProbeLemmas.{has_mapped, mapped_has}
use Rattle.sqlite_rules.proofs.TableLemmas.{put_all_has, put_all_keeps, put_all_adds, without_all_has}
use Rattle.thes_sql.specs.StoredRows.{AreIncreasingAbove, AreKeyed}
use Rattle.thes_sql.proofs.TableRowLemmas.{perm_has, filter_has, has_filter, same_rows, table_put, table_left, left_not}
use Rattle.thes_sql.proofs.TableRowLemmas.{left_has, test_id, num_same}
use Rattle.thes_tables.proofs.RowSetLemmas.{clash}

pub int_value_less : (m n : ℕ) → m < n → value_cmp (Int (pos m)) (Int (pos n)) ≡ Less
int_value_less m n h = value_cmp-Int (pos m) (pos n) ∙ grind (arith, ints, nat_tests)

module _ {X : Type 0} (num : X → ℕ) where
  pub rising_weaker : (a b : ℕ) (xs : List X) → a ≤ b → AreIncreasingAbove num b xs → AreIncreasingAbove num a xs
  rising_weaker a b [] le up = tt
  rising_weaker a b (x ∷ xs) le up = (let lt = up.0 in omega (arith, le, lt), up.1)

  pub rising_number_above : (a : ℕ) (xs : List X) (x : X) → AreIncreasingAbove num a xs → Has xs x → a < num x
  rising_number_above a [] x up h = absurd h
  rising_number_above a (y ∷ ys) x up h = grind (arith, common_steps, rising_number_above (num y) ys x up.1)

  pub number_unique : (a : ℕ) (xs : List X) → AreIncreasingAbove num a xs → (x y : X) → Has xs x → Has xs y → num x
      ≡ num y → x ≡ y
  number_unique a [] up x y h k e = absurd h
  number_unique a (z ∷ zs) up x y h k e =
      grind (arith, common_steps, rising_number_above, number_unique (num z) zs up.1 x y)

  pub rising_push : (a : ℕ) (xs : List X) (x : X) → AreIncreasingAbove num a xs → a < num x
      → ((y : X) → Has xs y → num y < num x)
      → AreIncreasingAbove num a (xs ++ x ∷ [])
  rising_push a [] x up lt below = (lt, tt)
  rising_push a (y ∷ ys) x up lt below = grind (arith, common_steps, rising_push (num y) ys x up.1)

  pub rising_map : (g : X → X) → ((x : X) → num (g x) ≡ num x) → (a : ℕ) (xs : List X) → AreIncreasingAbove num a xs
      → AreIncreasingAbove num a (map g xs)
  rising_map g keeps a [] up = tt
  rising_map g keeps a (x ∷ xs) up = grind (arith, common_steps, rising_map g keeps (num x) xs up.1)

  pub rising_filter : (q : X → Bool) (a : ℕ) (xs : List X) → AreIncreasingAbove num a xs → AreIncreasingAbove num a
      (filter q xs)
  rising_filter q a [] up = tt
  rising_filter q a (x ∷ xs) up = grind (arith, common_steps, rising_weaker, rising_filter q (num x) xs up.1)

  module _ (stored : X → Row) (is_num : (x : X) → rowid (stored x) ≡ Int (pos (num x))) where
    stored_less : (x y : X) → num x < num y → value_cmp (rowid (stored x)) (rowid (stored y)) ≡ Less
    stored_less x y lt = (λ i. value_cmp (is_num x i) (is_num y i)) ∙ int_value_less (num x) (num y) lt

    all_above : (x : X) (b : ℕ) (ys : List X) → num x ≤ b → AreIncreasingAbove num b ys
        → AllByRecursion (λ r. value_cmp (rowid (stored x)) (rowid r) ≡ Less) (map stored ys)
    all_above x b [] le up = tt
    all_above x b (y ∷ ys) le up = grind (arith, common_steps, stored_less, all_above x (num y) ys)

    pub is_table : (a : ℕ) (xs : List X) → AreIncreasingAbove num a xs → IsTable (map stored xs)
    is_table a [] up = tt
    is_table a (x ∷ xs) up = (all_above x (num x) xs (omega arith) up.1, is_table (num x) xs up.1)

    has_num : (n : ℕ) (x : X) → has_rowid (pos n) (stored x) ≡ (num x == n)
    has_num n x = ap (λ v. Rattle.std.proofs.Common.is_eq (value_cmp v (Int (pos n)))) (is_num x) ∙ test_id (num x) n

    put_last : (x : X) (xs : List X) → ((y : X) → Has xs y → num y < num x)
        → put_row (stored x) (map stored xs) ≡ map stored (xs ++ x ∷ [])
    put_last x [] below = refl
    put_last x (y ∷ ys) below = grind (arith, common_steps, stored_less, put_last x ys)

    -- A row with a greater number than all others is put at the end.
    pub keyed_push : (x : X) (xs : List X) (tree : List Row) → AreKeyed stored num xs tree → 0 < num x
        → ((y : X) → Has xs y → num y < num x)
        → AreKeyed stored num (xs ++ x ∷ []) (put_row (stored x) tree)
    keyed_push x xs tree held lt below = grind (arith, common_steps, rising_push, put_last)

    -- Assumes a statement that selects the rows that pass a test, in any order.
    module _ (p : X → Bool) (xs : List X) (up : AreIncreasingAbove num 0 xs) (given : List Row) (shown : X
        → Row) (is_given : IsPermutation (map shown (filter p xs)) given)
        (shown_id : (x : X) → id_in (rowid (shown x)) ≡ pos (num x)) where
      abbrev ids : List ℤ
      ids = map (λ r. id_in (rowid r)) given

      abbrev left : List Row
      left = without_all (map stored xs) ids

      table : IsTable (map stored xs)
      table = is_table 0 xs up

      given_of : (r : Row) → Has given r → (x : X) × Has xs x × (p x ≡ true) × (r ≡ shown x)
      given_of r h =
          let m = has_mapped shown (filter p xs) r (perm_has given (map shown (filter p xs))
          (IsPermutation-sym _ _ is_given) r h) in
          let k = filter_has p xs m.0 m.1 in
          (m.0, k.0, k.1, m.2)

      of_given : (x : X) → Has xs x → p x ≡ true → Has given (shown x)
      of_given x h t = perm_has (map shown (filter p xs)) given is_given (shown x)
          (mapped_has shown (filter p xs) x (has_filter p xs x h t))

      id_of : (id : ℤ) → Has ids id → (x : X) × Has xs x × (p x ≡ true) × (id ≡ pos (num x))
      id_of id h = grind (arith, common_steps, has_mapped, given_of)

      kept : (x : X) → Has xs x → p x ≡ false → Has left (stored x)
      kept x h t = grind (arith, common_steps, left_has, mapped_has, id_of, number_unique, has_num)

      gone : (x : X) (r : Row) → Has xs x → p x ≡ true → r ≡ stored x → Has left r → ⊥
      gone x r h t e old =
          let out = left_not ids (map stored xs) r old (pos (num x))
          (subst (Has ids) (shown_id x) (mapped_has (λ r. id_in (rowid r)) given (shown x) (of_given x h t))) in
          clash (has_rowid (pos (num x)) r) (ap (has_rowid (pos (num x))) e ∙ has_num (num x) x ∙ num_same (num x)) out

      -- After the selected rows are removed, exactly the rows that fail the test remain.
      pub many_dropped : left ≡ map stored (filter (λ x. not (p x)) xs)
      many_dropped = same_rows _ _ (table_left ids (map stored xs) table)
          (is_table 0 (filter (λ x. not (p x)) xs) (rising_filter (λ x. not (p x)) 0 xs up)) there back
        where
          there : (r : Row) → Has left r → Has (map stored (filter (λ x. not (p x)) xs)) r
          there r h =
              let m = has_mapped stored xs r (without_all_has ids (map stored xs) r h) in
              elim (cases_Bool (p m.0)) [
                | inl t ↦ absurd (gone m.0 r m.1 t m.2 h)
                | inr t ↦ subst (Has (map stored (filter (λ x. not (p x)) xs))) (sym m.2)
                    (mapped_has stored (filter (λ x. not (p x)) xs) m.0
                    (has_filter (λ x. not (p x)) xs m.0 m.1 (ap not t)))
              ]

          back : (r : Row) → Has (map stored (filter (λ x. not (p x)) xs)) r → Has left r
          back r h =
              let m = has_mapped stored (filter (λ x. not (p x)) xs) r h in
              let k = filter_has (λ x. not (p x)) xs m.0 m.1 in
              subst (Has left) (sym m.2) (kept m.0 k.0 (not-true (p m.0) k.1))

      module _ (f : X → X) (keeps : (x : X) → num (f x) ≡ num x) (cast : Row → Row) (is_cast : (x : X)
          → cast (shown x) ≡ stored (f x)) where
        abbrev change : X → X
        change x = if p x then f x else x

        changed_yes : (x : X) → p x ≡ true → change x ≡ f x
        changed_yes x e = ap (λ b. if b then f x else x) e

        changed_no : (x : X) → p x ≡ false → change x ≡ x
        changed_no x e = ap (λ b. if b then f x else x) e

        pub change_num : (x : X) → num (change x) ≡ num x
        change_num x = grind (arith, common_steps)

        abbrev news : List Row
        news = numbered Given left (map cast given)

        -- After new rows replace the selected ones under the same rowids, exactly the selected rows
        -- are changed.
        pub many_updated : are_fresh left news ≡ true → put_all left news ≡ map stored (map change xs)
        many_updated fresh = same_rows _ _ (table_put news left (table_left ids (map stored xs) table))
            (is_table 0 (map change xs) (rising_map change change_num 0 xs up)) there back
          where
            final : (x : X) (r : Row) → Has xs x → r ≡ stored (change x) → Has (map stored (map change xs)) r
            final x r h e = subst (Has (map stored (map change xs))) (sym e)
                (mapped_has stored (map change xs) (change x) (mapped_has change xs x h))

            there : (r : Row) → Has (put_all left news) r → Has (map stored (map change xs)) r
            there r h = elim (put_all_has news left r h) [
              | inl new ↦
                  let m = has_mapped cast given r (subst (λ l. Has l r) (given_is left (map cast given)) new) in
                  let g = given_of m.0 m.1 in
                  final g.0 r g.1 (m.2 ∙ ap cast g.3 ∙ is_cast g.0 ∙ ap stored (sym (changed_yes g.0 g.2)))
              | inr old ↦
                  let m = has_mapped stored xs r (without_all_has ids (map stored xs) r old) in
                  elim (cases_Bool (p m.0)) [
                    | inl t ↦ absurd (gone m.0 r m.1 t m.2 old)
                    | inr t ↦ final m.0 r m.1 (m.2 ∙ ap stored (sym (changed_no m.0 t)))
                  ]
            ]

            back : (r : Row) → Has (map stored (map change xs)) r → Has (put_all left news) r
            back r h =
                let a = has_mapped stored (map change xs) r h in
                let b = has_mapped change xs a.0 a.1 in
                let is : r ≡ stored (change b.0) = a.2 ∙ ap stored b.2 in
                elim (cases_Bool (p b.0)) [
                  | inl t ↦ put_all_adds news left r fresh
                      (subst (λ l. Has l r) (sym (given_is left (map cast given)))
                      (subst (Has (map cast given)) (is_cast b.0 ∙ ap stored (sym (changed_yes b.0 t))
                      ∙ sym is) (mapped_has cast given (shown b.0) (of_given b.0 b.1 t))))
                  | inr t ↦ put_all_keeps news left r fresh (subst (Has left) (ap stored (sym (changed_no b.0 t))
                      ∙ sym is) (kept b.0 b.1 t))
                ]
