-- Proves that the changes of a merge fit the tables, move by move.
use Rattle.std.proofs.Common.{◌≡◌, ◌+◌, ◌++◌, inl, inr, ℕ, List, [], ◌∷◌, ap, subst, arith}
use Rattle.thes_tables.specs.declared.change.Change.{Change}
use Rattle.thes_tables.specs.declared.change.Change.TheVariants as change
use Rattle.thes_tables.specs.declared.rows.MoveRow.{MoveRow}
use Rattle.thes_tables.specs.Rows.{tables_after_delta}
use Rattle.thes_tables.specs.Tables.{Tables, IsIn}
use Rattle.thes_tables.proofs.RowSetLemmas.{in_append}
use Rattle.thes_tables.proofs.DeltaAppendLemmas.{all_append, fit_append}
use Rattle.test_keeper.specs.PostedTables.{FitUpTo}

-- A change that adds the move with the next number fits after the changes before it.
pub fit_next : (changes : List Change) (t : Tables) (i : ℕ) (row : MoveRow) → row.number ≡ i + 1 → FitUpTo changes t i
    → FitUpTo (changes ++ change.AddMove row ∷ []) t (i + 1)
fit_next changes t i row number fits = record {
  fit = fit_append changes (change.AddMove row ∷ []) t fits.fit
      ((λ other h. let b = fits.below other h in omega (arith, b, number)), tt);
  below = λ other h. elim (in_append other (tables_after_delta changes t).move (row ∷ [])
      (subst (λ (u : Tables). IsIn other u.move) (all_append changes (change.AddMove row ∷ []) t) h)) [
        | inl old ↦ let b = fits.below other old in omega (arith, b)
        | inr new ↦ elim new [
          | inl same ↦ let e : other.number ≡ row.number = ap (λ (m : MoveRow). m.number) same in
              omega (arith, e, number)
          | inr never ↦ absurd never
        ]
      ];
}
