-- Applying two lists of changes, one after the other, has the effect of applying their concatenation.
use Rattle.std.proofs.Common.{◌≡◌, List, [], ◌∷◌, ◌++◌, refl}
use Rattle.thes_tables.specs.declared.change.Change.{Change}
use Rattle.thes_tables.specs.Tables.{Tables}
use Rattle.thes_tables.specs.Rows.{tables_after_change, tables_after_delta, DeltaFits}

pub all_append : (xs ys : List Change) (t : Tables) → tables_after_delta (xs ++ ys) t
    ≡ tables_after_delta ys (tables_after_delta xs t)
all_append [] ys t = refl
all_append (x ∷ xs) ys t = all_append xs ys (tables_after_change x t)

pub fit_append : (xs ys : List Change) (t : Tables) → DeltaFits xs t → DeltaFits ys (tables_after_delta xs t)
    → DeltaFits (xs ++ ys) t
fit_append [] ys t a b = b
fit_append (x ∷ xs) ys t a b = (a.0, fit_append xs ys (tables_after_change x t) a.1 b)
