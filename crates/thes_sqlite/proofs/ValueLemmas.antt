-- Proves that the cell of a text is the text if it is UTF-8, and else the placeholder.
use Rattle.std.proofs.Common.{◌≡◌, ℕ, List, Bool, true, false, if◌then◌else◌, refl, ap}
use Rattle.std.specs.Str.{IsUtf8, is_utf8}
use Rattle.std.proofs.lemmas.Str.{IsUtf8-from_is_utf8, is_utf8-from_IsUtf8}
use Rattle.sqlite.specs.declared.types.Value.TheVariants.{Text}
use Rattle.thes_tables.specs.declared.cells.Cell.TheVariants as cells
use Rattle.thes_sqlite.specs.ValueCells.{cell_of, no_cell}

pub text_cell : (t : List ℕ) → IsUtf8 t → cell_of (Text t) ≡ cells.Text t
text_cell t is = ap (λ (b : Bool). if b then cells.Text t else no_cell) (is_utf8-from_IsUtf8 t is)

pub no_text : (t : List ℕ) → (IsUtf8 t → ⊥) → cell_of (Text t) ≡ no_cell
no_text t never = go (is_utf8 t) refl
  where
    go : (b : Bool) → is_utf8 t ≡ b → (if b then cells.Text t else no_cell) ≡ no_cell
    go true e = absurd (never (IsUtf8-from_is_utf8 t e))
    go false e = refl
