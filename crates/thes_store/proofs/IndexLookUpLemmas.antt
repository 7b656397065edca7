-- Look-ups by the indexes find the rows that the tables have.
use Rattle.std.proofs.Common.{arith, ◌≡◌, inl, inr, ◌∙◌, ℕ, suc, List, [], ◌∷◌, true, sym, ap, subst}
use Rattle.std.proofs.lemmas.Grind.{common_steps}
use Rattle.std.proofs.lemmas.Bool.{eqb-true, and_parts}
use Rattle.std.specs.Borrow.{Bor}
use Rattle.std.specs.Option.{option_copied}
use Rattle.std.specs.Prelude.{Option, None, Some, IfSome, IfNone, slice_get, filter, not, ◌==◌, nat_eq}
use Rattle.std.specs.BTreeMap as tree
use Rattle.std.specs.HashMap as hash
use Rattle.std.specs.Cmp.Lexicographic.{slice_cmp}
use Rattle.std.specs.Ordering.{nat_cmp}
use Rattle.thes_tables.specs.declared.rows.PostingRow.{PostingRow}
use Rattle.thes_tables.specs.Tables.{Tables, IsIn, is_assigned_row}
use Rattle.thes_store.specs.declared.posting_indexes.PostingIndexes.{PostingIndexes}
use Rattle.thes_store.specs.declared.keys.Keys.{Keys}
use Rattle.thes_store.specs.PositionSets.{HasPosition, ArePositions}
use Rattle.thes_store.specs.Covers.{Covers}
use Rattle.thes_store.specs.Keys.{KeyHasPosition, digest_of}
use Rattle.thes_store.specs.RowsAtPositions.{is_move_of, rows_at_positions}
use Rattle.thes_store.specs.Reading.{IsPostingOfKey, assigned_posting_rows}
use Rattle.thes_store.proofs.IndexPositionLemmas.{picked_all}

in_get : (xs : List PostingRow) (row : PostingRow) → IsIn row xs → (i : ℕ) × (slice_get xs i ≡ Some row)
in_get [] row h = absurd h
in_get (x ∷ xs) row (inl same) = (0, ap (λ y. Some y) (sym same))
in_get (x ∷ xs) row (inr later) = let g = in_get xs row later in (suc g.0, g.1)

-- No row has a key if neither the row at the position under its digest nor the one at the position under its text has
-- it.
none_found : (x : Keys) (rows : List PostingRow) (key : List ℕ) → ((i : ℕ) (row : PostingRow) → slice_get rows i
    ≡ Some row → KeyHasPosition x row.key i)
    → ((i : ℕ) (row : PostingRow) → hash.get nat_eq x.numbers (digest_of key) ≡ Some i → slice_get rows i ≡ Some row
    → row.key ≡ key → ⊥)
    → ((i : ℕ) (row : PostingRow) → tree.get (slice_cmp nat_cmp) x.rest key ≡ Some i → slice_get rows i ≡ Some row
    → row.key ≡ key → ⊥)
    → (row : PostingRow) → IsIn row rows → row.key ≡ key → ⊥
none_found x rows key leads position_by_digest position_by_text row h same = grind (arith, common_steps, in_get)

pub found_by_text : (x : Keys) (rows : List PostingRow) (key : List ℕ) (position : Option ℕ)
    (found : Option (Bor PostingRow)) → position ≡ tree.get (slice_cmp nat_cmp) x.rest key
    → ((i : ℕ) (row : PostingRow) → slice_get rows i ≡ Some row → KeyHasPosition x row.key i)
    → ((i : ℕ) (row : PostingRow) → hash.get nat_eq x.numbers (digest_of key) ≡ Some i → slice_get rows i ≡ Some row
    → row.key ≡ key → ⊥)
    → IfSome found (λ row. IsIn row.now rows × (row.now.key ≡ key))
    → IfNone found ((i : ℕ) (row : PostingRow) → position ≡ Some i → slice_get rows i ≡ Some row → row.key ≡ key → ⊥)
    → IsPostingOfKey key rows (option_copied found)
found_by_text x rows key position None is leads position_by_digest some none = none_found x rows key leads
    position_by_digest (λ i row at. none i row (is ∙ at))
found_by_text x rows key position (Some row) is leads position_by_digest some none = some

place_of_standing : (concept : ℕ) (row : PostingRow) → is_assigned_row concept row ≡ true → row.place ≡ concept
place_of_standing concept row e = eqb-true row.place concept (and_parts (not row.withdrawn) (row.place == concept) e).1

pub standing_all : (x : PostingIndexes) (t : Tables) (concept : ℕ) (positions : List ℕ) → Covers x t
    → ArePositions x.standing concept positions → rows_at_positions (is_assigned_row concept) t.posting positions
    ≡ assigned_posting_rows concept t.posting
standing_all x t concept positions covers are = grind (arith, common_steps, picked_all, place_of_standing)

pub moves_all : (x : PostingIndexes) (t : Tables) (n : ℕ) (positions : List ℕ) → Covers x t → ArePositions x.moves n
    positions
    → rows_at_positions (is_move_of n) t.move positions ≡ filter (is_move_of n) t.move
moves_all x t n positions covers are =
    picked_all (is_move_of n) t.move positions are.rises
    (λ i row at passes. are.complete i (subst (λ m. HasPosition x.moves m i) (eqb-true row.posting n passes)
    (covers.moves i row at)))
