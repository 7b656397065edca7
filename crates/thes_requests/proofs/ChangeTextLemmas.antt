-- Proves how the text of changes grows, and how the comma after the last one is removed.
use Rattle.std.proofs.Common.{arith, ◌≡◌, ◌∙◌, sym, ap, refl, ℕ, ◌+◌, ◌-◌, ◌<◌, List, [], ◌∷◌, ◌++◌, length, map, take}
use Rattle.std.proofs.Common.{slice_index_or, append_assoc, append-nil, length-append}
use Rattle.std.proofs.lemmas.Grind.{flat_map-append}
use Rattle.std.proofs.lemmas.List.{map-append, take_more}
use Rattle.std.proofs.Math.Seq.{take-append_seam, get_or-append_seam}
use Rattle.std.specs.List.{join_with_byte}
use Rattle.json.specs.Print.{print, print_from, quoted}
use Rattle.json.specs.Token.{string}
use Rattle.thes_tables.specs.declared.cells.Cell.{Cell}
use Rattle.thes_tables.specs.declared.change.Change.{Change}
use Rattle.thes_requests.specs.ChangeTexts.{column_cell, cell_text, cells_text, change_text, changes_text, items_text}
use Rattle.thes_requests.specs.ChangeTexts.{list_opening, without_last_comma, AddsItems}
use Rattle.thes_requests.specs.declared.change_list.Column.{Column}

-- A string printed alone is its text in quotes.
pub printed_string : (text : List ℕ) → print (string text ∷ []) ≡ quoted text
unfolding print_from
printed_string text = append-nil (quoted text)

-- One more column adds a comma and its text.
pub cells_next : (columns : List Column) (i : ℕ) (d : Column) → i < length columns
    → cells_text (map column_cell (take (i + 1) columns))
    ≡ cells_text (map column_cell (take i columns)) ++ 44 ∷ cell_text (column_cell (slice_index_or columns i d))
cells_next columns i d h =
    let c = slice_index_or columns i d in
    ap (λ (cs : List Column). cells_text (map column_cell cs)) (take_more columns i d h)
    ∙ ap cells_text (map-append column_cell (take i columns) (c ∷ []))
    ∙ flat_map-append (λ (cell : Cell). 44 ∷ cell_text cell) (map column_cell (take i columns)) (column_cell c ∷ [])
    ∙ ap (λ (t : List ℕ). cells_text (map column_cell (take i columns)) ++ 44 ∷ t)
    (append-nil (cell_text (column_cell c)))

-- One more change adds its text and a comma.
pub items_next : (changes : List Change) (i : ℕ) (d : Change) → i < length changes
    → items_text (take (i + 1) changes)
    ≡ (items_text (take i changes) ++ change_text (slice_index_or changes i d)) ++ 44 ∷ []
items_next changes i d h =
    let c = slice_index_or changes i d in
    ap items_text (take_more changes i d h)
    ∙ flat_map-append (λ (x : Change). change_text x ++ 44 ∷ []) (take i changes) (c ∷ [])
    ∙ ap (λ (t : List ℕ). items_text (take i changes) ++ t) (append-nil (change_text c ++ 44 ∷ []))
    ∙ sym (append_assoc (items_text (take i changes)) (change_text c) (44 ∷ []))

-- Changes with a comma after each are the changes joined by commas, and a comma.
items_joined : (c : Change) (changes : List Change)
    → items_text (c ∷ changes) ≡ join_with_byte 44 (map change_text (c ∷ changes)) ++ 44 ∷ []
items_joined c [] = append-nil (change_text c ++ 44 ∷ [])
items_joined c (e ∷ changes) =
    ap (λ (t : List ℕ). (change_text c ++ 44 ∷ []) ++ t) (items_joined e changes)
    ∙ append_assoc (change_text c) (44 ∷ []) (join_with_byte 44 (map change_text (e ∷ changes)) ++ 44 ∷ [])
    ∙ sym (append_assoc (change_text c) (44 ∷ join_with_byte 44 (map change_text (e ∷ changes))) (44 ∷ []))

-- The comma at the end of a text is removed.
comma_removed : (text : List ℕ) → without_last_comma (text ++ 44 ∷ []) ≡ text
comma_removed text =
    let last : length (text ++ 44 ∷ []) - 1 ≡ length text =
    (let h = length-append text (44 ∷ []) in omega (arith, h)) in
    rw (last, get_or-append_seam text 44 [] 0, take-append_seam text (44 ∷ [])) refl

-- The list of a report, whose last comma is removed, is its changes joined by commas.
pub list_closed : (changes : List Change)
    → without_last_comma (list_opening ++ items_text changes) ≡ changes_text changes
list_closed [] = refl
list_closed (c ∷ changes) =
    ap (λ (t : List ℕ). without_last_comma (list_opening ++ t)) (items_joined c changes)
    ∙ ap without_last_comma
    (sym (append_assoc list_opening (join_with_byte 44 (map change_text (c ∷ changes))) (44 ∷ [])))
    ∙ comma_removed (changes_text (c ∷ changes))

-- The list of a report that got these changes has them, without the last comma.
pub list_of : (changes : List Change) (list : List ℕ) → AddsItems list_opening changes list
    → without_last_comma list ≡ changes_text changes
list_of changes list got = ap without_last_comma got ∙ list_closed changes
