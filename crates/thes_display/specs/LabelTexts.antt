-- The texts of a concept's labels of one kind and language, and the lines for terms and for labels.
use Rattle.std.specs.Prelude.{◌&&◌, ℕ, List, map, Bool, flat_map, nat_eq, IsPermutation, IsSorted}
use Rattle.std.specs.Borrow.{Bor}
use Rattle.std.specs.declared.cmp.Ordering.{Ordering}
use Rattle.std.specs.Ordering.{nat_cmp}
use Rattle.std.specs.Cmp.Lexicographic.{pointwise, slice_cmp}
use Rattle.thes_base.specs.declared.data.LabelKind.{LabelKind}
use Rattle.thes_base.specs.Data.{LabelData}
use Rattle.thes_core.specs.LabelLists.{is_of_kind}
use Rattle.thes_display.specs.Alphabetical.{entry_line, symbol_text}
use Rattle.thes_display.specs.Order.{Term, term_cmp}
use Rattle.thes_display.specs.declared.symbol.Symbol.{Symbol}

-- Whether the label is of the kind and in the language.
abbrev pub is_label_in : LabelKind → List ℕ → LabelData → Bool
is_label_in kind tag l = is_of_kind kind l && pointwise nat_eq l.tag tag

-- The texts of these labels.
abbrev pub label_texts : List (Bor LabelData) → List (List ℕ)
label_texts labels = map (λ (l : Bor LabelData). l.now.text) labels

-- The order of texts by their bytes.
abbrev pub text_cmp : List ℕ → List ℕ → Ordering
text_cmp x y = slice_cmp nat_cmp x y

-- The term of concept `n` with this text.
abbrev pub term_with : ℕ → List ℕ → Term
term_with n text = record { text = text; concept = n }

-- The terms are those of concept `n` with these texts, in alphabetical order.
pub record AreSortedTexts (n : ℕ) (texts : List (List ℕ)) (terms : List Term) : Type 0 where
  pub same : IsPermutation (map (term_with n) texts) terms
  pub order : IsSorted term_cmp terms

-- The lines with this symbol, one for each of these terms, in their order.
abbrev pub term_lines : Symbol → List Term → List ℕ
term_lines symbol terms = flat_map (λ (t : Term). entry_line (symbol_text symbol) t.text) terms

-- The lines of a symbol for these labels.
abbrev pub label_lines : Symbol → List (Bor LabelData) → List ℕ
label_lines symbol labels = flat_map (λ (l : Bor LabelData). entry_line (symbol_text symbol) l.now.text) labels
