-- Proves that a display has only one text, since each list in it is sorted.
use Rattle.std.proofs.Common.{◌≡◌, ◌∙◌, sym, ap, subst, ℕ, List, [], ◌∷◌, ◌++◌, Bool, true, false}
use Rattle.std.specs.Prelude.{flat_map}
use Rattle.std.specs.Cmp.{IsTotalOrder}
use Rattle.std.proofs.lemmas.Cmp.{on_total, nat_list_cmp_total}
use Rattle.thes_base.specs.Listing.{IsListing}
use Rattle.thes_base.specs.State.{State}
use Rattle.thes_display.specs.declared.heading.Heading.{Heading}
use Rattle.thes_display.specs.declared.symbol.Symbol.{Symbol}
use Rattle.thes_display.specs.Alphabetical.{AreLinesOf, AreTexts, IsEntry, IsEntryOf, HasOneAlphabetical, entry_line}
use Rattle.thes_display.specs.Alphabetical.{symbol_text, symbols}
use Rattle.thes_display.specs.Hierarchical.{IsAway, IsHome, IsTop, AreTypes, HasOneHierarchical}
use Rattle.thes_display.specs.Lines.{IsTreeLine, line_cmp, lines_text, path}
use Rattle.thes_display.specs.Order.{Term}
use Rattle.thes_display.proofs.HeadingLemmas.{heading_total}
use Rattle.thes_base.proofs.UniqueListingLemmas.{one_listing}
use Rattle.thes_display.proofs.OrderLemmas.{term_total}

-- If each element has only one text, the list has only one concatenation of such texts.
texts_same : {A : Type 0} (IsOf : A → List ℕ → Type 0) → ((a : A) (x y : List ℕ) → IsOf a x → IsOf a y → x ≡ y)
    → (xs : List A) (x y : List ℕ) → AreTexts IsOf xs x → AreTexts IsOf xs y → x ≡ y
texts_same IsOf one [] x y a b = a ∙ sym b
texts_same IsOf one (e ∷ xs) x y (f, p, (r, are, is)) (f', p', (r', are', is')) =
    is ∙ ap (λ t. t ++ r) (one e f f' p p') ∙ ap (λ t. f' ++ t) (texts_same IsOf one xs r r' are are') ∙ sym is'

module _ (s : State) (tag : List ℕ) where
  lines_same : (n : ℕ) (symbol : Symbol) (x y : List ℕ) → AreLinesOf s tag n symbol x → AreLinesOf s tag n symbol y
      → x ≡ y
  lines_same n symbol x y a b =
      a.is ∙ ap (flat_map (λ (t : Term). entry_line (symbol_text symbol) t.text))
      (one_listing term_total a.terms b.terms a.listing b.listing) ∙ sym b.is

  entry_same : (lead_in : Bool) (t : Term) (x y : List ℕ) → IsEntryOf s tag lead_in t x → IsEntryOf s tag lead_in t y
      → x ≡ y
  entry_same false t x y (below, lines, is) (below', lines', is') =
      is ∙ ap (λ b. t.text ++ (10 ∷ b)) (texts_same (AreLinesOf s tag t.concept) (lines_same t.concept) symbols below
      below' lines lines') ∙ sym is'
  entry_same true t x y a b = a ∙ sym b

pub one_alphabetical : HasOneAlphabetical
one_alphabetical s scheme tag x y a b =
    let headings = one_listing heading_total a.headings b.headings a.listing b.listing in
    texts_same (IsEntry s tag) (λ h. entry_same s tag h.lead_in h.term) b.headings x y
    (subst (λ (hs : List Heading). AreTexts (IsEntry s tag) hs x) headings a.entries) b.entries

line_total : IsTotalOrder line_cmp
line_total = on_total path nat_list_cmp_total

pub one_hierarchical : HasOneHierarchical
one_hierarchical s scheme tag x y a b =
    let terms : a.terms ≡ b.terms = one_listing term_total a.terms b.terms a.are_terms b.are_terms in
    let lines : a.lines ≡ b.lines =
    one_listing line_total a.lines b.lines
    (subst (λ (ts : List Term). IsListing line_cmp (IsTreeLine (IsTop s.links ts) (IsHome s.links ts)
    (IsAway s.links ts) (AreTypes s.links ts)) a.lines) terms a.are_lines) b.are_lines in
    a.is ∙ ap (λ (ts : List Term). lines_text ts a.lines) terms ∙ ap (lines_text b.terms) lines ∙ sym b.is
