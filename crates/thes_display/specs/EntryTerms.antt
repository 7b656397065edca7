-- The terms in the entry of a concept, below its own term.
use Rattle.std.specs.Prelude.{◌≡◌, ◌⊎◌, ℕ, List, false}
use Rattle.std.specs.Ordering.{nat_cmp}
use Rattle.thes_base.specs.declared.data.LabelKind.{LabelKind}
use Rattle.thes_base.specs.declared.data.LabelKind.TheVariants as label
use Rattle.thes_base.specs.declared.data.LinkKind.{LinkKind}
use Rattle.thes_base.specs.Labels.{Labels, HasLabel}
use Rattle.thes_base.specs.Links.{Links}
use Rattle.thes_base.specs.Listing.{IsListing}
use Rattle.thes_base.specs.Views.{HasBroader, HasLink, IsTypedLink}
use Rattle.thes_base.specs.declared.data.TypedKind.{TypedKind}
use Rattle.thes_core.specs.Terms.{term_text}
use Rattle.thes_display.specs.declared.entry_terms.Side.{Side}
use Rattle.thes_display.specs.declared.entry_terms.Side.TheVariants.{Broader, Narrower}
use Rattle.thes_display.specs.declared.entry_terms.Sides.{Sides}
use Rattle.thes_display.specs.Alphabetical.{hierarchy_kind}
use Rattle.thes_display.specs.declared.symbol.Hierarchy.{Hierarchy}
use Rattle.thes_display.specs.declared.symbol.Symbol.{Symbol}
use Rattle.thes_display.specs.declared.symbol.Symbol.TheVariants as symbol
use Rattle.thes_base.specs.declared.data.LinkKind.TheVariants as kinds
use Rattle.thes_display.specs.Order.{Term}

-- The term is that of a concept with the property `P`.
abbrev pub IsTermOf : Labels → List ℕ → (ℕ → Type 0) → Term → Type 0
IsTermOf labels tag P t = P t.concept × (t.text ≡ term_text labels tag t.concept)

-- The term is one of concept `n`, and its text is a label of the concept, of this kind and in this language.
abbrev pub IsLabelTerm : Labels → ℕ → LabelKind → List ℕ → Term → Type 0
IsLabelTerm labels n kind tag t = (t.concept ≡ n) × HasLabel labels n kind tag t.text

-- Concept `m` is broader or narrower than `n`, depending on the side.
abbrev pub IsOnSide : Links → Side → ℕ → ℕ → Type 0
IsOnSide links Broader n = HasBroader links n
IsOnSide links Narrower n = λ m. HasBroader links m n

-- Concept `m` is on this side of `n` by a link of this kind.
abbrev pub IsLinkedOnSide : Links → Side → LinkKind → ℕ → ℕ → Type 0
IsLinkedOnSide links Broader kind n m = HasLink links kind n m
IsLinkedOnSide links Narrower kind n m = HasLink links kind m n

-- The concepts of the record that are on this side.
abbrev pub concepts_on : Sides → Side → List ℕ
concepts_on sides Broader = sides.broader.items
concepts_on sides Narrower = sides.narrower.items

-- Concept `n` has no typed hierarchical link.
abbrev pub HasNoTypedLink : Links → ℕ → Type 0
HasNoTypedLink links n = (t : TypedKind × ℕ) → IsTypedLink links n t → ⊥

-- The record lists the concepts on both sides of its concept, and those related to it, and says that no hierarchical
-- link has a type only if none has.
pub record AreSidesOfConcept (links : Links) (sides : Sides) : Type 0 where
  pub each_side : (side : Side) → IsListing nat_cmp (IsOnSide links side sides.concept) (concepts_on sides side)
  pub each_associate : IsListing nat_cmp
      (λ m. HasLink links kinds.Related sides.concept m ⊎ HasLink links kinds.Related m sides.concept)
      sides.associates.items
  pub no_typed_link : sides.is_typed ≡ false → HasNoTypedLink links sides.concept

-- The symbol is for linked concepts, and the list has the concepts that are listed under it for concept `n`.
abbrev pub AreLinkedUnder : Links → ℕ → Symbol → List ℕ → Type 0
AreLinkedUnder links n symbol.ScopeNote ms = ⊥
AreLinkedUnder links n symbol.UsedFor ms = ⊥
AreLinkedUnder links n (symbol.Broader type) ms = IsListing nat_cmp (HasLink links (hierarchy_kind type) n) ms
AreLinkedUnder links n (symbol.Narrower type) ms = IsListing nat_cmp (λ m. HasLink links (hierarchy_kind type) m n) ms
AreLinkedUnder links n symbol.Related ms = IsListing nat_cmp
    (λ m. HasLink links kinds.Related n m ⊎ HasLink links kinds.Related m n) ms

-- The symbol for concepts that links of this type join on a side.
abbrev pub symbol_on : Side → Hierarchy → Symbol
symbol_on Broader type = symbol.Broader type
symbol_on Narrower type = symbol.Narrower type

-- The symbol is for labels of this kind.
abbrev pub IsForLabels : Symbol → LabelKind → Type 0
IsForLabels symbol.ScopeNote kind = kind ≡ label.Scope
IsForLabels symbol.UsedFor kind = kind ≡ label.Alt
IsForLabels _ kind = ⊥
