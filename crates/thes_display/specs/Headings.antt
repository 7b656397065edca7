-- The order in which headings are collected: first those of the concepts' terms, and then those of their alternative
-- labels.
use Rattle.std.specs.Prelude.{◌≡◌, ◌++◌, ℕ, List, true, false, cond}
use Rattle.std.specs.declared.cmp.Ordering.{Ordering}
use Rattle.std.specs.Ordering.{nat_cmp, ordering_then}
use Rattle.thes_base.specs.declared.data.LabelKind.TheVariants.{Alt}
use Rattle.thes_base.specs.Labels.{HasLabel}
use Rattle.thes_base.specs.Listing.{IsListing}
use Rattle.thes_base.specs.State.{State}
use Rattle.thes_core.specs.Terms.{term_text}
use Rattle.thes_display.specs.LabelTexts.{text_cmp}
use Rattle.thes_display.specs.declared.heading.Heading.{Heading}

-- The order in which headings are collected: the concepts' own before lead-in terms, then by concept, then by text.
abbrev pub heading_key : Heading → Heading → Ordering
heading_key x y =
    ordering_then (nat_cmp (cond x.lead_in 1 0) (cond y.lead_in 1 0))
    (ordering_then (nat_cmp x.term.concept y.term.concept) (text_cmp x.term.text y.term.text))

-- The heading is the own heading of a concept with the property `P`.
pub record IsOwnHeading (s : State) (tag : List ℕ) (P : ℕ → Type 0) (h : Heading) : Type 0 where
  pub own : h.lead_in ≡ false
  pub concept : P h.term.concept
  pub text : h.term.text ≡ term_text s.labels tag h.term.concept

-- The heading is that of an alternative label of a concept with the property `P`.
pub record IsLeadIn (s : State) (tag : List ℕ) (P : ℕ → Type 0) (h : Heading) : Type 0 where
  pub lead_in : h.lead_in ≡ true
  pub concept : P h.term.concept
  pub label : HasLabel s.labels h.term.concept Alt tag h.term.text

-- The headings with the property `Is` are appended to the old ones, in the order in which they are collected.
pub record AddsHeadings (Is : Heading → Type 0) (old new : List Heading) : Type 0 where
  pub more : List Heading
  pub listing : IsListing heading_key Is more
  pub is : new ≡ old ++ more
