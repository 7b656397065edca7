-- Proves that the lines written for headings at places, for terms made for concepts, and for labels are the lines of
-- the symbol.
use Rattle.std.proofs.Common.{◌≡◌, ◌∙◌, ◌≢◌, ◌≤◌, ◌++◌, ◌∷◌, [], sym, ap, refl, subst, ℕ, List, map, length, append-nil}
use Rattle.std.proofs.Common.{Result, Ok, Err, OnOk, rules}
use Rattle.std.specs.Prelude.{Contains, flat_map}
use Rattle.std.specs.Borrow.{Bor}
use Rattle.std.specs.List.Sorted.{IsStrictlySortedBy}
use Rattle.std.specs.Ordering.{nat_cmp}
use Rattle.std.proofs.lemmas.List.{length-map}
use Rattle.thes_base.specs.declared.data.LabelKind.{LabelKind}
use Rattle.thes_base.specs.declared.data.LinkKind.TheVariants as kinds
use Rattle.thes_base.specs.declared.data.TypedKind.TheVariants as typed
use Rattle.thes_base.specs.Data.{LabelData}
use Rattle.thes_base.specs.Labels.{HasLabel}
use Rattle.thes_base.specs.Links.{Links}
use Rattle.thes_base.specs.Listing.{IsListing}
use Rattle.thes_base.specs.State.{State}
use Rattle.thes_display.specs.Alphabetical.{AreLinesOf, IsUnder, entry_line, hierarchy_kind, symbol_text}
use Rattle.thes_display.specs.EntryTerms.{AreLinkedUnder, HasNoTypedLink, IsForLabels, IsLabelTerm, IsLinkedOnSide}
use Rattle.thes_display.specs.EntryTerms.{IsOnSide, IsTermOf, symbol_on}
use Rattle.thes_display.specs.HeadingIndex.{AreTermPlaces, term_at}
use Rattle.thes_display.specs.LabelTexts.{label_texts, term_with, text_cmp}
use Rattle.thes_display.specs.Order.{Term, term_cmp}
use Rattle.thes_display.specs.TextAppends.{AppendsText}
use Rattle.thes_display.specs.declared.entry_terms.Side.{Side}
use Rattle.thes_display.specs.declared.entry_terms.Side.TheVariants as sides
use Rattle.thes_display.specs.declared.heading.Heading.{Heading}
use Rattle.thes_display.specs.declared.symbol.Hierarchy.{Hierarchy}
use Rattle.thes_display.specs.declared.symbol.Hierarchy.TheVariants as hier
use Rattle.thes_display.specs.declared.symbol.Symbol.{Symbol}
use Rattle.thes_display.specs.declared.symbol.Symbol.TheVariants as symbol
use Rattle.thes_display.proofs.LabelLemmas.{few_terms}
use Rattle.thes_display.proofs.ListingLemmas.{listing_as, listing_none}
use Rattle.thes_display.proofs.SideLemmas.{untyped_link}

pub on_written : {V E : Type 0} (r : Result V E) (P Q : Type 0) → (P → Q) → OnOk r P → OnOk r Q
on_written (Ok v) P Q f p = f p
on_written (Err e) P Q f p = p

lines_same : (headings : List Heading) (line : Term → List ℕ) (ks : List ℕ)
    → flat_map (λ (k : ℕ). line (term_at headings k)) ks ≡ flat_map line (map (term_at headings) ks)
lines_same headings line [] = refl
lines_same headings line (k ∷ ks) = ap (λ r. line (term_at headings k) ++ r) (lines_same headings line ks)

-- The lines for the terms at the places are those of the symbol.
pub lines_at : (s : State) (tag : List ℕ) (n : ℕ) (z : Symbol) (headings : List Heading) (ks old new : List ℕ)
    → AreTermPlaces headings (IsUnder s tag n z) ks
    → new ≡ old ++ flat_map (λ (k : ℕ). entry_line (symbol_text z) (term_at headings k).text) ks
    → AppendsText (AreLinesOf s tag n z) old new
lines_at s tag n z headings ks old new are e = record {
  addition = flat_map (λ (k : ℕ). entry_line (symbol_text z) (term_at headings k).text) ks;
  one = record {
    terms = map (term_at headings) ks;
    listing = are.listing;
    is = lines_same headings (λ (t : Term). entry_line (symbol_text z) t.text) ks;
  };
  is = e;
}

pub linked_rise : (s : State) (z : Symbol) (xs : List ℕ) → (n : ℕ) × AreLinkedUnder s.links n z xs
    → IsStrictlySortedBy nat_cmp xs
linked_rise s symbol.ScopeNote xs (n, l) = absurd l
linked_rise s symbol.UsedFor xs (n, l) = absurd l
linked_rise s (symbol.Broader type) xs (n, l) = l.rises
linked_rise s (symbol.Narrower type) xs (n, l) = l.rises
linked_rise s symbol.Related xs (n, l) = l.rises

terms_linked : (s : State) (tag : List ℕ) (P : ℕ → Type 0) (xs : List ℕ) (terms : List Term) → IsListing nat_cmp P xs
    → IsListing term_cmp (IsTermOf s.labels tag (Contains xs)) terms → IsListing term_cmp (IsTermOf s.labels tag P)
    terms
terms_linked s tag P xs terms listed l = listing_as term_cmp _ _ terms (λ t p. (listed.sound t.concept p.0, p.1))
    (λ t p. (listed.complete t.concept p.0, p.1)) l

-- The terms of linked concepts are those for the symbol.
pub terms_are_under : (s : State) (tag : List ℕ) (n : ℕ) (z : Symbol) (xs : List ℕ) (terms : List Term)
    → AreLinkedUnder s.links n z xs → IsListing term_cmp (IsTermOf s.labels tag (Contains xs)) terms
    → IsListing term_cmp (IsUnder s tag n z) terms
terms_are_under s tag n symbol.ScopeNote xs terms listed l = absurd listed
terms_are_under s tag n symbol.UsedFor xs terms listed l = absurd listed
terms_are_under s tag n (symbol.Broader type) xs terms listed l = terms_linked s tag _ xs terms listed l
terms_are_under s tag n (symbol.Narrower type) xs terms listed l = terms_linked s tag _ xs terms listed l
terms_are_under s tag n symbol.Related xs terms listed l = terms_linked s tag _ xs terms listed l

-- The labels of the symbol's kind are the terms for the symbol.
pub labels_are_under : (s : State) (tag : List ℕ) (n : ℕ) (z : Symbol) (kind : LabelKind) (terms : List Term)
    → IsForLabels z kind → IsListing term_cmp (IsLabelTerm s.labels n kind tag) terms
    → IsListing term_cmp (IsUnder s tag n z) terms
labels_are_under s tag n symbol.ScopeNote kind terms is l =
    subst (λ k. IsListing term_cmp (IsLabelTerm s.labels n k tag) terms) is l
labels_are_under s tag n symbol.UsedFor kind terms is l =
    subst (λ k. IsListing term_cmp (IsLabelTerm s.labels n k tag) terms) is l
labels_are_under s tag n (symbol.Broader type) kind terms is l = absurd is
labels_are_under s tag n (symbol.Narrower type) kind terms is l = absurd is
labels_are_under s tag n symbol.Related kind terms is l = absurd is

-- The lines for the terms are those of the symbol.
pub lines_of_terms : (s : State) (tag : List ℕ) (n : ℕ) (z : Symbol) (terms : List Term) (old new : List ℕ)
    → IsListing term_cmp (IsUnder s tag n z) terms
    → new ≡ old ++ flat_map (λ (t : Term). entry_line (symbol_text z) t.text) terms
    → AppendsText (AreLinesOf s tag n z) old new
lines_of_terms s tag n z terms old new listed e = record {
  addition = flat_map (λ (t : Term). entry_line (symbol_text z) t.text) terms;
  one = record { terms = terms; listing = listed; is = refl };
  is = e;
}

texts_same : (n : ℕ) (line : List ℕ → List ℕ) (labels : List (Bor LabelData))
    → flat_map (λ (l : Bor LabelData). line l.now.text) labels
    ≡ flat_map (λ (t : Term). line t.text) (map (term_with n) (label_texts labels))
texts_same n line [] = refl
texts_same n line (l ∷ labels) = ap (λ r. line l.now.text ++ r) (texts_same n line labels)

-- The lines for at most one label are those of the symbol.
pub lines_of_labels : (s : State) (tag : List ℕ) (n : ℕ) (z : Symbol) (kind : LabelKind) (labels : List (Bor LabelData))
    (old new : List ℕ) → IsForLabels z kind → IsListing text_cmp (HasLabel s.labels n kind tag) (label_texts labels)
    → length labels ≤ 1
    → new ≡ old ++ flat_map (λ (l : Bor LabelData). entry_line (symbol_text z) l.now.text) labels
    → AppendsText (AreLinesOf s tag n z) old new
lines_of_labels s tag n z kind labels old new is listed few e =
    lines_of_terms s tag n z (map (term_with n) (label_texts labels)) old new
    (labels_are_under s tag n z kind _ is
    (few_terms s.labels n kind tag (label_texts labels) listed
    (subst (λ m. m ≤ 1) (sym (length-map labels (λ (l : Bor LabelData). l.now.text))) few)))
    (e ∙ ap (λ r. old ++ r) (texts_same n (entry_line (symbol_text z)) labels))

-- The concepts on a side that links of the type join are those for the symbol.
pub linked_on_side : (links : Links) (side : Side) (type : Hierarchy) (n : ℕ) (ms : List ℕ)
    → IsListing nat_cmp (IsLinkedOnSide links side (hierarchy_kind type) n) ms
    → AreLinkedUnder links n (symbol_on side type) ms
linked_on_side links sides.Broader type n ms l = l
linked_on_side links sides.Narrower type n ms l = l

-- Without typed links all concepts on a side are linked by untyped ones.
module _ (s : State) (tag : List ℕ) (n : ℕ) (none : HasNoTypedLink s.links n) where
  pub untyped_on_side : (side : Side) (ms : List ℕ) → IsListing nat_cmp (IsOnSide s.links side n) ms
      → AreLinkedUnder s.links n (symbol_on side hier.Untyped) ms
  untyped_on_side side ms l =
      linked_on_side s.links side hier.Untyped n ms
      (listing_as nat_cmp _ _ ms (λ m on. untyped_link s.links n m none side on) (λ m linked. on_side side m linked) l)
    where
      on_side : (z : Side) (m : ℕ) → IsLinkedOnSide s.links z kinds.Broader n m → IsOnSide s.links z n m
      on_side sides.Broader m linked = (kinds.Broader, search rules, linked)
      on_side sides.Narrower m linked = (kinds.Broader, search rules, linked)

  no_under : (side : Side) (type : Hierarchy) → type ≢ hier.Untyped → (t : Term)
      → IsUnder s tag n (symbol_on side type) t → ⊥
  no_under side hier.Untyped e t u = e refl
  no_under sides.Broader hier.Generic e t u = none (typed.BroaderGeneric, t.concept) u.0
  no_under sides.Broader hier.Partitive e t u = none (typed.BroaderPartitive, t.concept) u.0
  no_under sides.Broader hier.Instantial e t u = none (typed.BroaderInstantial, t.concept) u.0
  no_under sides.Narrower hier.Generic e t u = none (typed.NarrowerGeneric, t.concept) u.0
  no_under sides.Narrower hier.Partitive e t u = none (typed.NarrowerPartitive, t.concept) u.0
  no_under sides.Narrower hier.Instantial e t u = none (typed.NarrowerInstantial, t.concept) u.0

  -- Without typed links a symbol with a type has no lines.
  pub no_lines : (side : Side) (type : Hierarchy) (text : List ℕ) → type ≢ hier.Untyped
      → AppendsText (AreLinesOf s tag n (symbol_on side type)) text text
  no_lines side type text e =
      lines_of_terms s tag n (symbol_on side type) [] text text
      (listing_none term_cmp _ [] refl (no_under side type e)) (sym (append-nil text))
