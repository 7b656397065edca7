-- Proves that the lists computed are a hierarchy, and that its lines are those of the display.
use Rattle.std.proofs.lemmas.Grind.{common_steps}
use Rattle.std.proofs.Common.{◌≡◌, ◌∙◌, ◌⊎◌, ◌<◌, ◌≤◌, sym, ap, refl, subst, ℕ, Bool, true, false, List, [], ◌∷◌}
use Rattle.std.proofs.Common.{length, Option, arith, inl, inr}
use Rattle.std.specs.Prelude.{Contains}
use Rattle.std.specs.Option.{option_map_or}
use Rattle.std.specs.List.Sorted.{IsStrictlySortedBy}
use Rattle.std.proofs.lemmas.Option.{slice_get_within, slice_get_past, same_Some}
use Rattle.std.proofs.lemmas.Bool.{cases_lt}
use Rattle.std.specs.FinSet.{contains}
use Rattle.thes_base.specs.Links.{Links}
use Rattle.thes_base.specs.declared.data.LinkKind.TheVariants.{BroaderGeneric, BroaderPartitive, BroaderInstantial}
use Rattle.thes_base.specs.Listing.{IsListing}
use Rattle.thes_base.specs.State.{State}
use Rattle.thes_base.specs.Views.{HasBroader}
use Rattle.thes_display.specs.declared.walk.Child.{Child}
use Rattle.thes_display.specs.declared.walk.Types.{Types}
use Rattle.thes_display.specs.Order.{Term}
use Rattle.thes_display.specs.Lines.{TreeLine, IsTreeLine, IsHomeward, IsPlaced, HasTypes, untyped, line_cmp}
use Rattle.thes_display.specs.ChildLists.{children_at, child, child_cmp, IsChildOf, IsTypedUnder, AreHierarchyLists}
use Rattle.thes_display.specs.ChildLists.{IsHierarchyText}
use Rattle.thes_display.specs.Hierarchical.{HasRank, IsNarrowerTerm, IsTop, IsHome, IsAway, AreTypes, AreTerms}
use Rattle.thes_display.specs.Hierarchical.{IsHierarchicalDisplay}
use Rattle.thes_display.specs.HierarchyParts.{IsGathered, IsChildAt, IsChild, IsClosed, IsRoot}
use Rattle.thes_display.proofs.ListLemmas.{among_from, rises_none}

-- If the relations that define one hierarchy's lines imply those that define another's, the lines of the first are
-- lines of the second.
module _ (T : ℕ → Type 0) (H A : ℕ → ℕ → Type 0) (Y : Types → ℕ → ℕ → Type 0) (T' : ℕ → Type 0)
    (H' A' : ℕ → ℕ → Type 0) (Y' : Types → ℕ → ℕ → Type 0)
    (t : (k : ℕ) → T k → T' k) (h : (k b : ℕ) → H k b → H' k b) (a : (k b : ℕ) → A k b → A' k b)
    (y : (types : Types) (k b : ℕ) → H k b ⊎ A k b → Y types k b → Y' types k b) where
  is_homeward_too : (up : List ℕ) → IsHomeward T H A Y up → IsHomeward T' H' A' Y' up
  is_homeward_too [] p = p
  is_homeward_too (k ∷ []) p = t k p
  is_homeward_too (k ∷ b ∷ above) p = (h k b p.0, is_homeward_too (b ∷ above) p.1)

  is_placed_too : (home : Bool) (up : List ℕ) → IsPlaced T H A Y home up → IsPlaced T' H' A' Y' home up
  is_placed_too home up p = grind (arith, common_steps, is_homeward_too)

  has_types_too : (types : Types) (home : Bool) (up : List ℕ) → IsPlaced T H A Y home up → HasTypes T H A Y types up
      → HasTypes T' H' A' Y' types up
  has_types_too types home up q p = grind (arith, common_steps)

  pub line_as : (l : TreeLine) → IsTreeLine T H A Y l → IsTreeLine T' H' A' Y' l
  line_as l p = grind (arith, common_steps, has_types_too, is_placed_too)

pub one_concept : (terms : List Term) (m n k : ℕ) → HasRank terms m k → HasRank terms n k → m ≡ n
one_concept terms m n k g h = sym g.concept ∙ ap (λ (t : Term). t.concept)
    (same_Some g.term h.term (sym g.term_at ∙ h.term_at)) ∙ h.concept

pub rank_within : (terms : List Term) (n k : ℕ) → HasRank terms n k → k < length terms
rank_within terms n k h = slice_get_within terms k h.term h.term_at

at_past : (below : List (List Child)) (b : ℕ) → length below ≤ b → children_at below b ≡ []
at_past below b l = ap (λ (o : Option (List Child)). option_map_or (λ (cs : List Child). cs) o [])
    (slice_get_past below b l)

-- The types of the links between two concepts.
abbrev pub types_between : Links → ℕ → ℕ → Types
types_between links a b = record {
  generic = contains links (record { kind = BroaderGeneric; a = a; b = b });
  partitive = contains links (record { kind = BroaderPartitive; a = a; b = b });
  instantial = contains links (record { kind = BroaderInstantial; a = a; b = b });
}

pub types_are : (links : Links) (terms : List Term) (k b : ℕ) → (r : IsNarrowerTerm links terms k b)
    → AreTypes links terms (types_between links r.lower r.upper) k b
types_are links terms k b r = grind (arith, common_steps)

module _ (links : Links) (terms : List Term) (tops : List Child) (below : List (List Child))
    (g : IsGathered links terms tops below) where
  -- Each element in the list of `b` is a child of `b`.
  listed_under : (c : Child) (b : ℕ) → Contains (children_at below b) c → IsChild links terms b c
  listed_under c b i = by_bound (cases_lt b (length terms))
    where
      by_bound : (b < length terms) ⊎ (length terms ≤ b) → IsChild links terms b c
      by_bound (inl l) = (g.below_listed b l).sound c i
      by_bound (inr l) = grind (arith, common_steps, among_from, at_past)

  child_under : (home : Bool) (k b : ℕ) → IsChildOf tops below home k b → IsChildAt links terms home k b
  child_under home k b c = (listed_under (child k c.0 home) b c.1).0

  typed_under : (types : Types) (k b : ℕ) → IsTypedUnder tops below types k b → AreTypes links terms types k b
  typed_under types k b c = (listed_under (child k types c.0) b c.1).1

  upper_within : (k b : ℕ) → IsNarrowerTerm links terms k b → b < length terms
  upper_within k b r = rank_within terms r.upper b r.upper_rank

  lower_within : (k b : ℕ) → IsNarrowerTerm links terms k b → k < length terms
  lower_within k b r = rank_within terms r.lower k r.lower_rank

  broader_of : (home : Bool) (k b : ℕ) → IsChildAt links terms home k b → IsNarrowerTerm links terms k b
  broader_of true k b h = h.broader
  broader_of false k b h = h.broader

  child_within : (home : Bool) (k b : ℕ) → IsChildAt links terms home k b → k < length terms
  child_within home k b h = lower_within k b (broader_of home k b h)

  rises_at : (b : ℕ) → IsStrictlySortedBy child_cmp (children_at below b)
  rises_at b = grind (arith, common_steps, at_past, cases_lt, rises_none)

  -- The lists computed from the links are a hierarchy.
  pub is_hierarchy : AreHierarchyLists tops below (length terms)
  is_hierarchy = record {
    size = g.size;
    tops_rise = g.tops_listed.rises;
    rises = rises_at;
    tops_home = λ c a. let t = g.tops_listed.sound c a in (t.0.0, t.0.1, rank_within terms t.1.concept c.rank t.1.rank);
    ranks_bounded = λ b c a. child_within c.at_home c.rank b (listed_under c b a).0;
    one_home = λ k b c p q. let h = child_under true k b p in let i = child_under true k c q in let l =
        h.least c i.broader in let m = i.least b h.broader in omega (arith, l, m);
    top_home = λ k b t p.
        let top = (g.tops_listed.sound (child k untyped true) t).1 in
        top.none b (child_under true k b p).broader;
  }

  -- Each child of a concept is in its list, with its types.
  child_listed : (home : Bool) (k b : ℕ) → IsChildAt links terms home k b → IsChildOf tops below home k b
  child_listed home k b p =
      let r = broader_of home k b p in
      let types = types_between links r.lower r.upper in
      let are = types_are links terms k b r in
      (types, (g.below_listed b (upper_within k b r)).complete (child k types home) (p, are))

  listed_typed : (types : Types) (k b : ℕ) → IsHome links terms k b ⊎ IsAway links terms k b
      → AreTypes links terms types k b → IsTypedUnder tops below types k b
  listed_typed types k b (inl p) are =
      (true, (g.below_listed b (upper_within k b p.broader)).complete (child k types true) (p, are))
  listed_typed types k b (inr p) are =
      (false, (g.below_listed b (upper_within k b p.broader)).complete (child k types false) (p, are))

  -- A root is a top concept, since links within the scheme join concepts with ranks.
  top_of : IsClosed links terms → (k : ℕ) → IsRoot links terms k → IsTop links terms k
  top_of closed k root = record {
    concept = root.concept;
    rank = root.rank;
    none = λ m l.
        let up = closed.upward l.0 root.concept m k l.1.0 l.2 root.rank in
        root.none up.0 (record {
          lower = root.concept;
          upper = m;
          lower_rank = root.rank;
          upper_rank = up.1;
          link = l;
        });
  }

  root_of : (k : ℕ) → IsTop links terms k → IsRoot links terms k
  root_of k top = record {
    concept = top.concept;
    rank = top.rank;
    none = λ b r. top.none r.upper
        (subst (λ n. HasBroader links n r.upper) (one_concept terms r.lower top.concept k r.lower_rank top.rank)
        r.link);
  }

  -- The text of the hierarchy is the hierarchical display of the state.
  pub is_hierarchical : IsClosed links terms → (s : State) (scheme : ℕ) (tag text : List ℕ) → s.links ≡ links
      → AreTerms s scheme tag terms → IsHierarchyText terms tops below text → IsHierarchicalDisplay s scheme tag text
  is_hierarchical closed s scheme tag text e are t = record {
    terms = terms;
    are_terms = are;
    lines = t.lines;
    are_lines =
        subst (λ ls. IsListing line_cmp (IsTreeLine (IsTop ls terms) (IsHome ls terms) (IsAway ls terms)
        (AreTypes ls terms)) t.lines) (sym e) (record {
          rises = t.listing.rises;
          sound = λ l c. line_as _ _ _ _ (IsTop links terms) (IsHome links terms) (IsAway links terms)
              (AreTypes links terms) (λ k p. top_of closed k (g.tops_listed.sound (child k untyped true) p).1)
              (child_under true) (child_under false) (λ types k b p t. typed_under types k b t) l (t.listing.sound l c);
          complete = λ l i. t.listing.complete l (line_as (IsTop links terms) (IsHome links terms) (IsAway links terms)
              (AreTypes links terms) _ _ _ _
              (λ k p. g.tops_listed.complete (child k untyped true) ((refl, refl), root_of k p))
              (λ k b p. child_listed true k b p)
              (λ k b p. child_listed false k b p)
              listed_typed l i);
        });
    is = t.is;
  }
