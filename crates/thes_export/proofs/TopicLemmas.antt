-- Proves that the lines appended for a resource are those of its topics.
use Rattle.std.proofs.lemmas.Grind.{common_steps}
use Rattle.std.proofs.Common.{◌≡◌, ◌⊎◌, ◌∙◌, sym, ap, refl, subst, inl, ℕ, ◌==◌, Bool, true, false, ◌&&◌}
use Rattle.std.proofs.Common.{not, List, [], ◌∷◌, length, Contains, Option, None, Some, ◌≤◌, take, Result}
use Rattle.std.proofs.Common.{arith, eqb-true, true≢false}
use Rattle.std.specs.Prelude.{option_and_then, OnOk}
use Rattle.thes_base.specs.Links.{Holds, is_symmetric, normal_form}
use Rattle.std.specs.Ordering.{nat_cmp}
use Rattle.std.proofs.lemmas.Bool.{and_parts, both_ways, not-true}
use Rattle.thes_base.specs.declared.data.Resource.{Resource}
use Rattle.thes_base.specs.declared.data.ResourceKind.{ResourceKind}
use Rattle.thes_base.specs.declared.data.LinkKind.{LinkKind}
use Rattle.thes_base.specs.declared.data.LinkKind.TheVariants as kind
use Rattle.thes_base.specs.declared.triple.Property.{Property}
use Rattle.thes_base.specs.declared.triple.Property.TheVariants as property
use Rattle.thes_base.specs.declared.triple.Class.{Class as SkosClass}
use Rattle.thes_base.specs.declared.triple.Class.TheVariants.{Concept, ConceptScheme, Collection}
use Rattle.thes_base.specs.Data.{LabelData}
use Rattle.thes_base.specs.Listing.{IsListing}
use Rattle.thes_base.specs.Resources.{entry_at, scheme_of, is_outside, IsConcept, is_concept_kind, is_scheme_kind}
use Rattle.thes_base.specs.Resources.{is_collection_kind}
use Rattle.thes_base.specs.Triples.{Triple}
use Rattle.thes_base.specs.Views.{HasLink, HasBroader, IsMapping, mapping_cmp}
use Rattle.thes_base.proofs.ListMemberLemmas.{Contains-none, Contains-head}
use Rattle.thes_vocab.specs.OwnLabels.{AreLabelsOf}
use Rattle.thes_core.specs.CoreView.{CoreView}
use Rattle.thes_core.proofs.LabelListLemmas.{own_contains, contains_own}
use Rattle.thes_export.specs.declared.topic.Topic.{Topic}
use Rattle.thes_export.specs.declared.topic.Topic.TheVariants.{Kind, Belonging, Top, TopConcepts, Death, Replacement}
use Rattle.thes_export.specs.declared.topic.Topic.TheVariants.{Labels, Broader, Narrower, Related, Mappings, Members}
use Rattle.thes_export.specs.Spelling.{line_of}
use Rattle.thes_export.specs.Holdings.{IsTopIn, IsTopScheme, IsTopUpTo, IsMemberUpTo}
use Rattle.thes_export.specs.Topics.{Adds, IsLineOf, IsNode, IsTopicTriple, IsResourceTriple, IsOfClass, IsMatch}
use Rattle.thes_export.specs.Topics.{MapsOne, MapsBy, Nodes, class_in, class_triple, dead_triple, label_triple, topics}
use Rattle.thes_export.proofs.LineAppendLemmas.{OfSome, all_taken, one_triple, same_lines}

module _ (core : CoreView) (n : ℕ) (r : Resource) where
  same_resource : (q : Resource) → entry_at core.resources n ≡ Some r → entry_at core.resources n ≡ Some q → q ≡ r
  same_resource q found other = let e : Some q ≡ Some r = sym other ∙ found in cc

  -- The lines of a resource's class are those of its topic.

  class_from : (k : ResourceKind) (class : SkosClass) → Some class ≡ class_in k → entry_at core.resources n ≡ Some r
      → r.kind ≡ k → IsOfClass core class n
  class_from k class e found is = grind (arith, common_steps)

  scheme_kind : (k : ResourceKind) → is_scheme_kind k ≡ true → class_in k ≡ Some ConceptScheme
  scheme_kind k e = grind (arith, common_steps)

  concept_kind : (k : ResourceKind) → is_concept_kind k ≡ true → class_in k ≡ Some Concept
  concept_kind k e = grind (arith, common_steps)

  collection_kind : (k : ResourceKind) → is_collection_kind k ≡ true → class_in k ≡ Some Collection
  collection_kind k e = grind (arith, common_steps)

  class_to : (class : SkosClass) → entry_at core.resources n ≡ Some r → IsOfClass core class n → class_in r.kind
      ≡ Some class
  class_to class found h = grind (arith, common_steps, collection_kind, concept_kind, same_resource, scheme_kind)

  pub kind_line : (class : SkosClass) (line : List ℕ) (old new : List (List ℕ)) → entry_at core.resources n ≡ Some r
      → Some class ≡ class_in r.kind → line ≡ line_of (class_triple core n class) → Adds (λ l. l ≡ line) old new
      → Adds (IsLineOf (IsTopicTriple core Kind n)) old new
  kind_line class line old new found e spelling = grind (arith, common_steps, class_from, class_to, one_triple)

  -- The lines of schemes and replacements are those of their topics.

  scheme_at : entry_at core.resources n ≡ Some r → scheme_of core.resources n ≡ r.scheme
  scheme_at found = ap (option_and_then (λ (z : Resource). z.scheme)) found

  pub belonging_line : (m : ℕ) (old new : List (List ℕ)) → entry_at core.resources n ≡ Some r → Some m ≡ r.scheme
      → Adds (IsLineOf (IsNode core n property.InScheme m)) old new
      → Adds (IsLineOf (IsTopicTriple core Belonging n)) old new
  belonging_line m old new found e = grind (arith, common_steps, same_lines, scheme_at)

  pub replacement_line : (m : ℕ) (old new : List (List ℕ)) → entry_at core.resources n ≡ Some r → Some m ≡ r.replaced
      → Adds (IsLineOf (IsNode core n property.IsReplacedBy m)) old new
      → Adds (IsLineOf (IsTopicTriple core Replacement n))
      old new
  replacement_line m old new found e = grind (arith, common_steps, same_lines, same_resource)

  -- The line of a deprecated concept is that of its topic.

  pub death_line : (line : List ℕ) (old new : List (List ℕ)) → entry_at core.resources n ≡ Some r
      → (is_concept_kind r.kind && not r.live) ≡ true → line ≡ line_of (dead_triple core n) → Adds (λ l. l ≡ line) old
      new → Adds (IsLineOf (IsTopicTriple core Death n)) old new
  death_line line old new found e spelling = grind (
    arith,
    common_steps,
    and_parts,
    both_ways,
    not-true,
    one_triple,
    same_resource,
  )

  -- The lines of a top concept are those of its topic.

  pub no_top : (broader xs : List ℕ) (empty : Bool) → xs ≡ broader → IsListing nat_cmp (HasBroader core.links n)
      broader → empty ≡ (length xs == 0) → empty ≡ false → (m : ℕ) → IsTopIn core n m → ⊥
  no_top [] xs empty same listed is e m top = true≢false (sym (is ∙ ap (λ (ys : List ℕ). length ys == 0) same) ∙ e)
  no_top (b ∷ broader) xs empty same listed is e m top = top.2 b (listed.sound b (Contains-head b broader))

  pub top_scheme : (broader xs : List ℕ) (empty : Bool) (scheme : Option ℕ) → xs ≡ broader → entry_at core.resources n
      ≡ Some r → (is_concept_kind r.kind && r.live) ≡ true → IsListing nat_cmp (HasBroader core.links n) broader
      → empty ≡ (length xs == 0) → empty ≡ true → scheme ≡ r.scheme → IsTopScheme core n scheme
  top_scheme (b ∷ broader) xs empty scheme same found live listed is e of = grind (arith, common_steps, eqb-true)
  top_scheme [] xs empty None same found live listed is e of = grind (arith, common_steps, scheme_at)
  top_scheme [] xs empty (Some m) same found live listed is e of =
      ((r, found, live), scheme_at found ∙ sym of, λ b has. Contains-none b (listed.complete b has))

module _ (core : CoreView) (n : ℕ) where
  same_top : (m k : ℕ) → IsTopIn core n m → IsTopIn core n k → k ≡ m
  same_top m k a b = let q : Some k ≡ Some m = sym b.1 ∙ a.1 in cc

  pub top_line : (m : ℕ) (old new : List (List ℕ)) → IsTopIn core n m
      → Adds (IsLineOf (IsNode core n property.TopConceptOf m)) old new
      → Adds (IsLineOf (IsTopicTriple core Top n)) old new
  top_line m old new top = grind (arith, common_steps, same_lines, same_top)

  -- The lines of labels are those of their topic.

  -- The lines of the first i labels are appended.
  pub record AreLabelsAdded (own : List LabelData) (i : ℕ) (old new : List (List ℕ)) : Type 0 where
    pub adds : Adds (IsLineOf (OfSome (λ (d : LabelData) (t : Triple). t ≡ label_triple core n d) (take i own))) old new

  pub label_lines : (own : List LabelData) (i : ℕ) (old new : List (List ℕ)) → length own ≤ i
      → AreLabelsOf core.labels n own → AreLabelsAdded own i old new
      → Adds (IsLineOf (IsTopicTriple core Labels n)) old new
  label_lines own i old new all are so_far =
      same_lines (OfSome (λ (d : LabelData) (t : Triple). t ≡ label_triple core n d) own) (IsTopicTriple core Labels n)
      old new
      (λ t w. (w.0, sym (are.each w.0) ∙ contains_own own w.0 w.1, w.2))
      (λ t w. (w.0, own_contains own w.0 (are.each w.0 ∙ w.1), w.2))
      (all_taken (λ (d : LabelData) (t : Triple). t ≡ label_triple core n d) own i old new all so_far.adds)

  -- The lines of semantic relations are those of their topics.

  listed_lines : (p : Property) (Is : ℕ → Type 0) (ms xs : List ℕ) (old new : List (List ℕ)) → xs ≡ ms
      → IsListing nat_cmp Is ms → Adds (IsLineOf (Nodes core p (Contains xs) n)) old new
      → Adds (IsLineOf (Nodes core p Is n)) old new
  listed_lines p Is ms xs old new e listed =
      same_lines (Nodes core p (Contains xs) n) (Nodes core p Is n) old new
      (λ t w. (w.0, listed.sound w.0 (subst (λ ys. Contains ys w.0) e w.1), w.2))
      (λ t w. (w.0, subst (λ ys. Contains ys w.0) (sym e) (listed.complete w.0 w.1), w.2))

  pub broader_lines : (ms xs : List ℕ) (old new : List (List ℕ)) → xs ≡ ms
      → IsListing nat_cmp (HasBroader core.links n) ms → Adds (IsLineOf (Nodes core property.Broader (Contains xs) n))
      old new → Adds (IsLineOf (IsTopicTriple core Broader n)) old new
  broader_lines = listed_lines property.Broader (HasBroader core.links n)

  pub narrower_lines : (ms xs : List ℕ) (old new : List (List ℕ)) → xs ≡ ms
      → IsListing nat_cmp (λ m. HasBroader core.links m n) ms
      → Adds (IsLineOf (Nodes core property.Narrower (Contains xs) n)) old new
      → Adds (IsLineOf (IsTopicTriple core Narrower n)) old new
  narrower_lines = listed_lines property.Narrower (λ m. HasBroader core.links m n)

  pub related_lines : (ms xs : List ℕ) (old new : List (List ℕ)) → xs ≡ ms
      → IsListing nat_cmp (λ m. HasLink core.links kind.Related n m ⊎ HasLink core.links kind.Related m n) ms
      → Adds (IsLineOf (Nodes core property.Related (Contains xs) n)) old new
      → Adds (IsLineOf (IsTopicTriple core Related n))
      old new
  related_lines = listed_lines property.Related (λ m. HasLink core.links kind.Related n m
      ⊎ HasLink core.links kind.Related m n)

  pub top_concept_lines : (ms xs : List ℕ) (old new : List (List ℕ)) → xs ≡ ms
      → IsListing nat_cmp (IsTopUpTo core (length core.resources) n) ms
      → Adds (IsLineOf (Nodes core property.HasTopConcept (Contains xs) n)) old new
      → Adds (IsLineOf (IsTopicTriple core TopConcepts n)) old new
  top_concept_lines = listed_lines property.HasTopConcept (IsTopUpTo core (length core.resources) n)

  pub member_lines : (ms xs : List ℕ) (old new : List (List ℕ)) → xs ≡ ms
      → IsListing nat_cmp (IsMemberUpTo core (length core.resources) n) ms
      → Adds (IsLineOf (Nodes core property.Member (Contains xs) n)) old new
      → Adds (IsLineOf (IsTopicTriple core Members n)) old new
  member_lines = listed_lines property.Member (IsMemberUpTo core (length core.resources) n)

  -- The lines of mappings are those of their topic.

  pub match_line : (k : LinkKind) (p : Property) (m : ℕ) (old new : List (List ℕ)) → HasLink core.links k n m
      → Adds (IsLineOf (IsNode core n p m)) old new → Adds (IsLineOf (IsMatch core k n p m)) old new
  match_line k p m old new held = same_lines (IsNode core n p m) (IsMatch core k n p m) old new (λ t e. (held, e))
      (λ t w. w.1)

  abbrev Maps : Triple → Type 0
  Maps t = (p : Property) × Nodes core p (MapsBy core p n) n t

  maps_from : (k : LinkKind) (m : ℕ) (t : Triple) → IsMapping core.links n (k, m) → MapsOne core n (k, m) t → Maps t
  maps_from k m t is content = grind (arith, common_steps)

  module _ (found : List (LinkKind × ℕ)) (listed : IsListing mapping_cmp (IsMapping core.links n) found) where
    maps_to : (p : Property) (m : ℕ) (t : Triple) → MapsBy core p n m → IsNode core n p m t → OfSome (MapsOne core n)
        found t
    maps_to property.ExactMatch m t by is = ((kind.Exact, m), listed.complete (kind.Exact, m) by, is)
    maps_to property.CloseMatch m t by is = ((kind.Close, m), listed.complete (kind.Close, m) by, is)
    maps_to property.RelatedMatch m t by is = ((kind.RelMatch, m), listed.complete (kind.RelMatch, m) by, is)
    maps_to property.BroadMatch m t by is = ((kind.Broad, m), listed.complete (kind.Broad, m) (inl by), (by, is))
    maps_to property.NarrowMatch m t by is = ((kind.Narrow, m), listed.complete (kind.Narrow, m) (inl by), (by, is))
    maps_to _ m t by is = absurd by

    pub mapping_lines : (xs : List (LinkKind × ℕ)) (i : ℕ) (old new : List (List ℕ)) → xs ≡ found → length xs ≤ i
        → IsConcept core.resources n → Adds (IsLineOf (OfSome (MapsOne core n) (take i xs))) old new
        → Adds (IsLineOf (IsTopicTriple core Mappings n)) old new
    mapping_lines xs i old new e all concept added =
        same_lines (OfSome (MapsOne core n) found) (IsTopicTriple core Mappings n) old new
        (λ t w. let pair = w.0 in (concept, maps_from pair.0 pair.1 t (listed.sound w.0 w.1) w.2))
        (λ t w. let by = w.1 in let node = by.1 in maps_to by.0 node.0 t node.1 node.2)
        (subst (λ (ys : List (LinkKind × ℕ)). Adds (IsLineOf (OfSome (MapsOne core n) ys)) old new) e
        (all_taken (MapsOne core n) xs i old new all added))

  -- The list of topics contains each topic.
  among_topics : (topic : Topic) → Contains topics topic
  among_topics Kind = (0, omega arith, refl)
  among_topics Belonging = (1, omega arith, refl)
  among_topics Top = (2, omega arith, refl)
  among_topics TopConcepts = (3, omega arith, refl)
  among_topics Death = (4, omega arith, refl)
  among_topics Replacement = (5, omega arith, refl)
  among_topics Labels = (6, omega arith, refl)
  among_topics Broader = (7, omega arith, refl)
  among_topics Narrower = (8, omega arith, refl)
  among_topics Related = (9, omega arith, refl)
  among_topics Mappings = (10, omega arith, refl)
  among_topics Members = (11, omega arith, refl)

  pub all_topics : (xs : List Topic) (i : ℕ) (old new : List (List ℕ)) → xs ≡ topics → 12 ≤ i
      → Adds (IsLineOf (OfSome (λ (topic : Topic). IsTopicTriple core topic n) (take i xs))) old new
      → Adds (IsLineOf (IsResourceTriple core n)) old new
  all_topics xs i old new e all added =
      same_lines (OfSome (λ (topic : Topic). IsTopicTriple core topic n) xs) (IsResourceTriple core n) old new
      (λ t w. (w.0, w.2))
      (λ t w. (w.0, subst (λ ys. Contains ys w.0) (sym e) (among_topics w.0), w.1))
      (all_taken (λ (topic : Topic). IsTopicTriple core topic n) xs i old new
      (subst (λ (ys : List Topic). length ys ≤ i) (sym e) all) added)

  pub as_topic : {T E : Type 0} (r : Result T E) (topic other : Topic) (old new : List (List ℕ)) → topic ≡ other
      → OnOk r (Adds (IsLineOf (IsTopicTriple core other n)) old new)
      → OnOk r (Adds (IsLineOf (IsTopicTriple core topic n)) old new)
  as_topic r topic other old new e added = subst
      (λ (t : Topic). OnOk r (Adds (IsLineOf (IsTopicTriple core t n)) old new)) (sym e) added

  pub as_kind : {T E : Type 0} (r : Result T E) (k other : LinkKind) (m : ℕ) (old new : List (List ℕ)) → k ≡ other
      → OnOk r (Adds (IsLineOf (MapsOne core n (other, m))) old new)
      → OnOk r (Adds (IsLineOf (MapsOne core n (k, m))) old new)
  as_kind r k other m old new e added =
      subst (λ (j : LinkKind). OnOk r (Adds (IsLineOf (MapsOne core n (j, m))) old new)) (sym e) added

  pub one_way : (k : LinkKind) (m : ℕ) → ((o : Bool) → is_symmetric o k ≡ false)
      → Holds core.links (normal_form (is_outside core.resources) (record { kind = k; a = n; b = m }))
      → HasLink core.links k n m
  one_way k m one held = grind (arith, common_steps)
