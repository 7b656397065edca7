-- Proves that the triples of a legal state are those written about its resources, topic by topic.
use Rattle.std.proofs.Common.{arith}
use Rattle.std.proofs.lemmas.Grind.{common_steps}
use Rattle.std.proofs.Common.{length, ◌≡◌, ◌⊎◌, ◌∙◌, sym, ap, refl, subst, inl, inr, ⊎_elim, ℕ, List, Option, None, Some}
use Rattle.std.specs.Prelude.{option_and_then}
use Rattle.thes_base.specs.declared.data.Resource.{Resource}
use Rattle.thes_base.specs.declared.data.ResourceKind.{ResourceKind}
use Rattle.thes_base.specs.declared.data.ResourceKind.TheVariants as kinds
use Rattle.thes_base.specs.declared.data.History.{History}
use Rattle.thes_base.specs.declared.data.Link.{Link}
use Rattle.thes_base.specs.declared.data.LinkKind.{LinkKind}
use Rattle.thes_base.specs.declared.data.LinkKind.TheVariants as kind
use Rattle.thes_base.specs.declared.data.LabelKind.{LabelKind}
use Rattle.thes_base.specs.declared.data.LabelKind.TheVariants.{Pref, Alt, Hidden, Scope}
use Rattle.thes_base.specs.declared.triple.Property.{Property}
use Rattle.thes_base.specs.declared.triple.Property.TheVariants as property
use Rattle.thes_base.specs.declared.triple.Class.{Class as SkosClass}
use Rattle.thes_base.specs.declared.triple.Class.TheVariants.{Concept, ConceptScheme, Collection}
use Rattle.thes_base.specs.Labels.{HasLabel}
use Rattle.thes_base.specs.Legal.{IsLegalState}
use Rattle.thes_base.specs.Links.{Holds, IsHierarchical, form_of}
use Rattle.thes_base.specs.declared.data.LinkForm.TheVariants.{Within, Mapping}
use Rattle.thes_base.specs.Resources.{Exists, IsConcept, IsCollection, entry_at, scheme_of, is_concept_kind}
use Rattle.thes_base.specs.Resources.{is_collection_kind, is_scheme_kind, is_outside_kind}
use Rattle.thes_base.specs.Triples.{Triple, Object, Node, Class, Literal, True, triple, HasProperty, IsAsserted}
use Rattle.thes_base.specs.Triples.{HasLinkOfKind, HasLabelOfKind, IsTopOf}
use Rattle.thes_base.specs.State.{State}
use Rattle.thes_base.specs.Views.{HasLink, HasBroader}
use Rattle.thes_core.specs.CoreView.{CoreView, with_histories}
use Rattle.std.proofs.lemmas.Bool.{and_parts}
use Rattle.std.proofs.lemmas.Option.{same_Some}
use Rattle.thes_base.proofs.ConditionLemmas.{owner_exists}
use Rattle.thes_base.proofs.NumberedLemmas.{numbered_bound}
use Rattle.thes_export.specs.Holdings.{IsTopIn, IsUpTo}
use Rattle.thes_export.specs.declared.topic.Topic.{Topic}
use Rattle.thes_export.specs.declared.topic.Topic.TheVariants.{Kind, Belonging, Top, TopConcepts, Death, Replacement}
use Rattle.thes_export.specs.declared.topic.Topic.TheVariants.{Labels, Broader, Narrower, Related, Mappings, Members}
use Rattle.thes_export.specs.Topics.{IsTopicTriple, IsResourceTriple, IsOfClass, MapsBy, label_property}
use Rattle.thes_export.specs.Topics.{node_triple, number_iri}

module _ (core : CoreView) (hs : List History) (legal : IsLegalState core.setting.base (with_histories hs core)) where
  abbrev base : List ℕ
  base = core.setting.base

  abbrev k : State
  k = with_histories hs core

  -- The triple is written about some resource.
  abbrev pub IsWritten : Triple → Type 0
  IsWritten t = (n : ℕ) × Exists core.resources n × IsResourceTriple core n t

  topic_written : (n : ℕ) (topic : Topic) (t : Triple) → Exists core.resources n → IsTopicTriple core topic n t
      → IsWritten t
  topic_written n topic t at is = (n, at, (topic, is))

  nodes : (p : Property) (m n : ℕ) (x y : List ℕ) → x ≡ number_iri core m → y ≡ number_iri core n
      → triple x p (Node y) ≡ node_triple core m p n
  nodes p m n x y d e = λ i. triple (d i) p (Node (e i))

  -- A link that has the kind and the ends of a held link is held.

  as_link : (l : Link) (j : LinkKind) (a b : ℕ) → Holds core.links l → l.kind ≡ j → l.a ≡ a → l.b ≡ b
      → HasLink core.links j a b
  as_link l j a b held is d e = subst (Holds core.links) (λ i. record { kind = is i; a = d i; b = e i }) held

  broader_link : (a b : ℕ) → HasLinkOfKind base k IsHierarchical a b → HasBroader core.links a b
  broader_link a b (l, held, is, d, e) = (l.kind, is, as_link l l.kind a b held refl d e)

  kind_link : (j : LinkKind) (a b : ℕ) → HasLinkOfKind base k (λ i. i ≡ j) a b → HasLink core.links j a b
  kind_link j a b (l, held, is, d, e) = as_link l j a b held is d e

  link_broader : (a b : ℕ) → HasBroader core.links a b → HasLinkOfKind base k IsHierarchical a b
  link_broader a b (j, is, has) = (record { kind = j; a = a; b = b }, has, is, refl, refl)

  link_kind : (j : LinkKind) (a b : ℕ) → HasLink core.links j a b → HasLinkOfKind base k (λ i. i ≡ j) a b
  link_kind j a b has = (record { kind = j; a = a; b = b }, has, refl, refl, refl)

  -- The ends of links exist.

  concept_exists : (n : ℕ) → IsConcept core.resources n → Exists core.resources n
  concept_exists n (r, at, is) = (r, at)

  collection_exists : (n : ℕ) → IsCollection core.resources n → Exists core.resources n
  collection_exists n (r, at, is) = (r, at)

  within_ends : (j : LinkKind) (a b : ℕ) → form_of j ≡ Within → HasLink core.links j a b → IsConcept core.resources a
      × IsConcept core.resources b
  within_ends j a b is has = grind (arith, common_steps)

  broader_ends : (a b : ℕ) → HasBroader core.links a b → IsConcept core.resources a × IsConcept core.resources b
  broader_ends a b (j, is, has) = within_ends j a b is.0 has

  mapping_start : (j : LinkKind) (a b : ℕ) → form_of j ≡ Mapping → HasLink core.links j a b → IsConcept core.resources a
  mapping_start j a b is has = grind (arith, common_steps)

  top_in : (c m : ℕ) → IsTopOf k c m → IsTopIn core c m
  top_in c m top = (top.live, top.within, λ b has. top.top (record { kind = has.0; a = c; b = b }) has.2 refl has.1)

  live_found : (c m : ℕ) → IsTopOf k c m → Exists core.resources c
  live_found c m top = let live = top.live in (live.0, live.1)

  -- A scheme that has a top concept exists.
  scheme_found : (c m : ℕ) → IsTopOf k c m → Exists core.resources m
  scheme_found c m top =
      let live = top.live in
      let own = (legal.resources.each c live.0 live.1).scheme (inl (and_parts _ _ live.2).0) in
      let same : Some own.0 ≡ Some m = sym own.1 ∙ sym (ap (option_and_then (λ (r : Resource). r.scheme)) live.1)
      ∙ top.within in
      let is = own.2 in
      subst (Exists core.resources) (same_Some _ _ same) (is.0, is.1)

  counted : (Is : ℕ → Type 0) (n : ℕ) → Exists core.resources n → Is n → IsUpTo (length core.resources) Is n
  counted Is n at is = let b = numbered_bound core.resources n at.0 at.1 in (b.0, b.1, is)

  label_written : (j : LabelKind) (x tag text : List ℕ) → HasLabelOfKind base k j x tag text
      → IsWritten (triple x (label_property j) (Literal tag text))
  label_written j x tag text (n, has, e) =
      topic_written n Labels _ (owner_exists core.resources n (legal.labels.owners _ has))
      (record { kind = j; tag = tag; text = text }, has, λ i. triple (e i) (label_property j) (Literal tag text))

  maps : (p : Property) (m n : ℕ) (x y : List ℕ) → IsConcept core.resources m → MapsBy core p m n → x
      ≡ number_iri core m → y ≡ number_iri core n → IsWritten (triple x p (Node y))
  maps p m n x y concept by d e = topic_written m Mappings _ (concept_exists m concept)
      (concept, (p, (n, by, nodes p m n x y d e)))

  both_ways : (j : LinkKind) (m n : ℕ) → form_of j ≡ Mapping → HasLinkOfKind base k (λ i. i ≡ j) m n
      ⊎ (HasLinkOfKind base k (λ i. i ≡ j) n m × IsConcept core.resources m) → IsConcept core.resources m
      × (HasLink core.links j m n ⊎ HasLink core.links j n m)
  both_ways j m n is (inl l) = let has = kind_link j m n l in (mapping_start j m n is has, inl has)
  both_ways j m n is (inr (l, concept)) = (concept, inr (kind_link j n m l))

  -- Each triple of the state whose object is a resource is written, property by property.
  node_written : (p : Property) (x y : List ℕ) → HasProperty base k x p (Node y) → IsWritten (triple x p (Node y))
  node_written property.InScheme x y (m, n, (kinds, of), d, e) =
      topic_written m Belonging _ (⊎_elim (concept_exists m) (collection_exists m) kinds)
      (n, of, nodes property.InScheme m n x y d e)
  node_written property.TopConceptOf x y (c, m, top, d, e) = topic_written c Top _ (live_found c m top)
      (m, top_in c m top, nodes property.TopConceptOf c m x y d e)
  node_written property.HasTopConcept x y (m, c, top, d, e) =
      topic_written m TopConcepts _ (scheme_found c m top) (
        c,
        counted (λ n. IsTopIn core n m) c (live_found c m top)
            (top_in c m top),
        nodes property.HasTopConcept m c x y d e,
      )
  node_written property.IsReplacedBy x y (m, n, by, d, e) = topic_written m Replacement _ (by.0, by.1)
      (n, by, nodes property.IsReplacedBy m n x y d e)
  node_written property.Broader x y (m, n, l, d, e) = let has = broader_link m n l in
      topic_written m Broader _ (concept_exists m (broader_ends m n has).0)
      (n, has, nodes property.Broader m n x y d e)
  node_written property.Narrower x y (m, n, l, d, e) = let has = broader_link n m l in
      topic_written m Narrower _ (concept_exists m (broader_ends n m has).1)
      (n, has, nodes property.Narrower m n x y d e)
  node_written property.Related x y (m, n, inl l, d, e) = let has = kind_link kind.Related m n l in
      topic_written m Related _ (concept_exists m (within_ends kind.Related m n refl has).0)
      (n, inl has, nodes property.Related m n x y d e)
  node_written property.Related x y (m, n, inr l, d, e) = let has = kind_link kind.Related n m l in
      topic_written m Related _ (concept_exists m (within_ends kind.Related n m refl has).1)
      (n, inr has, nodes property.Related m n x y d e)
  node_written property.ExactMatch x y (m, n, by, d, e) = let both = both_ways kind.Exact m n refl by in
      maps property.ExactMatch m n x y both.0 both.1 d e
  node_written property.CloseMatch x y (m, n, by, d, e) = let both = both_ways kind.Close m n refl by in
      maps property.CloseMatch m n x y both.0 both.1 d e
  node_written property.RelatedMatch x y (m, n, by, d, e) = let both = both_ways kind.RelMatch m n refl by in
      maps property.RelatedMatch m n x y both.0 both.1 d e
  node_written property.BroadMatch x y (m, n, l, d, e) = let has = kind_link kind.Broad m n l in
      maps property.BroadMatch m n x y (mapping_start kind.Broad m n refl has) has d e
  node_written property.NarrowMatch x y (m, n, l, d, e) = let has = kind_link kind.Narrow m n l in
      maps property.NarrowMatch m n x y (mapping_start kind.Narrow m n refl has) has d e
  node_written property.Member x y (m, n, l, d, e) = let has = kind_link kind.Member m n l in
      let ends = (legal.links.each _ has).ends in
      topic_written m Members _ (collection_exists m ends.0)
      (n, counted (HasLink core.links kind.Member m) n (concept_exists n ends.1) has, nodes property.Member m n x y d e)
  node_written _ x y content = absurd content

  class_written : (p : Property) (class : SkosClass) (x : List ℕ) → HasProperty base k x p (Class class)
      → IsWritten (triple x p (Class class))
  class_written property.HasType ConceptScheme x (n, is, e) =
      topic_written n Kind _ (is.0, is.1) (ConceptScheme, is, λ i. triple (e i) property.HasType (Class ConceptScheme))
  class_written property.HasType Concept x (n, is, e) =
      topic_written n Kind _ (is.0, is.1) (Concept, is, λ i. triple (e i) property.HasType (Class Concept))
  class_written property.HasType Collection x (n, is, e) =
      topic_written n Kind _ (is.0, is.1) (Collection, is, λ i. triple (e i) property.HasType (Class Collection))
  class_written _ class x content = absurd content

  true_written : (p : Property) (x : List ℕ) → HasProperty base k x p True → IsWritten (triple x p True)
  true_written property.Deprecated x (n, (concept, dead), e) = topic_written n Death _ (concept_exists n concept)
      (concept, dead, λ i. triple (e i) property.Deprecated True)
  true_written _ x content = absurd content

  literal_written : (p : Property) (x tag text : List ℕ) → HasProperty base k x p (Literal tag text)
      → IsWritten (triple x p (Literal tag text))
  literal_written property.PrefLabel x tag text content = label_written Pref x tag text content
  literal_written property.AltLabel x tag text content = label_written Alt x tag text content
  literal_written property.HiddenLabel x tag text content = label_written Hidden x tag text content
  literal_written property.ScopeNote x tag text content = label_written Scope x tag text content
  literal_written _ x tag text content = absurd content

  object_written : (x : List ℕ) (p : Property) (o : Object) → HasProperty base k x p o → IsWritten (triple x p o)
  object_written x p (Node y) content = node_written p x y content
  object_written x p (Class class) content = class_written p class x content
  object_written x p (Literal tag text) content = literal_written p x tag text content
  object_written x p True content = true_written p x content

  pub written_from : (t : Triple) → IsAsserted base k t → IsWritten t
  written_from t content = object_written t.subject t.property t.object content

  asserted_same : (t u : Triple) → t ≡ u → IsAsserted base k u → IsAsserted base k t
  asserted_same t u e content = subst (IsAsserted base k) (sym e) content

  class_said : (class : SkosClass) (n : ℕ) → IsOfClass core class n → HasProperty base k (number_iri core n)
      property.HasType (Class class)
  class_said class n is = grind (arith, common_steps)

  scheme_kinds : (n m : ℕ) (r : Resource) → entry_at core.resources n ≡ Some r → r.scheme ≡ Some m
      → IsConcept core.resources n ⊎ IsCollection core.resources n
  scheme_kinds n m r at of = go r.kind refl
    where
      go : (j : ResourceKind) → r.kind ≡ j → IsConcept core.resources n ⊎ IsCollection core.resources n
      go kinds.Concept is = inl (r, at, ap is_concept_kind is)
      go kinds.Collection is = inr (r, at, ap is_collection_kind is)
      go kinds.Scheme is =
          absurd (let none = (legal.resources.each n r at).no_scheme (inl (ap (λ j. is_scheme_kind j) is)) in
          let bad : None ≡ Some m = sym none ∙ of in cc)
      go kinds.Outside is =
          absurd (let none = (legal.resources.each n r at).no_scheme (inr (ap (λ j. is_outside_kind j) is)) in
          let bad : None ≡ Some m = sym none ∙ of in cc)

  belongs : (n m : ℕ) (o : Option Resource) → entry_at core.resources n ≡ o → scheme_of core.resources n ≡ Some m
      → IsConcept core.resources n ⊎ IsCollection core.resources n
  belongs n m o at of = grind (arith, common_steps, scheme_kinds)

  top_said : (n m : ℕ) → IsTopIn core n m → IsTopOf k n m
  top_said n m top =
      record {
        live = top.0;
        within = top.1;
        top = λ l held start is. top.2 l.b (l.kind, is, as_link l l.kind n l.b held refl start refl);
      }

  label_said : (j : LabelKind) (n : ℕ) (tag text : List ℕ) → HasLabel core.labels n j tag text
      → HasProperty base k (number_iri core n) (label_property j) (Literal tag text)
  label_said j n tag text has = grind (arith, common_steps)

  mapping_linked : (j : LinkKind) (n m : ℕ) → IsConcept core.resources n → HasLink core.links j n m
      ⊎ HasLink core.links j m n → HasLinkOfKind base k (λ i. i ≡ j) n m
      ⊎ (HasLinkOfKind base k (λ i. i ≡ j) m n × IsConcept core.resources n)
  mapping_linked j n m concept (inl has) = inl (link_kind j n m has)
  mapping_linked j n m concept (inr has) = inr (link_kind j m n has, concept)

  map_said : (p : Property) (n m : ℕ) → IsConcept core.resources n → MapsBy core p n m
      → HasProperty base k (number_iri core n) p (Node (number_iri core m))
  map_said p n m concept by = grind (arith, common_steps, link_kind, mapping_linked)

  -- Each triple written is asserted by the state, topic by topic.
  said_of : (topic : Topic) (n : ℕ) (t : Triple) → IsTopicTriple core topic n t → IsAsserted base k t
  said_of topic n t h = grind (
    arith,
    common_steps,
    asserted_same,
    belongs,
    class_said,
    label_said,
    link_broader,
    link_kind,
    map_said,
    top_said,
  )

  pub written_to : (n : ℕ) (t : Triple) → IsResourceTriple core n t → IsAsserted base k t
  written_to n t (topic, is) = said_of topic n t is
