-- The triples that an export writes about each resource, topic by topic.
use Rattle.std.specs.Prelude.{◌≡◌, ◌⊎◌, ◌↔◌, ◌∷◌, ◌≤◌, [], ℕ, List, length, Contains, Option, None, Some, true}
use Rattle.std.specs.FinSet as set
use Rattle.std.specs.List.{concat}
use Rattle.std.specs.Ordering.{nat_cmp}
use Rattle.std.specs.Cmp.Lexicographic.{slice_cmp}
use Rattle.thes_base.specs.declared.data.LabelKind.{LabelKind}
use Rattle.thes_base.specs.declared.data.LabelKind.TheVariants.{Pref, Alt, Hidden, Scope}
use Rattle.thes_base.specs.declared.data.LinkKind.{LinkKind}
use Rattle.thes_base.specs.declared.data.LinkKind.TheVariants as kind
use Rattle.thes_base.specs.declared.data.ResourceKind.{ResourceKind}
use Rattle.thes_base.specs.declared.data.ResourceKind.TheVariants as kinds
use Rattle.thes_base.specs.declared.triple.Property.{Property}
use Rattle.thes_base.specs.declared.triple.Property.TheVariants as property
use Rattle.thes_base.specs.declared.triple.Class.{Class as SkosClass}
use Rattle.thes_base.specs.declared.triple.Class.TheVariants.{Concept, ConceptScheme, Collection}
use Rattle.thes_base.specs.Data.{LabelData}
use Rattle.thes_base.specs.Listing.{IsListing}
use Rattle.thes_base.specs.Machine.{owned_label}
use Rattle.thes_base.specs.Resources.{IsScheme, IsConcept, IsCollection, IsLive, IsReplacedBy, scheme_of}
use Rattle.thes_base.specs.Triples.{Triple, Node, Class, Literal, True, triple, iri_of}
use Rattle.thes_base.specs.Views.{HasLink, HasBroader}
use Rattle.thes_core.specs.CoreView.{CoreView}
use Rattle.thes_export.specs.declared.line_source.LineSource.{LineSource}
use Rattle.thes_export.specs.declared.topic.Topic.{Topic}
use Rattle.thes_export.specs.declared.topic.Topic.TheVariants.{Kind, Belonging, Top, TopConcepts, Death, Replacement}
use Rattle.thes_export.specs.declared.topic.Topic.TheVariants.{Labels, Broader, Narrower, Related, Mappings, Members}
use Rattle.thes_export.specs.Holdings.{IsTopIn, IsTopUpTo, IsMemberUpTo, IsUpTo}
use Rattle.thes_export.specs.Spelling.{line_of}

-- The IRI of the resource with this number.
abbrev pub number_iri : CoreView → ℕ → List ℕ
number_iri core n = iri_of core.setting.base core.iris n

-- The SKOS property for a label kind.
abbrev pub label_property : LabelKind → Property
label_property Pref = property.PrefLabel
label_property Alt = property.AltLabel
label_property Hidden = property.HiddenLabel
label_property Scope = property.ScopeNote

module _ (core : CoreView) where
  -- The triple from `n` to `m` with the property `p`.
  abbrev pub node_triple : ℕ → Property → ℕ → Triple
  node_triple n p m = triple (number_iri core n) p (Node (number_iri core m))

  -- The triple is that from `n` to `m` with the property.
  abbrev pub IsNode : ℕ → Property → ℕ → Triple → Type 0
  IsNode n p m t = t ≡ node_triple n p m

  -- The triple that states the class of `n`.
  abbrev pub class_triple : ℕ → SkosClass → Triple
  class_triple n class = triple (number_iri core n) property.HasType (Class class)

  -- The triple that states that `n` is deprecated.
  abbrev pub dead_triple : ℕ → Triple
  dead_triple n = triple (number_iri core n) property.Deprecated True

  -- The triple that states a label or scope note of `n`.
  abbrev pub label_triple : ℕ → LabelData → Triple
  label_triple n l = triple (number_iri core n) (label_property l.kind) (Literal l.tag l.text)

  -- The triple has the subject `n`, the property `p`, and as its object a resource that satisfies `Is`.
  abbrev pub Nodes : Property → (ℕ → Type 0) → ℕ → Triple → Type 0
  Nodes p Is n t = (m : ℕ) × Is m × IsNode n p m t

  -- The resource `n` is of the kind for this class.
  abbrev pub IsOfClass : SkosClass → ℕ → Type 0
  IsOfClass ConceptScheme n = IsScheme core.resources n
  IsOfClass Concept n = IsConcept core.resources n
  IsOfClass Collection n = IsCollection core.resources n

  -- There is a link of this kind from `n` to `m`, and the triple is that from `n` to `m` with the
  -- property.
  abbrev pub IsMatch : LinkKind → ℕ → Property → ℕ → Triple → Type 0
  IsMatch k n p m t = HasLink core.links k n m × IsNode n p m t

  -- The triple states this mapping, with `n` as its subject.
  abbrev pub MapsOne : ℕ → LinkKind × ℕ → Triple → Type 0
  MapsOne n (kind.Exact, m) t = IsNode n property.ExactMatch m t
  MapsOne n (kind.Close, m) t = IsNode n property.CloseMatch m t
  MapsOne n (kind.RelMatch, m) t = IsNode n property.RelatedMatch m t
  MapsOne n (kind.Broad, m) t = IsMatch kind.Broad n property.BroadMatch m t
  MapsOne n (kind.Narrow, m) t = IsMatch kind.Narrow n property.NarrowMatch m t
  MapsOne n (_, m) t = ⊥

  -- A mapping between `n` and `m` is stated by this property, with `n` as its subject.
  abbrev pub MapsBy : Property → ℕ → ℕ → Type 0
  MapsBy property.ExactMatch n m = HasLink core.links kind.Exact n m ⊎ HasLink core.links kind.Exact m n
  MapsBy property.CloseMatch n m = HasLink core.links kind.Close n m ⊎ HasLink core.links kind.Close m n
  MapsBy property.RelatedMatch n m = HasLink core.links kind.RelMatch n m ⊎ HasLink core.links kind.RelMatch m n
  MapsBy property.BroadMatch n m = HasLink core.links kind.Broad n m
  MapsBy property.NarrowMatch n m = HasLink core.links kind.Narrow n m
  MapsBy _ n m = ⊥

  -- The triple is one that is written about `n` under this topic.
  abbrev pub IsTopicTriple : Topic → ℕ → Triple → Type 0
  IsTopicTriple Kind n t = (class : SkosClass) × IsOfClass class n × (t ≡ class_triple n class)
  IsTopicTriple Belonging n t = Nodes property.InScheme (λ m. scheme_of core.resources n ≡ Some m) n t
  IsTopicTriple Top n t = Nodes property.TopConceptOf (IsTopIn core n) n t
  IsTopicTriple TopConcepts n t = Nodes property.HasTopConcept (IsTopUpTo core (length core.resources) n) n t
  IsTopicTriple Death n t = IsConcept core.resources n × (IsLive core.resources n → ⊥) × (t ≡ dead_triple n)
  IsTopicTriple Replacement n t = Nodes property.IsReplacedBy (IsReplacedBy core.resources n) n t
  IsTopicTriple Labels n t = (l : LabelData) × (set.contains core.labels (owned_label n l) ≡ true)
      × (t ≡ label_triple n l)
  IsTopicTriple Broader n t = Nodes property.Broader (HasBroader core.links n) n t
  IsTopicTriple Narrower n t = Nodes property.Narrower (λ m. HasBroader core.links m n) n t
  IsTopicTriple Related n t =
      Nodes property.Related (λ m. HasLink core.links kind.Related n m ⊎ HasLink core.links kind.Related m n) n t
  IsTopicTriple Mappings n t = IsConcept core.resources n × ((p : Property) × Nodes p (MapsBy p n) n t)
  IsTopicTriple Members n t = Nodes property.Member (IsMemberUpTo core (length core.resources) n) n t

  -- The triple is one that is written about `n` under any topic.
  abbrev pub IsResourceTriple : ℕ → Triple → Type 0
  IsResourceTriple n t = (topic : Topic) × IsTopicTriple topic n t

-- All topics, in the order in which their lines are collected, before they are sorted.
abbrev pub topics : List Topic
topics =
    Kind ∷ Belonging ∷ Top ∷ TopConcepts ∷ Death ∷ Replacement ∷ Labels ∷ Broader ∷ Narrower ∷ Related ∷ Mappings
    ∷ Members ∷ []

-- The line is that of a triple with the property `Is`.
abbrev pub IsLineOf : (Triple → Type 0) → List ℕ → Type 0
IsLineOf Is line = (t : Triple) × Is t × (line ≡ line_of t)

-- The new list has exactly the lines of the old one and those with the property `Is`.
pub record Adds (Is : List ℕ → Type 0) (old new : List (List ℕ)) : Type 0 where
  pub each : (line : List ℕ) → Contains new line ↔ (Contains old line ⊎ Is line)

-- The SKOS class of a kind of resource; an outside concept has none, since other data describe it.
abbrev pub class_in : ResourceKind → Option SkosClass
class_in kinds.Scheme = Some ConceptScheme
class_in kinds.Concept = Some Concept
class_in kinds.Collection = Some Collection
class_in kinds.Outside = None

-- The text is the part of an export about the resource `n`: exactly its lines, in the order of their bytes, each once.
abbrev pub IsPartOf : CoreView → ℕ → List ℕ → Type 0
IsPartOf core n text =
    (lines : List (List ℕ)) × IsListing (slice_cmp nat_cmp) (IsLineOf (IsResourceTriple core n)) lines
    × (text ≡ concat lines)

-- The texts are exactly the parts about the resources with the numbers from 1 to `most`.
pub record AreParts (core : CoreView) (most : ℕ) (texts : List (List ℕ)) : Type 0 where
  pub sound : (text : List ℕ) → Contains texts text → (n : ℕ) × IsUpTo most (λ m. IsPartOf core m text) n
  pub complete : (n : ℕ) → 1 ≤ n → n ≤ most → (text : List ℕ) × Contains texts text × IsPartOf core n text

-- The new list has exactly the lines of the old one and those of this topic of the resource.
abbrev pub AddsTopic : LineSource → Topic → List (List ℕ) → List (List ℕ) → Type 0
AddsTopic about topic old new = Adds (IsLineOf (IsTopicTriple about.core.now topic about.n)) old new
