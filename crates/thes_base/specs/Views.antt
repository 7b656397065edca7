-- The views of a state with which queries are answered. Their lists are sorted, without duplicates.
use Rattle.std.specs.Prelude.{◌≡◌, ◌⊎◌, ◌-◌, ℕ, List, filter, Bool, ◌&&◌, ◌==◌, length, Option, Some}
use Rattle.thes_base.specs.Types.{Bytes, Tag, Text, Number}
use Rattle.std.specs.declared.cmp.Ordering.{Ordering}
use Rattle.std.specs.Ordering.{nat_cmp, ordering_then}
use Rattle.std.specs.Cmp.Lexicographic.{slice_cmp}
use Rattle.thes_base.specs.declared.data.Resource.{Resource}
use Rattle.thes_base.specs.declared.data.History.{History}
use Rattle.thes_base.specs.declared.data.Totals.{Totals}
use Rattle.thes_base.specs.declared.data.LabelKind.{LabelKind}
use Rattle.thes_base.specs.declared.data.LabelKind.TheVariants.{Pref, Alt, Hidden, Scope}
use Rattle.thes_base.specs.declared.data.LinkKind.{LinkKind}
use Rattle.thes_base.specs.declared.data.LinkKind.TheVariants.{Related, Exact, Close, Broad, Narrow, RelMatch, Member}
use Rattle.thes_base.specs.declared.data.LinkKind.TheVariants.{BroaderGeneric, BroaderPartitive, BroaderInstantial}
use Rattle.thes_base.specs.declared.data.TypedKind.{TypedKind}
use Rattle.thes_base.specs.declared.data.TypedKind.TheVariants as typed
use Rattle.thes_base.specs.Listing.{IsListing}
use Rattle.thes_base.specs.Resources.{entry_at}
use Rattle.thes_base.specs.Labels.{HasLabel}
use Rattle.thes_base.specs.Links.{Links, Holds, IsHierarchical}
use Rattle.thes_base.specs.KindNames.{link_kind_name, typed_kind_name}
use Rattle.thes_base.specs.Postings.{is_assigned_to, assigned_count, accepted_count, withdrawn_count}
use Rattle.thes_base.specs.State.{State}

-- The numbers of postings accepted, withdrawn, and not withdrawn.
abbrev pub totals_of : List History → Totals
totals_of histories =
    record {
      accepted = accepted_count histories;
      withdrawn = withdrawn_count histories;
      standing = accepted_count histories - withdrawn_count histories;
    }

-- The histories of the postings assigned to the concept, in the order of their numbers.
abbrev pub assigned_histories : Number → List History → List History
assigned_histories concept histories = filter (is_assigned_to concept) histories

-- A link of the kind from a to b is held.
abbrev pub HasLink : Links → LinkKind → Number → Number → Type 0
HasLink links kind a b = Holds links (record { kind = kind; a = a; b = b })

-- Concept n has the mapping of the kind to m, as seen from n. A broader match of one end is a narrower match of the
-- other (SKOS: S43), and the other kinds are symmetric (SKOS: S44).
abbrev pub IsMapping : Links → Number → LinkKind × Number → Type 0
IsMapping links n (Exact, m) = HasLink links Exact n m ⊎ HasLink links Exact m n
IsMapping links n (Close, m) = HasLink links Close n m ⊎ HasLink links Close m n
IsMapping links n (RelMatch, m) = HasLink links RelMatch n m ⊎ HasLink links RelMatch m n
IsMapping links n (Broad, m) = HasLink links Broad n m ⊎ HasLink links Narrow m n
IsMapping links n (Narrow, m) = HasLink links Narrow n m ⊎ HasLink links Broad m n
IsMapping links n (_, m) = ⊥

-- The order of pairs of a kind and a number: by the kind's name, then by the number.
abbrev pub kind_name_cmp : {K : Type 0} → (K → Bytes) → K × Number → K × Number → Ordering
kind_name_cmp word x y = ordering_then (slice_cmp nat_cmp (word x.0) (word y.0)) (nat_cmp x.1 y.1)

-- The order of mappings: by the kind's name, then by the number of the other concept.
abbrev pub mapping_cmp : LinkKind × Number → LinkKind × Number → Ordering
mapping_cmp = kind_name_cmp link_kind_name

-- Concept a has the broader concept b in its scheme, by a hierarchical link of any type.
abbrev pub HasBroader : Links → Number → Number → Type 0
HasBroader links a b = (kind : LinkKind) × IsHierarchical kind × HasLink links kind a b

-- Concept n has the typed hierarchical link to m, as seen from n.
abbrev pub IsTypedLink : Links → Number → TypedKind × Number → Type 0
IsTypedLink links n (typed.BroaderGeneric, m) = HasLink links BroaderGeneric n m
IsTypedLink links n (typed.BroaderPartitive, m) = HasLink links BroaderPartitive n m
IsTypedLink links n (typed.BroaderInstantial, m) = HasLink links BroaderInstantial n m
IsTypedLink links n (typed.NarrowerGeneric, m) = HasLink links BroaderGeneric m n
IsTypedLink links n (typed.NarrowerPartitive, m) = HasLink links BroaderPartitive m n
IsTypedLink links n (typed.NarrowerInstantial, m) = HasLink links BroaderInstantial m n

-- The order of typed hierarchical links: by the kind's name, then by the number of the other concept.
abbrev pub typed_cmp : TypedKind × Number → TypedKind × Number → Ordering
typed_cmp = kind_name_cmp typed_kind_name

-- A text with its language tag.
pub record TaggedText : Type 0 where
  pub tag : Tag
  pub text : Text

-- The order of texts with tags: by tag, then by text.
abbrev pub tagged_text_cmp : TaggedText → TaggedText → Ordering
tagged_text_cmp x y = ordering_then (slice_cmp nat_cmp x.tag y.tag) (slice_cmp nat_cmp x.text y.text)

-- The view of a concept, with its fields in the order of their names.
pub record ConceptDetails : Type 0 where
  pub alt : List TaggedText
  pub broader : List Number
  pub collections : List Number
  pub hidden : List TaggedText
  pub live : Bool
  pub mappings : List (LinkKind × Number)
  pub narrower : List Number
  pub number : Number
  pub postings : ℕ
  pub pref : List TaggedText
  pub related : List Number
  pub replaced : Option Number
  pub scheme : Option Number
  pub scope : List TaggedText
  pub top : Bool
  pub typed : List (TypedKind × Number)

module _ (s : State) (n : Number) where
  -- The list has the texts that resource n has as labels of the kind, each once, ordered by tag and text.
  abbrev pub AreLabels : LabelKind → List TaggedText → Type 0
  AreLabels kind labels = IsListing tagged_text_cmp (λ t. HasLabel s.labels n kind t.tag t.text) labels

  -- The view describes concept n; `top` states that n is live and has no broader concept in its scheme.
  pub record AreDetailsOf (c : ConceptDetails) : Type 0 where
    pub resource : Resource
    pub found : entry_at s.resources n ≡ Some resource
    pub number : c.number ≡ n
    pub scheme : c.scheme ≡ resource.scheme
    pub live : c.live ≡ resource.live
    pub replaced : c.replaced ≡ resource.replaced
    pub pref : AreLabels Pref c.pref
    pub alt : AreLabels Alt c.alt
    pub hidden : AreLabels Hidden c.hidden
    pub scope : AreLabels Scope c.scope
    pub broader : IsListing nat_cmp (λ b. HasBroader s.links n b) c.broader
    pub narrower : IsListing nat_cmp (λ a. HasBroader s.links a n) c.narrower
    pub related : IsListing nat_cmp (λ m. HasLink s.links Related n m ⊎ HasLink s.links Related m n) c.related
    pub collections : IsListing nat_cmp (λ k. HasLink s.links Member k n) c.collections
    pub mappings : IsListing mapping_cmp (IsMapping s.links n) c.mappings
    pub postings : c.postings ≡ assigned_count n s.histories
    pub top : c.top ≡ (resource.live && length c.broader == 0)
    pub typed : IsListing typed_cmp (IsTypedLink s.links n) c.typed
