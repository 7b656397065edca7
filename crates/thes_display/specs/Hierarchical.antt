-- The hierarchical display of a scheme in a language (ISO 25964-1, clause 12). The rank of a concept is the index of
-- its term in alphabetical order. The home of a concept is its broader concept with the least rank. Only below its home
-- are the concept's own narrower concepts written.
use Rattle.std.specs.Prelude.{◌≡◌, ◌≤◌, ◌↔◌, ℕ, List, true, Some, slice_get, Contains, IsTrue}
use Rattle.thes_base.specs.declared.data.LinkKind.TheVariants.{BroaderGeneric, BroaderPartitive, BroaderInstantial}
use Rattle.thes_base.specs.Legal.{IsLegalState}
use Rattle.thes_base.specs.Links.{Links}
use Rattle.thes_base.specs.Listing.{IsListing}
use Rattle.thes_base.specs.State.{State}
use Rattle.thes_base.specs.Views.{HasBroader, HasLink}
use Rattle.thes_core.specs.Terms.{term_text}
use Rattle.thes_vocab.specs.Vocabulary.{IsConceptOf}
use Rattle.thes_display.specs.declared.walk.Types.{Types}
use Rattle.thes_display.specs.Order.{Term, term_cmp}
use Rattle.thes_display.specs.Lines.{TreeLine, line_cmp, lines_text, IsTreeLine}

-- The term is that of a live concept of the scheme, in the language.
pub record IsSchemeTerm (s : State) (scheme : ℕ) (tag : List ℕ) (t : Term) : Type 0 where
  pub in_scheme : IsConceptOf s.resources scheme t.concept
  pub term : t.text ≡ term_text s.labels tag t.concept

-- The list has the terms, in the language, of the scheme's live concepts, each once, in alphabetical order.
abbrev pub AreTerms : State → ℕ → List ℕ → List Term → Type 0
AreTerms s scheme tag terms = IsListing term_cmp (IsSchemeTerm s scheme tag) terms

-- The concept `n` has the rank `k`: the index of its term.
pub record HasRank (terms : List Term) (n k : ℕ) : Type 0 where
  pub term : Term
  pub term_at : slice_get terms k ≡ Some term
  pub concept : term.concept ≡ n

module _ (links : Links) (terms : List Term) where
  -- The concept with the rank `b` is broader than that with the rank `k`.
  pub record IsNarrowerTerm (k b : ℕ) : Type 0 where
    pub lower : ℕ
    pub upper : ℕ
    pub lower_rank : HasRank terms lower k
    pub upper_rank : HasRank terms upper b
    pub link : HasBroader links lower upper

  -- The concept with the rank `k` has no broader concept.
  pub record IsTop (k : ℕ) : Type 0 where
    pub concept : ℕ
    pub rank : HasRank terms concept k
    pub none : (m : ℕ) → HasBroader links concept m → ⊥

  -- The rank `b` is the home of the rank `k`: the least rank of its broader concepts.
  pub record IsHome (k b : ℕ) : Type 0 where
    pub broader : IsNarrowerTerm k b
    pub least : (c : ℕ) → IsNarrowerTerm k c → b ≤ c

  -- The concept with the rank `b` is broader than that with the rank `k`, but isn't its home.
  pub record IsAway (k b : ℕ) : Type 0 where
    pub broader : IsNarrowerTerm k b
    pub other : IsHome k b → ⊥

  -- These are the types of the links from the concept with the rank `k` to that with the rank `b`.
  pub record AreTypes (types : Types) (k b : ℕ) : Type 0 where
    pub lower : ℕ
    pub upper : ℕ
    pub lower_rank : HasRank terms lower k
    pub upper_rank : HasRank terms upper b
    pub generic : IsTrue types.generic ↔ HasLink links BroaderGeneric lower upper
    pub partitive : IsTrue types.partitive ↔ HasLink links BroaderPartitive lower upper
    pub instantial : IsTrue types.instantial ↔ HasLink links BroaderInstantial lower upper

-- The text is the hierarchical display of the scheme: a line for each top concept, and one for each pair of a concept
-- and a broader concept of it.
pub record IsHierarchicalDisplay (s : State) (scheme : ℕ) (tag text : List ℕ) : Type 0 where
  pub terms : List Term
  pub are_terms : AreTerms s scheme tag terms
  pub lines : List TreeLine
  pub are_lines : IsListing line_cmp
      (IsTreeLine (IsTop s.links terms) (IsHome s.links terms) (IsAway s.links terms) (AreTypes s.links terms)) lines
  pub is : text ≡ lines_text terms lines

-- A scheme of a state has at most one hierarchical display in a language.
abbrev pub HasOneHierarchical : Type 0
HasOneHierarchical =
    (s : State) (scheme : ℕ) (tag x y : List ℕ) → IsHierarchicalDisplay s scheme tag x
    → IsHierarchicalDisplay s scheme tag y → x ≡ y

-- The concept `n` has exactly one line at home.
pub record HasOneHome (terms : List Term) (lines : List TreeLine) (n : ℕ) : Type 0 where
  pub line : TreeLine
  pub there : Contains lines line
  pub shows : HasRank terms n line.rank
  pub at_home : line.at_home ≡ true
  pub unique : (other : TreeLine) → Contains lines other → HasRank terms n other.rank → other.at_home ≡ true → other
      ≡ line

-- In the hierarchical display of a legal state, each live concept of the scheme has exactly one line at home: as a top
-- concept, or below the broader concept that is its home.
abbrev pub EachHasOneHome : Type 0
EachHasOneHome =
    (base : List ℕ) (s : State) (scheme : ℕ) (tag text : List ℕ) → IsLegalState base s
    → (d : IsHierarchicalDisplay s scheme tag text)
    → (n : ℕ) → IsConceptOf s.resources scheme n → HasOneHome d.terms d.lines n
