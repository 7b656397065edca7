-- The lists that are computed from a state before its hierarchy is written.
use Rattle.std.specs.Prelude.{◌≡◌, ◌≤◌, ◌⊎◌, Contains, ℕ, List, Bool, true, false, Option, None, Some, ◌<◌, length, get_or}
use Rattle.thes_base.specs.Listing.{IsListing}
use Rattle.thes_base.specs.Views.{HasLink}
use Rattle.thes_base.specs.declared.data.LinkKind.{LinkKind}
use Rattle.thes_base.specs.declared.data.LinkForm.TheVariants.{Within}
use Rattle.thes_base.specs.Links.{Links, form_of}
use Rattle.thes_core.specs.CoreView.{CoreView}
use Rattle.thes_display.specs.ChildLists.{children_at, child_cmp}
use Rattle.thes_display.specs.Lines.{untyped}
use Rattle.thes_display.specs.declared.walk.Child.{Child}
use Rattle.thes_display.specs.Order.{Term}
use Rattle.thes_display.specs.Hierarchical.{HasRank, IsNarrowerTerm, IsHome, IsAway, AreTypes}

-- Each concept has at most one rank.
pub record HaveOneRank (terms : List Term) : Type 0 where
  pub one : (n j k : ℕ) → HasRank terms n j → HasRank terms n k → j ≡ k

-- The rank of a concept in a list that has ranks at the numbers of concepts.
abbrev pub rank_at : List (Option ℕ) → ℕ → Option ℕ
rank_at ranks n = get_or ranks n None

-- The map has the rank of each concept that has one, and no other.
pub record AreRanks (terms : List Term) (ranks : ℕ → Option ℕ) : Type 0 where
  pub rank_is : (n k : ℕ) → ranks n ≡ Some k → HasRank terms n k
  pub all : (n k : ℕ) → HasRank terms n k → ranks n ≡ Some k

-- Links can be followed from rank to rank: the core is usable, and the map has the ranks of the concepts.
pub record CanFollowLinks (core : CoreView) (terms : List Term) (rank_of : ℕ → Option ℕ) : Type 0 where
  pub unspent : core.spent ≡ false
  pub ranks : AreRanks terms rank_of

module _ (links : Links) (terms : List Term) where
  -- The concept with this rank has no broader concept with a rank.
  pub record IsRoot (k : ℕ) : Type 0 where
    pub concept : ℕ
    pub rank : HasRank terms concept k
    pub none : (b : ℕ) → IsNarrowerTerm links terms k b → ⊥

  -- The option is the home of the rank `k`, if that home is below `m`, or None if no broader concept has a rank below
  -- `m`.
  abbrev pub IsHomeBelow : (m k : ℕ) → Option ℕ → Type 0
  IsHomeBelow m k None = (b : ℕ) → IsNarrowerTerm links terms k b → m ≤ b
  IsHomeBelow m k (Some b) = IsHome links terms k b × (b < m)

  -- The list has the homes that are below `m`, at the ranks of their children.
  abbrev pub AreHomes : ℕ → List (Option ℕ) → Type 0
  AreHomes m homes = (k : ℕ) → IsHomeBelow m k (rank_at homes k)

  -- The concept with the rank `k` is a child of that with the rank `b`; the Boolean states whether `b` is its home.
  abbrev pub IsChildAt : Bool → ℕ → ℕ → Type 0
  IsChildAt true k b = IsHome links terms k b
  IsChildAt false k b = IsAway links terms k b

  -- The child is a child of the concept with the rank `b`, and has the types of its links to that concept.
  abbrev pub IsChild : ℕ → Child → Type 0
  IsChild b c = IsChildAt c.at_home c.rank b × AreTypes links terms c.types c.rank b

-- The new homes are the old ones, with this rank as the home of the children at home.
pub record AreHomesSet (rank : ℕ) (children : List Child) (old new : List (Option ℕ)) : Type 0 where
  pub set : (c : Child) → Contains children c → c.at_home ≡ true → rank_at new c.rank ≡ Some rank
  pub same : (k : ℕ) → (rank_at new k ≡ rank_at old k)
      ⊎ ((c : Child) × Contains children c × (c.at_home ≡ true) × (c.rank ≡ k) × (rank_at new k ≡ Some rank))

-- The child is listed as a top concept is: at home, and without types.
abbrev pub IsTopChild : Child → Type 0
IsTopChild c = (c.at_home ≡ true) × (c.types ≡ untyped)

-- The lists have all top concepts, and the children of each concept, sorted by rank.
pub record IsGathered (links : Links) (terms : List Term) (tops : List Child) (below : List (List Child)) : Type 0 where
  pub size : length below ≡ length terms
  pub tops_listed : IsListing child_cmp (λ c. IsTopChild c × IsRoot links terms c.rank) tops
  pub below_listed : (b : ℕ) → b < length terms → IsListing child_cmp (IsChild links terms b) (children_at below b)

-- Each link within a scheme joins two concepts that have ranks, or two that have none.
pub record IsClosed (links : Links) (terms : List Term) : Type 0 where
  pub upward : (kind : LinkKind) (a b k : ℕ) → form_of kind ≡ Within → HasLink links kind a b
      → HasRank terms a k → (j : ℕ) × HasRank terms b j
  pub downward : (kind : LinkKind) (a b k : ℕ) → form_of kind ≡ Within → HasLink links kind a b
      → HasRank terms b k → (j : ℕ) × HasRank terms a j

-- The lists have the children of the concepts with ranks below `m`, each list sorted by rank.
pub record AreBelow (links : Links) (terms : List Term) (m : ℕ) (below : List (List Child)) : Type 0 where
  pub size : length below ≡ m
  pub each : (b : ℕ) → b < m → IsListing child_cmp (IsChild links terms b) (children_at below b)

-- The child is a top concept: its rank is below `m`, and the list of homes has none for it.
abbrev pub IsTopByHomes : List (Option ℕ) → ℕ → Child → Type 0
IsTopByHomes homes m c = IsTopChild c × (c.rank < m) × (rank_at homes c.rank ≡ None)
