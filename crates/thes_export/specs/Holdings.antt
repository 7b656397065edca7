-- The top concepts of each scheme, and the members of each collection.
use Rattle.std.specs.Prelude.{◌≡◌, ◌<◌, ◌≤◌, ℕ, Option, None, Some, false, length}
use Rattle.std.specs.Ordering.{nat_cmp}
use Rattle.thes_base.specs.declared.data.LinkKind.TheVariants as kind
use Rattle.thes_base.specs.Resources.{IsLiveConcept, scheme_of}
use Rattle.thes_base.specs.Views.{HasLink, HasBroader}
use Rattle.thes_core.specs.CoreView.{CoreView}
use Rattle.thes_lists.specs.declared.lists.Lists.{Lists}
use Rattle.thes_lists.specs.Lists.{AreListings}
use Rattle.thes_export.specs.declared.holdings.Holdings.{Holdings}

-- The number is between 1 and `most`, and has the property.
abbrev pub IsUpTo : ℕ → (ℕ → Type 0) → ℕ → Type 0
IsUpTo most Is n = (1 ≤ n) × (n ≤ most) × Is n

module _ (core : CoreView) where
  -- Concept `n` is a top concept of the scheme `m`.
  abbrev pub IsTopIn : ℕ → ℕ → Type 0
  IsTopIn n m =
      IsLiveConcept core.resources n × (scheme_of core.resources n ≡ Some m)
      × ((b : ℕ) → HasBroader core.links n b → ⊥)

  -- The option is the scheme of which `n` is a top concept, or None if there is none.
  abbrev pub IsTopScheme : ℕ → Option ℕ → Type 0
  IsTopScheme n None = (m : ℕ) → IsTopIn n m → ⊥
  IsTopScheme n (Some m) = IsTopIn n m

  -- The number `n` is at most `most`, and is that of a top concept of the scheme `m`.
  abbrev pub IsTopUpTo : ℕ → ℕ → ℕ → Type 0
  IsTopUpTo most m = IsUpTo most (λ n. IsTopIn n m)

  -- The number `n` is at most `most`, and is that of a member of the collection `k`.
  abbrev pub IsMemberUpTo : ℕ → ℕ → ℕ → Type 0
  IsMemberUpTo most k = IsUpTo most (HasLink core.links kind.Member k)

  -- The list at each scheme's number has the scheme's top concepts with numbers up to `most`.
  pub record AreTopsUpTo (most : ℕ) (lists : Lists ℕ) : Type 0 where
    pub listings : AreListings nat_cmp (IsTopUpTo most) lists

  -- The list at each collection's number has the collection's members with numbers up to `most`.
  pub record AreMembersUpTo (most : ℕ) (lists : Lists ℕ) : Type 0 where
    pub listings : AreListings nat_cmp (IsMemberUpTo most) lists

  -- The list at each scheme's number has the scheme's top concepts, and the list at each collection's number has the
  -- collection's members.
  pub record AreHoldings (h : Holdings) : Type 0 where
    pub tops : AreListings nat_cmp (IsTopUpTo (length core.resources)) h.tops
    pub members : AreListings nat_cmp (IsMemberUpTo (length core.resources)) h.members

  -- The resource with the index `i`, counted from 0, can be exported: the core is usable and has that resource, and the
  -- holdings are those of the core.
  pub record CanExportAt (h : Holdings) (i : ℕ) : Type 0 where
    pub unspent : core.spent ≡ false
    pub index : i < length core.resources
    pub holdings : AreHoldings h
