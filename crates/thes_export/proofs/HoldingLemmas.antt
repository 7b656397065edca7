-- Proves that the lists of top concepts and members are complete after each resource.
use Rattle.std.proofs.lemmas.Grind.{common_steps}
use Rattle.std.proofs.Common.{◌≡◌, ◌⊎◌, ◌∙◌, sym, refl, subst, inl, inr, ⊎_elim, ℕ, ◌+◌, ◌<◌, ◌≤◌}
use Rattle.std.proofs.Common.{ap, List, [], ◌∷◌, ◌++◌, length, get_or, take, Contains, arith, eqb-true, None, Some}
use borrow.Author.Tests.{eqb-false}
use Rattle.std.specs.BTreeSet.{insert_key}
use Rattle.std.specs.Ordering.{nat_cmp}
use Rattle.std.proofs.lemmas.Cmp.{nat_cmp_total}
use Rattle.std.proofs.lemmas.List.{take_more}
use Rattle.std.proofs.lemmas.Map.Lookups.{exact_unsigned}
use Rattle.thes_base.specs.declared.data.LinkKind.TheVariants as kind
use Rattle.thes_base.specs.Listing.{IsListing}
use Rattle.thes_base.specs.Views.{HasLink}
use Rattle.thes_base.proofs.ListMemberLemmas.{Contains-none, Contains-head, Contains-cons_cases}
use Rattle.std.proofs.lemmas.List.Elements.{Contains-append_left, Contains-append_right, Contains-append_cases}
use Rattle.thes_core.specs.CoreView.{CoreView}
use Rattle.thes_lists.specs.declared.lists.Lists.{Lists}
use Rattle.thes_lists.specs.Lists.{listed_at, ChangesOnlyAt, AreListings}
use Rattle.thes_lists.proofs.ListingLemmas.{listing_none, listings_same, listings_insert}
use Rattle.thes_export.specs.Holdings.{AreMembersUpTo, AreTopsUpTo, IsTopIn, IsTopScheme, IsTopUpTo, IsMemberUpTo}
use Rattle.thes_export.specs.Holdings.{IsUpTo}

-- Empty lists are listings of the numbers up to 0.
none_listed : (Is : ℕ → ℕ → Type 0) (lists : Lists ℕ) → ((n : ℕ) → listed_at lists n ≡ [])
    → AreListings nat_cmp (λ m. IsUpTo 0 (Is m)) lists
none_listed Is lists none n = subst (IsListing nat_cmp (IsUpTo 0 (Is n))) (sym (none n))
    (listing_none nat_cmp (IsUpTo 0 (Is n)) (λ x is. let least = is.0 in let most = is.1 in omega arith))

pub tops_none : (core : CoreView) (lists : Lists ℕ) → ((n : ℕ) → listed_at lists n ≡ []) → AreTopsUpTo core 0 lists
tops_none core lists none = record { listings = none_listed (λ m n. IsTopIn core n m) lists none }

pub tops_all : (core : CoreView) (i n : ℕ) (lists : Lists ℕ) → i ≤ n → n ≤ i → AreTopsUpTo core i lists
    → AreTopsUpTo core n lists
tops_all core i n lists least most are = subst (λ k. AreTopsUpTo core k lists) (let e : i ≡ n = omega arith in e) are

pub members_none : (core : CoreView) (lists : Lists ℕ) → ((n : ℕ) → listed_at lists n ≡ [])
    → AreMembersUpTo core 0 lists
members_none core lists none = record { listings = none_listed (HasLink core.links kind.Member) lists none }

pub members_all : (core : CoreView) (i n : ℕ) (lists : Lists ℕ) → i ≤ n → n ≤ i → AreMembersUpTo core i lists
    → AreMembersUpTo core n lists
members_all core i n lists least most are =
    subst (λ k. AreMembersUpTo core k lists) (let e : i ≡ n = omega arith in e) are

-- A number up to `i + 1` with a property is a number up to `i` with it, or is `i + 1`.
pub one_more : (Is : ℕ → Type 0) (i n : ℕ) → IsUpTo (i + 1) Is n → IsUpTo i Is n ⊎ ((n ≡ i + 1) × Is (i + 1))
one_more Is i n (least, most, is) = grind (arith, common_steps, eqb-false, eqb-true)

pub still_up : (Is : ℕ → Type 0) (i n : ℕ) → IsUpTo i Is n → IsUpTo (i + 1) Is n
still_up Is i n (least, most, is) = (least, omega arith, is)

-- Resource `x` is a member of the collection `k` with a number up to `i`; or it is `n`, and `k` is among the
-- collections `ks`.
abbrev pub IsMemberBefore : CoreView → ℕ → ℕ → List ℕ → ℕ → ℕ → Type 0
IsMemberBefore core i n ks k x = IsMemberUpTo core i k x ⊎ ((x ≡ n) × Contains ks k)

module _ (core : CoreView) (i n : ℕ) (next : n ≡ i + 1) where
  -- If the next resource isn't a top concept, the same lists are complete up to it.
  pub tops_same : (lists : Lists ℕ) → IsTopScheme core n None → AreTopsUpTo core i lists
      → AreTopsUpTo core (i + 1) lists
  tops_same lists none are = record {
    listings = listings_same nat_cmp (IsTopUpTo core i) (IsTopUpTo core (i + 1)) lists lists (λ m. refl)
        (λ m x is. still_up (λ y. IsTopIn core y m) i x is)
        (λ m x is. ⊎_elim (λ was. was)
        (λ new. absurd (none m (subst (λ y. IsTopIn core y m) (sym next) new.1)))
        (one_more (λ y. IsTopIn core y m) i x is)) are.listings;
  }

  -- If the next resource is a top concept, the lists are complete up to it once it is in its scheme's list.
  pub tops_more : (old new : Lists ℕ) (scheme : ℕ) → IsTopIn core n scheme
      → ChangesOnlyAt old new scheme (insert_key nat_cmp (listed_at old scheme) n)
      → AreTopsUpTo core i old → AreTopsUpTo core (i + 1) new
  tops_more old new scheme top changes are = record {
    listings = listings_insert nat_cmp nat_cmp_total exact_unsigned (IsTopUpTo core i) (IsTopUpTo core (i + 1)) old
        new scheme n are.listings changes (omega (arith, next), omega (arith, next), top)
        (λ m x is. still_up (λ y. IsTopIn core y m) i x is)
        (λ m x is. ⊎_elim inl
        (λ one. let own = subst (λ y. IsTopIn core y m) (sym next) one.1 in
        inr ((let q : Some m ≡ Some scheme = sym own.1 ∙ top.1 in cc), one.0 ∙ sym next))
        (one_more (λ y. IsTopIn core y m) i x is));
  }

  pub members_first : (lists : Lists ℕ) → AreMembersUpTo core i lists
      → AreListings nat_cmp (IsMemberBefore core i n []) lists
  members_first lists are =
      listings_same nat_cmp (IsMemberUpTo core i) (IsMemberBefore core i n []) lists lists (λ m. refl)
      (λ m x is. inl is)
      (λ m x is. ⊎_elim (λ was. was) (λ new. absurd (Contains-none m new.1)) is) are.listings

  pub members_next : (ks : List ℕ) (j k : ℕ) (old new : Lists ℕ) → j < length ks → k ≡ get_or ks j k
      → ChangesOnlyAt old new k (insert_key nat_cmp (listed_at old k) n)
      → AreListings nat_cmp (IsMemberBefore core i n (take j ks)) old
      → AreListings nat_cmp (IsMemberBefore core i n (take (j + 1) ks)) new
  members_next ks j k old new below at changes listed =
      let more : take (j + 1) ks ≡ take j ks ++ k ∷ [] = take_more ks j k below
      ∙ ap (λ z. take j ks ++ z ∷ []) (sym at) in
      subst (λ (xs : List ℕ). AreListings nat_cmp (IsMemberBefore core i n xs) new) (sym more)
      (listings_insert nat_cmp nat_cmp_total exact_unsigned (IsMemberBefore core i n (take j ks))
      (IsMemberBefore core i n (take j ks ++ k ∷ [])) old new k n listed changes
      (inr (refl, Contains-append_right (take j ks) (k ∷ []) k (Contains-head k [])))
      (λ m x is. ⊎_elim inl (λ one. inr (one.0, Contains-append_left (take j ks) (k ∷ []) m one.1)) is)
      (λ m x is. ⊎_elim (λ was. inl (inl was))
      (λ one. ⊎_elim (λ c. inl (inr (one.0, c)))
      (λ c. inr (⊎_elim sym (λ none. absurd (Contains-none m none)) (Contains-cons_cases k [] m c), one.0))
      (Contains-append_cases (take j ks) (k ∷ []) m one.1)) is))

  -- Once the next resource is in the lists of all its collections, the lists are complete up to it.
  pub members_done : (ks xs : List ℕ) (lists : Lists ℕ) → xs ≡ ks
      → IsListing nat_cmp (λ k. HasLink core.links kind.Member k n) ks
      → AreListings nat_cmp (IsMemberBefore core i n xs) lists → AreMembersUpTo core (i + 1) lists
  members_done ks xs lists e collections listed = record {
    listings = listings_same nat_cmp (IsMemberBefore core i n xs) (IsMemberUpTo core (i + 1)) lists lists (λ m. refl)
        (λ k x is. ⊎_elim (λ was. still_up (HasLink core.links kind.Member k) i x was)
        (λ one. subst (IsMemberUpTo core (i + 1) k) (sym one.0)
        (omega (arith, next), omega (arith, next), collections.sound k (subst (λ ys. Contains ys k) e one.1))) is)
        (λ k x is. ⊎_elim inl
        (λ one. inr (
          one.0 ∙ sym next,
          subst (λ ys. Contains ys k) (sym e)
              (collections.complete k (subst (HasLink core.links kind.Member k) (sym next) one.1)),
        ))
        (one_more (HasLink core.links kind.Member k) i x is))
        listed;
  }
