-- Listings of a property after an insertion and after a removal.
use Rattle.std.proofs.Common.{◌≡◌, ◌≢◌, ◌⊎◌, inl, inr, ℕ, List, [], ◌∷◌, Bool, true, false, cond, Contains, Ordering}
use Rattle.std.proofs.Common.{Less, Equal, Greater, refl, sym, ap, subst, ◌∙◌}
use Rattle.std.specs.List.Sorted.{IsStrictlySortedBy}
use Rattle.std.specs.Ordering.{is_eq, match_ordering}
use Rattle.std.specs.Cmp.{IsTotalOrder, tied_itself, Equal-is}
use Rattle.std.specs.FinSet.{IsAntisymmetric}
use Rattle.std.specs.BTreeMap.{is_at}
use Rattle.std.specs.BTreeSet.{insert_key}
use Rattle.std.specs.Set.{remove_key}
use Rattle.std.proofs.lemmas.Map.Keys.{sorted_tail}
use Rattle.std.proofs.lemmas.Bool.{cases_eq}
use Rattle.thes_base.specs.Listing.{IsListing}
use Rattle.thes_lists.specs.declared.lists.Lists.{Lists}
use Rattle.thes_lists.specs.Lists.{listed_at, HaveSameValues, ChangesOnlyAt, AreListings}
use Rattle.thes_lists.proofs.MemberLemmas.{Has, Has-from, Contains-from}
use Rattle.thes_lists.proofs.OrderLemmas.{sorted_none, above_head, insert_cases, insert_keeps, insert_sorted}
use Rattle.thes_lists.proofs.OrderLemmas.{remove_had, remove_sorted, never_below_itself}

module _ {A : Type 0} (c : A → A → Ordering) where
  pub listing_none : (P : A → Type 0) → ((x : A) → P x → ⊥) → IsListing c P []
  listing_none P none = record {
    rises = sorted_none c;
    sound = λ x has. absurd (Has-from [] x has);
    complete =
        λ x p. absurd (none x p);
  }

  pub listing_as : (P Q : A → Type 0) (xs : List A) → ((x : A) → P x → Q x) → ((x : A) → Q x → P x) → IsListing c P xs
      → IsListing c Q xs
  listing_as P Q xs to from is = record {
    rises = is.rises;
    sound = λ x has. to x (is.sound x has);
    complete =
        λ x q. is.complete x (from x q);
  }

  pub listings_same : (P Q : ℕ → A → Type 0) (old new : Lists A) → HaveSameValues old new
      → ((n : ℕ) (x : A) → P n x → Q n x) → ((n : ℕ) (x : A) → Q n x → P n x) → AreListings c P old
      → AreListings c Q new
  listings_same P Q old new same to from are n = subst (IsListing c (Q n)) (sym (same n))
      (listing_as (P n) (Q n) (listed_at old n) (to n) (from n) (are n))

  pub listings_changed : (P Q : ℕ → A → Type 0) (old new : Lists A) (n : ℕ) (values : List A)
      → ChangesOnlyAt old new n values → IsListing c (Q n) values
      → ((m : ℕ) → m ≢ n → (x : A) → P m x → Q m x) → ((m : ℕ) → m ≢ n → (x : A) → Q m x → P m x)
      → AreListings c P old → AreListings c Q new
  listings_changed P Q old new n values changes here to from are m = elim (cases_eq m n) [
    | inl same ↦ subst (λ k. IsListing c (Q k) (listed_at new k)) (sym same)
        (subst (IsListing c (Q n)) (sym changes.here) here)
    | inr apart ↦ subst (IsListing c (Q m)) (sym (changes.others m apart))
        (listing_as (P m) (Q m) (listed_at old m) (to m apart) (from m apart) (are m))
  ]

module _ {A : Type 0} (c : A → A → Ordering) (o : IsTotalOrder c) (exact : IsAntisymmetric c) where
  pub insert_has : (ks : List A) (x : A) → Has (insert_key c ks x) x
  insert_has [] x = inl refl
  insert_has (y ∷ ys) x = go (c x y) refl (insert_has ys x)
    where
      go : (r : Ordering) → c x y ≡ r → Has (insert_key c ys x) x
          → Has (match_ordering r (x ∷ y ∷ ys) (y ∷ ys) (y ∷ insert_key c ys x)) x
      go Less below later = inl refl
      go Equal tied later = inl (sym (exact x y tied))
      go Greater above later = inr later

  pub listing_insert : (P : A → Type 0) (xs : List A) (x : A) → IsListing c P xs → IsListing c (λ m. P m ⊎ (m ≡ x))
      (insert_key c xs x)
  listing_insert P xs x is = record {
    rises = insert_sorted c o xs x is.rises;
    sound = λ m has. elim (insert_cases c xs x m (Has-from (insert_key c xs x) m has)) [
      | inl same ↦ inr (sym same)
      | inr old ↦ inl (is.sound m (Contains-from xs m old))
    ];
    complete = λ m p. elim p [
      | inl old ↦ Contains-from (insert_key c xs x) m (insert_keeps c xs x m (Has-from xs m (is.complete m old)))
      | inr new ↦ subst (Contains (insert_key c xs x)) (sym new) (Contains-from (insert_key c xs x) x (insert_has xs x))
    ];
  }

  -- A value that is still listed after a removal isn't the removed one.
  pub remove_apart : (ks : List A) (x m : A) → IsStrictlySortedBy c ks → Has (remove_key (is_at (c x)) ks) m → m ≢ x
  remove_apart [] x m sorted has = absurd has
  remove_apart (y ∷ ys) x m sorted has = go (is_eq (c x y)) refl has (remove_apart ys x m (sorted_tail c y ys sorted))
    where
      go : (b : Bool) → is_eq (c x y) ≡ b → Has (cond b ys (y ∷ remove_key (is_at (c x)) ys)) m
          → (Has (remove_key (is_at (c x)) ys) m → m ≢ x) → m ≢ x
      go true tied has later same =
          never_below_itself c o y (subst (λ z. c y z ≡ Less) (same ∙ exact x y ((Equal-is (c x y)).0 tied))
          (above_head c y ys m sorted has))
      go false apart (inl here) later same = let tied : is_eq (c x y) ≡ true =
          ap is_eq (subst (λ z. c x z ≡ Equal) (sym (here ∙ same)) (tied_itself o x)) in cc
      go false apart (inr has) later same = later has same

  pub remove_keeps : (ks : List A) (x m : A) → m ≢ x → Has ks m → Has (remove_key (is_at (c x)) ks) m
  remove_keeps [] x m other has = absurd has
  remove_keeps (y ∷ ys) x m other has = go (is_eq (c x y)) refl has (remove_keeps ys x m other)
    where
      go : (b : Bool) → is_eq (c x y) ≡ b → Has (y ∷ ys) m → (Has ys m → Has (remove_key (is_at (c x)) ys) m)
          → Has (cond b ys (y ∷ remove_key (is_at (c x)) ys)) m
      go true tied (inl here) later = absurd (other (sym (exact x y ((Equal-is (c x y)).0 tied) ∙ here)))
      go true tied (inr has) later = has
      go false apart (inl here) later = inl here
      go false apart (inr has) later = inr (later has)

  pub listing_remove : (P : A → Type 0) (xs : List A) (x : A) → IsListing c P xs → IsListing c (λ m. P m × (m ≢ x))
      (remove_key (is_at (c x)) xs)
  listing_remove P xs x is = record {
    rises = remove_sorted c o xs (is_at (c x)) is.rises;
    sound = λ m has. let in_rest = Has-from (remove_key (is_at (c x)) xs) m has in (
      is.sound m (Contains-from xs m (remove_had c xs (is_at (c x)) m in_rest)),
      remove_apart xs x m is.rises
          in_rest,
    );
    complete = λ m p. Contains-from (remove_key (is_at (c x)) xs) m
        (remove_keeps xs x m p.1 (Has-from xs m (is.complete m p.0)));
  }

  -- Assumes that the old index has, under each number n, the listing of the values with the property P n.
  module _ (P Q : ℕ → A → Type 0) (old new : Lists A) (n : ℕ) (x : A) (are : AreListings c P old) where
    pub listings_insert : ChangesOnlyAt old new n (insert_key c (listed_at old n) x) → Q n x
        → ((m : ℕ) (y : A) → P m y → Q m y) → ((m : ℕ) (y : A) → Q m y → P m y ⊎ ((m ≡ n) × (y ≡ x)))
        → AreListings c Q new
    listings_insert changes new_one to from = listings_changed c P Q old new n _ changes
        (listing_as c (λ y. P n y ⊎ (y ≡ x)) (Q n) _
        (λ y p. elim p [ inl was ↦ to n y was | inr is ↦ subst (Q n) (sym is) new_one ])
        (λ y q. elim (from n y q) [ inl was ↦ inl was | inr is ↦ inr is.1 ])
        (listing_insert (P n) (listed_at old n) x (are n)))
        (λ m apart. to m)
        (λ m apart y q. elim (from m y q) [ inl was ↦ was | inr is ↦ absurd (apart is.0) ])
        are

    pub listings_remove : ChangesOnlyAt old new n (remove_key (is_at (c x)) (listed_at old n)) → (Q n x → ⊥)
        → ((m : ℕ) (y : A) → P m y → Q m y ⊎ ((m ≡ n) × (y ≡ x))) → ((m : ℕ) (y : A) → Q m y → P m y)
        → AreListings c Q new
    listings_remove changes gone to from = listings_changed c P Q old new n _ changes
        (listing_as c (λ y. P n y × (y ≢ x)) (Q n) _
        (λ y p. elim (to n y p.0) [ inl q ↦ q | inr is ↦ absurd (p.1 is.1) ])
        (λ y q. (from n y q, λ is. gone (subst (Q n) is q)))
        (listing_remove (P n) (listed_at old n) x (are n)))
        (λ m apart y p. elim (to m y p) [ inl q ↦ q | inr is ↦ absurd (apart is.0) ])
        (λ m apart. from m)
        are
