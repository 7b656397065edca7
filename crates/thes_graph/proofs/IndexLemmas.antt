-- The index of a graph stays correct: each node's row has the links of the set with an end there, sorted by side.
use Rattle.std.proofs.lemmas.Grind.{common_steps}
use Rattle.std.proofs.Common.{◌≡◌, ◌≢◌, ◌+◌, ◌⊎◌, inl, inr, ℕ, List, [], ◌∷◌, Bool, true, false, cond, ◌||◌, ◌==◌}
use Rattle.std.proofs.Common.{◌<◌, AllPairs, Contains, length, get_or, map, Less, refl, sym, ap, subst, ◌∙◌, arith}
use Rattle.std.specs.Prelude.{filter}
use Rattle.std.specs.List.{list_any}
use Rattle.std.specs.List.Sorted.{IsStrictlySortedBy}
use Rattle.std.specs.Ordering.{nat_cmp, is_eq}
use Rattle.std.specs.Cmp.{IsTotalOrder}
use Rattle.std.specs.declared.cmp.Ordering.{Ordering}
use Rattle.std.specs.FinSet.{FinSet, IsAntisymmetric, insert, remove, contains, items, from_list, len}
use Rattle.std.specs.FinSet.{contains-from_list, len-insert, len-empty}
use Rattle.std.specs.BTreeMap.{is_at}
use Rattle.std.specs.BTreeSet.{insert_key}
use Rattle.std.specs.Set.{remove_key}
use Rattle.std.proofs.lemmas.Bool.Decides.{Decides-eqb}
use Rattle.std.proofs.lemmas.List.{length-map, get_or-map, get_or_default}
use Rattle.std.proofs.lemmas.Map.Keys.{sorted_tail, Less-from_sorted}
use Rattle.std.proofs.lemmas.Bool.{false_from_ne_true, cases_eq}
use Rattle.thes_base.specs.declared.data.Link.{Link}
use Rattle.thes_base.specs.Links.{Links, link_cmp, Holds, normal_form, HasEnd}
use Rattle.thes_base.specs.Listing.{IsListing}
use Rattle.thes_base.proofs.LinkSetLemmas.{links_total, links_exact, link_inserted_cases}
use Rattle.thes_base.proofs.UniqueListingLemmas.{one_listing}
use Rattle.thes_base.proofs.ListMemberLemmas.{Contains-none, Contains-map, Contains-from_map, Contains-filter}
use Rattle.thes_base.proofs.ListMemberLemmas.{Contains-from_filter}
use Rattle.thes_lists.specs.declared.lists.Lists.{Lists}
use Rattle.thes_lists.specs.Lists.{listed_at, HaveSameValues, ChangesOnlyAt}
use Rattle.thes_lists.proofs.MemberLemmas.{Has-from, Contains-from}
use Rattle.thes_lists.proofs.OrderLemmas.{sorted_none, above_head, insert_cases, insert_sorted, remove_had}
use Rattle.thes_lists.proofs.OrderLemmas.{remove_sorted, never_below_itself}
use Rattle.thes_lists.proofs.OrderLemmas as order
use Rattle.thes_lists.proofs.ListingLemmas.{insert_has, remove_apart, remove_keeps, listing_as, listing_insert}
use Rattle.thes_lists.proofs.ListingLemmas.{listing_remove}
use Rattle.thes_graph.specs.declared.sided_links.SidedLink.{SidedLink}
use Rattle.thes_graph.specs.SidedLinks.{sided_link_at, sided_link_cmp, insertion_sort, sorted_links, sorted_row}
use Rattle.thes_graph.specs.SidedLinks.{sided_links_at, links_at}
use Rattle.thes_links.specs.Reading.{HaveTwoEnds, IsRow, AreAll}
use Rattle.thes_links.specs.GraphView.{GraphView, ends_at}
use Rattle.thes_graph.specs.Index.{IsIndexed}
use Rattle.thes_graph.proofs.LinkOrderLemmas.{derived_link_cmp, derived_link_cmp_is, derived_sided_cmp}
use Rattle.thes_graph.proofs.LinkOrderLemmas.{derived_sided_cmp_is, sided_links_total, sided_links_exact}
use Rattle.thes_links.proofs.SetLemmas.{same_links, held_from_list, listed_of_held, held_of_item, item_of_held}
use Rattle.thes_links.proofs.SetLemmas.{inserted_held, insert_keeps, remove_keeps as remove_keeps_link, removed_cases}

abbrev net_of : Links → FinSet nat_cmp → GraphView
net_of links outside = record { links = links; outside = outside }

abbrev IsSorted : List Link → Type 0
IsSorted = IsStrictlySortedBy link_cmp

abbrev with_key : List Link → Link → List Link
with_key = insert_key link_cmp

abbrev without_key : Link → List Link → List Link
without_key l = remove_key (is_at (link_cmp l))

module _ {A : Type 0} (c : A → A → Ordering) (o : IsTotalOrder c) (exact : IsAntisymmetric c) where
  insert_members : (ks : List A) (x m : A) → Contains (insert_key c ks x) m → (m ≡ x) ⊎ Contains ks m
  insert_members ks x m has = elim (insert_cases c ks x m (Has-from (insert_key c ks x) m has))
      [ inl same ↦ inl (sym same) | inr old ↦ inr (Contains-from ks m old) ]

  insert_it : (ks : List A) (x : A) → Contains (insert_key c ks x) x
  insert_it ks x = Contains-from (insert_key c ks x) x (insert_has c o exact ks x)

  insert_old : (ks : List A) (x m : A) → Contains ks m → Contains (insert_key c ks x) m
  insert_old ks x m has = Contains-from (insert_key c ks x) m (order.insert_keeps c ks x m (Has-from ks m has))

  in_order_sorted : (xs : List A) → IsStrictlySortedBy c (insertion_sort c xs)
  in_order_sorted [] = sorted_none c
  in_order_sorted (x ∷ xs) = insert_sorted c o (insertion_sort c xs) x (in_order_sorted xs)

  in_order_from : (xs : List A) (m : A) → Contains (insertion_sort c xs) m → Contains xs m
  in_order_from [] m has = has
  in_order_from (x ∷ xs) m has = Contains-from (x ∷ xs) m (elim (insert_members (insertion_sort c xs) x m has) [
    | inl same ↦ inl (sym same)
    | inr old ↦ inr (Has-from xs m (in_order_from xs m old))
  ])

  in_order_to : (xs : List A) (m : A) → Contains xs m → Contains (insertion_sort c xs) m
  in_order_to [] m has = has
  in_order_to (x ∷ xs) m has = elim (Has-from (x ∷ xs) m has) [
    | inl same ↦ subst (Contains (insert_key c (insertion_sort c xs) x)) same (insert_it (insertion_sort c xs) x)
    | inr later ↦ insert_old (insertion_sort c xs) x m (in_order_to xs m (Contains-from xs m later))
  ]

with_cases : (ks : List Link) (l m : Link) → Contains (with_key ks l) m → (m ≡ l) ⊎ Contains ks m
with_cases = insert_members link_cmp links_total links_exact

with_it : (ks : List Link) (l : Link) → Contains (with_key ks l) l
with_it = insert_it link_cmp links_total links_exact

with_old : (ks : List Link) (l m : Link) → Contains ks m → Contains (with_key ks l) m
with_old = insert_old link_cmp links_total links_exact

without_cases : (ks : List Link) (l m : Link) → IsSorted ks → Contains (without_key l ks) m → Contains ks m × (m ≢ l)
without_cases ks l m sorted has =
    let left = Has-from (without_key l ks) m has in (
      Contains-from ks m (remove_had link_cmp ks (is_at (link_cmp l)) m left),
      remove_apart link_cmp links_total
          links_exact ks l m sorted left,
    )

without_old : (ks : List Link) (l m : Link) → Contains ks m → m ≢ l → Contains (without_key l ks) m
without_old ks l m has other = Contains-from (without_key l ks) m (remove_keeps link_cmp links_total links_exact ks l
    m other (Has-from ks m has))

pub held_of_listed : (links : Links) (m : Link) → Contains (sorted_links links) m → Holds links m
held_of_listed links m has = held_of_item links m (in_order_from link_cmp links_total links_exact (items links) m has)

pub listed_held : (links : Links) (m : Link) → Holds links m → Contains (sorted_links links) m
listed_held links m held = in_order_to link_cmp links_total links_exact (items links) m (item_of_held links m held)

pub listed_sorted : (links : Links) → IsSorted (sorted_links links)
listed_sorted links = in_order_sorted link_cmp links_total links_exact (items links)

-- A sorted list of links is the sorted list of its set.
pub listed_is : (ks : List Link) → IsSorted ks → sorted_links (from_list ks) ≡ ks
listed_is ks sorted =
    one_listing links_total {P = Contains ks} (sorted_links (from_list ks)) ks
    (record {
      rises = listed_sorted (from_list ks);
      sound = λ m has. listed_of_held ks m (held_of_listed (from_list ks) m has);
      complete = λ m has. listed_held (from_list ks) m (held_from_list ks m has);
    })
    (record { rises = sorted; sound = λ m has. has; complete = λ m has. has })

pub ends_of_test : (n : ℕ) (l : Link) → ends_at n l ≡ true → HasEnd n l
ends_of_test n l e = grind (arith, common_steps, Decides-eqb)

pub test_of_ends : (n : ℕ) (l : Link) → HasEnd n l → ends_at n l ≡ true
test_of_ends n l (inl at) = ap (λ b. b || (l.b == n)) ((Decides-eqb l.a n).1 at)
test_of_ends n l (inr at) = go (l.a == n)
  where
    go : (b : Bool) → (b || (l.b == n)) ≡ true
    go true = refl
    go false = (Decides-eqb l.b n).1 at

-- The sided link is a link of the list with an end at the node, and the side of the node on which it lies.
abbrev CoversSide : List Link → ℕ → SidedLink → Type 0
CoversSide ks n s = Contains ks s.link × HasEnd n s.link × (sided_link_at n s.link ≡ s)

-- The sorted row of a node lists exactly the links with an end at it.
arranged_listing : (n : ℕ) (ks : List Link) → IsListing sided_link_cmp (CoversSide ks n) (sorted_row n ks)
arranged_listing n ks = record {
  rises = in_order_sorted sided_link_cmp sided_links_total sided_links_exact
      (map (sided_link_at n) (filter (ends_at n) ks));
  sound = λ s has.
      let from = Contains-from_map (sided_link_at n) (filter (ends_at n) ks) s
      (in_order_from sided_link_cmp sided_links_total sided_links_exact
      (map (sided_link_at n) (filter (ends_at n) ks)) s has) in
      let both = Contains-from_filter (ends_at n) ks from.0 from.1 in
      subst (CoversSide ks n) from.2 (both.0, ends_of_test n from.0 both.1, refl);
  complete = λ s (has, ends, same).
      subst (Contains (sorted_row n ks)) same
      (in_order_to sided_link_cmp sided_links_total sided_links_exact (map (sided_link_at n) (filter (ends_at n) ks))
      (sided_link_at n s.link)
      (Contains-map (sided_link_at n) (filter (ends_at n) ks) s.link
      (Contains-filter (ends_at n) ks s.link has (test_of_ends n s.link ends))));
}

-- Two sorted rows with the same members are equal.
same_arranged : (n : ℕ) (ks : List Link) (P : SidedLink → Type 0) (ss : List SidedLink)
    → ((s : SidedLink) → P s → CoversSide ks n s) → ((s : SidedLink) → CoversSide ks n s → P s)
    → IsListing sided_link_cmp P ss
    → sorted_row n ks ≡ ss
same_arranged n ks P ss to from is =
    one_listing sided_links_total (sorted_row n ks) ss (arranged_listing n ks)
    (listing_as sided_link_cmp P (CoversSide ks n) ss to from is)

module _ (n : ℕ) (ks : List Link) (l : Link) where
  arranged_with : HasEnd n l → sorted_row n (with_key ks l) ≡ insert_key sided_link_cmp (sorted_row n ks)
      (sided_link_at n l)
  arranged_with at =
      same_arranged n (with_key ks l) (λ s. CoversSide ks n s ⊎ (s ≡ sided_link_at n l))
      (insert_key sided_link_cmp (sorted_row n ks) (sided_link_at n l))
      (λ s p. elim p [
        | inl (has, ends, same) ↦ (with_old ks l s.link has, ends, same)
        | inr same ↦ subst (CoversSide (with_key ks l) n) (sym same) (with_it ks l, at, refl)
      ])
      (λ s (has, ends, same). elim (with_cases ks l s.link has)
      [ inl here ↦ inr (sym same ∙ ap (sided_link_at n) here) | inr old ↦ inl (old, ends, same) ])
      (listing_insert sided_link_cmp sided_links_total sided_links_exact (CoversSide ks n) (sorted_row n ks)
      (sided_link_at n l) (arranged_listing n ks))

  arranged_with_other : (HasEnd n l → ⊥) → sorted_row n (with_key ks l) ≡ sorted_row n ks
  arranged_with_other off =
      same_arranged n (with_key ks l) (CoversSide ks n) (sorted_row n ks)
      (λ s (has, ends, same). (with_old ks l s.link has, ends, same))
      (λ s (has, ends, same). (
        elim (with_cases ks l s.link has) [ inl here ↦ absurd (off (subst (HasEnd n) here ends)) | inr old ↦ old ],
        ends,
        same,
      ))
      (arranged_listing n ks)

  arranged_without : IsSorted ks → sorted_row n (without_key l ks)
      ≡ remove_key (is_at (sided_link_cmp (sided_link_at n l))) (sorted_row n ks)
  arranged_without sorted =
      same_arranged n (without_key l ks) (λ s. CoversSide ks n s × (s ≢ sided_link_at n l))
      (remove_key (is_at (sided_link_cmp (sided_link_at n l))) (sorted_row n ks))
      (λ s ((has, ends, same), apart). (
        without_old ks l s.link has (λ e. apart (sym same ∙ ap (sided_link_at n) e)),
        ends,
        same,
      ))
      (λ s (has, ends, same). let old = without_cases ks l s.link sorted has in
      ((old.0, ends, same), λ e. old.1 (ap (λ (w : SidedLink). w.link) e)))
      (listing_remove sided_link_cmp sided_links_total sided_links_exact (CoversSide ks n) (sorted_row n ks)
      (sided_link_at n l) (arranged_listing n ks))

  arranged_without_other : IsSorted ks → (HasEnd n l → ⊥) → sorted_row n (without_key l ks) ≡ sorted_row n ks
  arranged_without_other sorted off =
      same_arranged n (without_key l ks) (CoversSide ks n) (sorted_row n ks)
      (λ s (has, ends, same). (without_old ks l s.link has (λ e. off (subst (HasEnd n) e ends)), ends, same))
      (λ s (has, ends, same). ((without_cases ks l s.link sorted has).0, ends, same))
      (arranged_listing n ks)

pub sided_links_sorted : (links : Links) (n : ℕ) → IsStrictlySortedBy sided_link_cmp (sided_links_at links n)
sided_links_sorted links n = (arranged_listing n (sorted_links links)).rises

pub sided_links_from : (links : Links) (n : ℕ) (s : SidedLink) → Contains (sided_links_at links n) s
    → Holds links s.link × HasEnd n s.link × (sided_link_at n s.link ≡ s)
sided_links_from links n s has = let is = (arranged_listing n (sorted_links links)).sound s has in
    (held_of_listed links s.link is.0, is.1, is.2)

pub sided_links_to : (links : Links) (n : ℕ) (l : Link) → Holds links l → HasEnd n l
    → Contains (sided_links_at links n) (sided_link_at n l)
sided_links_to links n l held ends = (arranged_listing n (sorted_links links)).complete (sided_link_at n l)
    (listed_held links l held, ends, refl)

abbrev link_of : SidedLink → Link
link_of s = s.link

pub links_at_from : (links : Links) (n : ℕ) (l : Link) → Contains (links_at links n) l → Holds links l × HasEnd n l
links_at_from links n l has =
    let from = Contains-from_map link_of (sided_links_at links n) l has in
    let is = sided_links_from links n from.0 from.1 in
    subst (λ (w : Link). Holds links w × HasEnd n w) from.2 (is.0, is.1)

pub links_at_to : (links : Links) (n : ℕ) (l : Link) → Holds links l → HasEnd n l → Contains (links_at links n) l
links_at_to links n l held ends = Contains-map link_of (sided_links_at links n) (sided_link_at n l)
    (sided_links_to links n l held ends)

pub sided_links_once : (links : Links) (n : ℕ) → AllPairs (λ x y. x ≢ y) (sided_links_at links n)
sided_links_once links n i j d lt within same =
    never_below_itself sided_link_cmp sided_links_total (get_or (sided_links_at links n) i d)
    (subst (λ (s : SidedLink). sided_link_cmp (get_or (sided_links_at links n) i d) s ≡ Less) (sym same)
    (Less-from_sorted sided_link_cmp (sided_links_at links n) i j d (sided_links_sorted links n) lt within))

-- The links at different indexes of a row differ.
links_once : (links : Links) (n : ℕ) (i j : ℕ) (d : Link) → i < j → j < length (links_at links n)
    → get_or (links_at links n) i d ≢ get_or (links_at links n) j d
links_once links n i j d lt within same =
    never_below_itself sided_link_cmp sided_links_total (get_or (sided_links_at links n) i (sided_link_at n d))
    (subst (λ (s : SidedLink). sided_link_cmp (get_or (sided_links_at links n) i (sided_link_at n d)) s ≡ Less)
    (sym one)
    (Less-from_sorted sided_link_cmp (sided_links_at links n) i j (sided_link_at n d) (sided_links_sorted links n) lt
    inside))
  where
    inside : j < length (sided_links_at links n)
    inside = let P : ℕ → Type 0 = λ k. j < k in subst P (length-map (sided_links_at links n) link_of) within

    at : (k : ℕ) → k < length (sided_links_at links n) → sided_link_at n (get_or (links_at links n) k d)
        ≡ get_or (sided_links_at links n) k (sided_link_at n d)
    at k lt =
        ap (sided_link_at n) (get_or-map link_of (sided_links_at links n) k (sided_link_at n d) d lt)
        ∙ (sided_links_from links n (get_or (sided_links_at links n) k (sided_link_at n d))
        (k, lt, get_or_default (sided_links_at links n) k _ (sided_link_at n d) lt)).2

    one : get_or (sided_links_at links n) i (sided_link_at n d) ≡ get_or (sided_links_at links n) j (sided_link_at n d)
    one = let last : j < length (sided_links_at links n) = inside in sym (at i (omega arith))
        ∙ ap (sided_link_at n) same ∙ at j last

pub IsRow-links_at : (links : Links) (n : ℕ) → IsRow links n (links_at links n)
IsRow-links_at links n = record {
  sound = links_at_from links n;
  complete = links_at_to links n;
  once =
      links_once links n;
}

-- The row of a sorted list is the row of its set.
pub row_is : (ks : List Link) (n : ℕ) → IsSorted ks → sorted_row n ks ≡ sided_links_at (from_list ks) n
row_is ks n sorted = ap (sorted_row n) (sym (listed_is ks sorted))

-- An insertion or removal by the order that `cmp` computes is the same as one by the defined order.
pub with_computed : (ks : List Link) (l : Link) (keys : List Link) → keys ≡ insert_key derived_link_cmp ks l → keys
    ≡ with_key ks l
with_computed ks l keys is = let P : (Link → Link → Ordering) → Type 0 = λ cmp. keys ≡ insert_key cmp ks l in
    subst P derived_link_cmp_is is

pub without_computed : (ks : List Link) (l : Link) (keys : List Link) → keys ≡ remove_key (is_at (derived_link_cmp l))
    ks → keys ≡ without_key l ks
without_computed ks l keys is = let P : (Link → Link → Ordering) → Type 0 = λ cmp. keys ≡ remove_key (is_at (cmp l))
    ks in subst P derived_link_cmp_is is

-- A look-up among the keys finds the link exactly when the set has it.
pub lookup_in_keys : (ks : List Link) (l : Link) (b : Bool) → b ≡ list_any (λ k. is_eq (derived_link_cmp l k)) ks → b
    ≡ contains (from_list {R = link_cmp} ks) l
lookup_in_keys ks l b e =
    (let P : (Link → Link → Ordering) → Type 0 = λ cmp. b ≡ list_any (λ k. is_eq (cmp l k)) ks in
    subst P derived_link_cmp_is e)
    ∙ sym (contains-from_list links_total ks l)

pub from_list_with : (ks : List Link) (l : Link) → from_list (with_key ks l) ≡ insert (from_list {R = link_cmp} ks) l
from_list_with ks l = same_links (from_list (with_key ks l)) (insert (from_list ks) l) to from
  where
    to : (m : Link) → Holds (from_list (with_key ks l)) m → Holds (insert (from_list ks) l) m
    to m held = elim (with_cases ks l m (listed_of_held (with_key ks l) m held)) [
      | inl same ↦ subst (Holds (insert (from_list ks) l)) (sym same) (inserted_held (from_list ks) l)
      | inr old ↦ insert_keeps (from_list ks) l m (held_from_list ks m old)
    ]

    from : (m : Link) → Holds (insert (from_list ks) l) m → Holds (from_list (with_key ks l)) m
    from m held = held_from_list (with_key ks l) m (elim (link_inserted_cases (from_list ks) l m held) [
      | inl same ↦ subst (λ (w : Link). Contains (with_key ks l) w) (sym same) (with_it ks l)
      | inr old ↦ with_old ks l m (listed_of_held ks m old)
    ])

pub from_list_without : (ks : List Link) (l : Link) → IsSorted ks → from_list (without_key l ks)
    ≡ remove (from_list {R = link_cmp} ks) l
from_list_without ks l sorted = same_links (from_list (without_key l ks)) (remove (from_list ks) l) to from
  where
    to : (m : Link) → Holds (from_list (without_key l ks)) m → Holds (remove (from_list ks) l) m
    to m held = let c = without_cases ks l m sorted (listed_of_held (without_key l ks) m held) in
        remove_keeps_link (from_list ks) l m c.1 (held_from_list ks m c.0)

    from : (m : Link) → Holds (remove (from_list ks) l) m → Holds (from_list (without_key l ks)) m
    from m held = let c = removed_cases (from_list ks) l m held in
        held_from_list (without_key l ks) m (without_old ks l m (listed_of_held ks m c.1) c.0)

module _ (op : List SidedLink → SidedLink → List SidedLink) (ks later : List Link) (old one both : Lists SidedLink)
    (l : Link) (two : l.a ≢ l.b)
    (first : ChangesOnlyAt old one l.a (op (listed_at old l.a) (sided_link_at l.a l)))
    (second : ChangesOnlyAt one both l.b (op (listed_at one l.b) (sided_link_at l.b l)))
    (was : (n : ℕ) → listed_at old n ≡ sorted_row n ks) (here : (n : ℕ) → HasEnd n l → sorted_row n later
    ≡ op (sorted_row n ks) (sided_link_at n l))
    (others : (n : ℕ) → (HasEnd n l → ⊥) → sorted_row n later ≡ sorted_row n ks) where
  -- The rows of all nodes are correct after the same change is made to the list and to the rows at both ends of the
  -- link.
  rows_changed : (n : ℕ) → listed_at both n ≡ sorted_row n later
  rows_changed n = grind (arith, common_steps, cases_eq)

-- A set has as many links as its list of keys.
pub len_is : (ks : List Link) → IsSorted ks → len (from_list {R = link_cmp} ks) ≡ length ks
len_is [] sorted = len-empty link_cmp
len_is (k ∷ ks) sorted =
    len-insert links_total (from_list ks) k
    ∙ ap (λ b. cond b (len (from_list {R = link_cmp} ks)) (len (from_list {R = link_cmp} ks) + 1))
    (false_from_ne_true (contains (from_list {R = link_cmp} ks) k) absent)
    ∙ one_more (len_is ks (sorted_tail link_cmp k ks sorted))
  where
    absent : Holds (from_list ks) k → ⊥
    absent held = never_below_itself link_cmp links_total k
        (above_head link_cmp k ks k sorted (Has-from ks k (listed_of_held ks k held)))

    one_more : len (from_list {R = link_cmp} ks) ≡ length ks → len (from_list {R = link_cmp} ks) + 1 ≡ length (k ∷ ks)
    one_more e = omega arith

-- An index without links is correct.
pub IsIndexed-none : (ks : List Link) (rows : Lists SidedLink) (outside : List ℕ) → ks ≡ []
    → ((n : ℕ) → listed_at rows n ≡ []) → IsIndexed ks rows outside
IsIndexed-none ks rows outside none no_rows = grind (arith, common_steps, Contains-none, listed_of_held, sorted_none)

-- The index stays correct if the rows keep their values.
pub IsIndexed-same : (ks : List Link) (outside : List ℕ) (old new : Lists SidedLink) → HaveSameValues old new
    → IsIndexed ks old outside → IsIndexed ks new outside
IsIndexed-same ks outside old new same index = grind (arith, common_steps)

module _ (ks : List Link) (outside : List ℕ) (old : Lists SidedLink) (index : IsIndexed ks old outside) where
  pub row_sorted : (n : ℕ) → IsStrictlySortedBy derived_sided_cmp (listed_at old n)
  row_sorted n = grind (arith, common_steps, arranged_listing, derived_sided_cmp_is)

  -- A change at one end of a link leaves the row at its other end sorted.
  pub other_sorted : (new : Lists SidedLink) (a b : ℕ) (row : List SidedLink) → a ≢ b → ChangesOnlyAt old new a row
      → IsStrictlySortedBy derived_sided_cmp (listed_at new b)
  other_sorted new a b row two changes = subst (IsStrictlySortedBy derived_sided_cmp)
      (sym (changes.others b (λ e. two (sym e)))) (row_sorted b)

  -- Assumes that a link is inserted or removed at both its ends.
  module _ (one both : Lists SidedLink) (l : Link) (s t : SidedLink) (at_a : s ≡ sided_link_at l.a l)
      (at_b : t ≡ sided_link_at l.b l) (two : l.a ≢ l.b) (keys : List Link) where
    module _ (op : (SidedLink → SidedLink → Ordering) → List SidedLink → SidedLink → List SidedLink)
        (first : ChangesOnlyAt old one l.a (op derived_sided_cmp (listed_at old l.a) s))
        (second : ChangesOnlyAt one both l.b (op derived_sided_cmp (listed_at one l.b) t)) where
      first_as : ChangesOnlyAt old one l.a (op sided_link_cmp (listed_at old l.a) (sided_link_at l.a l))
      first_as = grind (arith, common_steps, derived_sided_cmp, derived_sided_cmp_is)

      second_as : ChangesOnlyAt one both l.b (op sided_link_cmp (listed_at one l.b) (sided_link_at l.b l))
      second_as = grind (arith, common_steps, derived_sided_cmp, derived_sided_cmp_is)

    -- The index stays correct if a new link is inserted at both its ends.
    pub IsIndexed-added : normal_form (contains (from_list {R = nat_cmp} outside)) l ≡ l → keys
        ≡ insert_key derived_link_cmp ks l
        → ChangesOnlyAt old one l.a (insert_key derived_sided_cmp (listed_at old l.a) s) → ChangesOnlyAt one both l.b
        (insert_key derived_sided_cmp (listed_at one l.b) t) → IsIndexed keys both outside
    IsIndexed-added is_normal is first second =
        subst (λ (xs : List Link). IsIndexed xs both outside) (sym (with_computed ks l keys is)) (record {
          ordered = insert_sorted link_cmp links_total ks l index.ordered;
          two_ends = λ m held. elim (with_cases ks l m (listed_of_held (with_key ks l) m held)) [
            | inl same ↦ subst (λ (w : Link). w.a ≢ w.b) (sym same) two
            | inr was ↦ index.two_ends m (held_from_list ks m was)
          ];
          normal = λ m held. elim (with_cases ks l m (listed_of_held (with_key ks l) m held)) [
            | inl same ↦ subst (λ (w : Link). normal_form (contains (from_list {R = nat_cmp} outside)) w ≡ w)
                (sym same) is_normal
            | inr was ↦ index.normal m (held_from_list ks m was)
          ];
          rows = rows_changed (insert_key sided_link_cmp) ks (with_key ks l) old one both l two
              (first_as insert_key first second) (second_as insert_key first second) index.rows
              (λ n. arranged_with n ks l) (λ n. arranged_with_other n ks l);
        })

    abbrev removed : (SidedLink → SidedLink → Ordering) → List SidedLink → SidedLink → List SidedLink
    removed cmp row w = remove_key (is_at (cmp w)) row

    pub IsIndexed-taken : keys ≡ remove_key (is_at (derived_link_cmp l)) ks
        → ChangesOnlyAt old one l.a (remove_key (is_at (derived_sided_cmp s)) (listed_at old l.a))
        → ChangesOnlyAt one both l.b (remove_key (is_at (derived_sided_cmp t)) (listed_at one l.b))
        → IsIndexed keys both outside
    IsIndexed-taken is first second =
        subst (λ (xs : List Link). IsIndexed xs both outside) (sym (without_computed ks l keys is)) (record {
          ordered = remove_sorted link_cmp links_total ks (is_at (link_cmp l)) index.ordered;
          two_ends =
              λ m held. index.two_ends m
              (held_from_list ks m (without_cases ks l m index.ordered (listed_of_held (without_key l ks) m held)).0);
          normal =
              λ m held. index.normal m
              (held_from_list ks m (without_cases ks l m index.ordered (listed_of_held (without_key l ks) m held)).0);
          rows = rows_changed (removed sided_link_cmp) ks (without_key l ks) old one both l two
              (first_as removed first second) (second_as removed first second) index.rows
              (λ n at. arranged_without n ks l index.ordered) (λ n. arranged_without_other n ks l index.ordered);
        })

-- The keys are exactly the links of their set.
pub AreAll-keys : (ks : List Link) → HaveTwoEnds (Holds (from_list {R = link_cmp} ks))
    → AreAll (from_list {R = link_cmp} ks) ks
AreAll-keys ks two = record { two_ends = two; sound = held_from_list ks; complete = listed_of_held ks }

-- The graph after the insertion of a key has the link, whether or not the key was there.
pub GraphView-added : (ks keys : List Link) (outside : FinSet nat_cmp) (net : GraphView) (l m : Link)
    → net_of (from_list ks) outside ≡ net → keys ≡ insert_key derived_link_cmp ks l → l ≡ m
    → net_of (from_list keys) outside ≡ net_of (insert net.links m) net.outside
GraphView-added ks keys outside net l m is put same =
    ap (λ (links : Links). net_of links outside) (ap from_list (with_computed ks l keys put) ∙ from_list_with ks l
    ∙ ap (insert (from_list ks)) same)
    ∙ ap (λ (seen : GraphView). net_of (insert seen.links m) seen.outside) is
