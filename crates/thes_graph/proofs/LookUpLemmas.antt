-- A binary search in the row at one of a link's ends finds the link exactly when it is held.
use Rattle.std.proofs.Common.{◌≡◌, inl, inr, ℕ, List, Result, Ok, Err, Contains, length, get_or, Less, Greater, sym}
use Rattle.std.proofs.Common.{subst, arith}
use Rattle.std.specs.declared.cmp.Ordering.{Ordering}
use Rattle.std.specs.Cmp.{tied_itself}
use Rattle.std.specs.FinSet.{contains}
use Rattle.std.specs.List.Sorted.{IsSearchInRange, IsBinarySearchResult, IsPartitionPoint}
use Rattle.std.specs.Result.{is_ok}
use Rattle.std.proofs.lemmas.Bool.{cases_lt, false_from_ne_true}
use Rattle.std.proofs.lemmas.List.{get_or_default}
use Rattle.thes_base.specs.declared.data.Link.{Link}
use Rattle.thes_base.specs.Links.{Links, Holds, HasEnd}
use Rattle.thes_lists.proofs.OrderLemmas.{never_below_itself, sorted_by_index}
use Rattle.thes_graph.specs.declared.sided_links.SidedLink.{SidedLink}
use Rattle.thes_graph.specs.SidedLinks.{sided_link_at, sided_link_cmp, sided_links_at}
use Rattle.thes_graph.proofs.LinkOrderLemmas.{derived_sided_cmp, derived_sided_cmp_is, sided_links_total}
use Rattle.thes_graph.proofs.LinkOrderLemmas.{sided_links_exact}
use Rattle.thes_graph.proofs.IndexLemmas.{sided_links_sorted, sided_links_from, sided_links_to}

module _ (links : Links) (n : ℕ) (l : Link) (ends : HasEnd n l) where
  -- A search by the defined order finds the link exactly when it is held.
  searched : (r : Result ℕ ℕ) → IsSearchInRange r (length (sided_links_at links n))
      → IsBinarySearchResult (λ y. sided_link_cmp y (sided_link_at n l)) (sided_links_at links n) r → is_ok r
      ≡ contains links l
  searched (Ok i) within is =
      let it = sided_link_at n l in
      let found = get_or (sided_links_at links n) i it in
      sym (subst (λ (s : SidedLink). Holds links s.link) (sided_links_exact found it (is it))
      (sided_links_from links n found (i, within, get_or_default (sided_links_at links n) i found it within)).0)
  searched (Err i) within is =
      sym (false_from_ne_true (contains links l) (λ held. missing (sided_links_to links n l held ends)))
    where
      parted : IsPartitionPoint (λ s. sided_link_cmp s (sided_link_at n l) ≡ Less)
          (λ s. sided_link_cmp s (sided_link_at n l) ≡ Greater) (sided_links_at links n) i
      parted = is (sorted_by_index sided_link_cmp sided_links_total (sided_links_at links n) (sided_link_at n l)
          (sided_links_sorted links n))

      missing : Contains (sided_links_at links n) (sided_link_at n l) → ⊥
      missing (k, lt, e) = elim (cases_lt k i) [
        | inl before ↦ never_below_itself sided_link_cmp sided_links_total (sided_link_at n l)
            (subst (λ (s : SidedLink). sided_link_cmp s (sided_link_at n l) ≡ Less) e
            (parted.0 k (sided_link_at n l) (omega arith) before))
        | inr from ↦
            let above = subst (λ (s : SidedLink). sided_link_cmp s (sided_link_at n l) ≡ Greater) e
            (parted.1 k (sided_link_at n l) from lt) in
            let tied = tied_itself sided_links_total (sided_link_at n l) in
            cc
      ]

-- A search by the order that `cmp` computes finds the link exactly when it is held.
pub lookup_at_node : (links : Links) (n : ℕ) (l : Link) (row : List SidedLink) (s : SidedLink) (r : Result ℕ ℕ)
    → HasEnd n l → row ≡ sided_links_at links n → s ≡ sided_link_at n l
    → IsSearchInRange r (length row) → IsBinarySearchResult (λ y. derived_sided_cmp y s) row r → is_ok r
    ≡ contains links l
lookup_at_node links n l row s r ends is same within found =
    searched links n l ends r (subst (λ (xs : List SidedLink). IsSearchInRange r (length xs)) is within)
    (let P : (SidedLink → SidedLink → Ordering) → Type 0 =
    λ cmp. IsBinarySearchResult (λ y. cmp y (sided_link_at n l)) (sided_links_at links n) r in
    subst P derived_sided_cmp_is
    (subst (λ (xs : List SidedLink). IsBinarySearchResult (λ y. derived_sided_cmp y (sided_link_at n l)) xs r) is
    (subst (λ (w : SidedLink). IsBinarySearchResult (λ y. derived_sided_cmp y w) row r) same found)))
