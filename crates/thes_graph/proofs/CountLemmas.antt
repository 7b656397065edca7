-- The links in the rows of an index are those of the list that it indexes, and their number is kept with them.
use Rattle.std.proofs.Common.{◌≡◌, ◌+◌, ◌-◌, inl, inr, ℕ, List, Bool, true, false, cond, Contains, map, refl}
use Rattle.std.proofs.Common.{sym, ap, subst, ◌∙◌}
use Rattle.std.specs.List.Sorted.{IsStrictlySortedBy}
use Rattle.std.specs.Ordering.{nat_cmp}
use Rattle.std.specs.FinSet.{FinSet, insert, contains, from_list, len, len-insert, len-remove}
use Rattle.std.specs.BTreeMap.{is_at}
use Rattle.std.specs.BTreeSet.{insert_key}
use Rattle.std.specs.Set.{remove_key}
use Rattle.thes_base.specs.declared.data.Link.{Link}
use Rattle.thes_base.specs.Links.{Links, link_cmp, Holds}
use Rattle.thes_base.proofs.LinkSetLemmas.{links_total, link_inserted_cases}
use Rattle.thes_base.proofs.ListMemberLemmas.{Contains-map, Contains-from_map}
use Rattle.thes_lists.specs.declared.lists.Lists.{Lists}
use Rattle.thes_lists.specs.Lists.{listed_at, all_listed, HaveSameValues}
use Rattle.thes_lists.proofs.AllListedLemmas.{listed_under, all_have}
use Rattle.thes_graph.specs.declared.sided_links.SidedLink.{SidedLink}
use Rattle.thes_graph.specs.SidedLinks.{sided_link_at, sided_links_at, sorted_links}
use Rattle.thes_graph.specs.Index.{IsIndexed, IsCountedIndex, links_in}
use Rattle.thes_links.specs.GraphView.{GraphView}
use Rattle.thes_links.specs.Reading.{HaveTwoEnds}
use Rattle.thes_graph.specs.MergeAdditions.{AreNormal}
use Rattle.thes_links.proofs.SetLemmas.{same_links, held_from_list, listed_of_held, insert_keeps}
use Rattle.thes_graph.proofs.LinkOrderLemmas.{derived_link_cmp}
use Rattle.thes_graph.proofs.IndexLemmas.{IsIndexed-same, held_of_listed, listed_held, listed_is, row_is}
use Rattle.thes_graph.proofs.IndexLemmas.{sided_links_from, sided_links_to, from_list_with, from_list_without}
use Rattle.thes_graph.proofs.IndexLemmas.{with_computed, without_computed}

-- The links in the rows, in ascending order.
abbrev pub keys_of : Lists SidedLink → List Link
keys_of kept = sorted_links (links_in kept)

-- A graph of these links and outside concepts.
abbrev pub view_of : Links → FinSet nat_cmp → GraphView
view_of links outside = record { links = links; outside = outside }

-- A set of links is the set of the links in its sorted list.
pub from_sorted : (links : Links) → from_list (sorted_links links) ≡ links
from_sorted links =
    same_links (from_list (sorted_links links)) links
    (λ m held. held_of_listed links m (listed_of_held (sorted_links links) m held))
    (λ m held. held_from_list (sorted_links links) m (listed_held links m held))

-- A graph holds exactly the links of the sorted list of the links in its rows.
pub view_by_keys : (kept : Lists SidedLink) (outside : FinSet nat_cmp) (net : GraphView)
    → view_of (links_in kept) outside ≡ net → view_of (from_list (keys_of kept)) outside ≡ net
view_by_keys kept outside net is = ap (λ (links : Links). view_of links outside) (from_sorted (links_in kept)) ∙ is

abbrev link_in : SidedLink → Link
link_in s = s.link

module _ (ks : List Link) (kept : Lists SidedLink) (outside : List ℕ) (index : IsIndexed ks kept outside) where
  row_at_node : (n : ℕ) → listed_at kept n ≡ sided_links_at (from_list ks) n
  row_at_node n = index.rows n ∙ row_is ks n index.ordered

  links_in_to : (m : Link) → Holds (links_in kept) m → Holds (from_list ks) m
  links_in_to m held =
      let s = Contains-from_map link_in (all_listed kept) m (listed_of_held (map link_in (all_listed kept)) m held) in
      let under = listed_under kept s.0 s.1 in
      subst (Holds (from_list ks)) s.2
      (sided_links_from (from_list ks) under.0 s.0
      (subst (λ (row : List SidedLink). Contains row s.0) (row_at_node under.0) under.1)).0

  links_in_from : (m : Link) → Holds (from_list ks) m → Holds (links_in kept) m
  links_in_from m held =
      held_from_list (map link_in (all_listed kept)) m
      (Contains-map link_in (all_listed kept) (sided_link_at m.a m)
      (all_have kept m.a (sided_link_at m.a m)
      (subst (λ (row : List SidedLink). Contains row (sided_link_at m.a m)) (sym (row_at_node m.a))
      (sided_links_to (from_list ks) m.a m held (inl refl)))))

  -- The links in the rows are those of the list.
  pub links_in_is : links_in kept ≡ from_list ks
  links_in_is = same_links (links_in kept) (from_list ks) links_in_to links_in_from

  -- A correct index, with the number of its links, is a counted index.
  pub counted_index : (total : ℕ) → total ≡ len (from_list {R = link_cmp} ks) → IsCountedIndex kept outside total
  counted_index total is = record {
    index = subst (λ (xs : List Link). IsIndexed xs kept outside) (sym (ap sorted_links links_in_is
        ∙ listed_is ks index.ordered)) index;
    total_is = is ∙ ap (λ (links : Links). len links) (sym links_in_is);
  }

-- Assumes a graph with these rows: what the index states of its links holds of the links of the graph.
module _ (kept : Lists SidedLink) (outside : List ℕ) (total : ℕ) (index : IsCountedIndex kept outside total)
    (net : GraphView) (is : view_of (links_in kept) (from_list outside) ≡ net) where
  pub two_ends_seen : HaveTwoEnds (Holds net.links)
  two_ends_seen = subst (λ (g : GraphView). HaveTwoEnds (Holds g.links)) (view_by_keys kept (from_list outside) net is)
      index.index.two_ends

  pub normal_seen : AreNormal net
  normal_seen = subst AreNormal (view_by_keys kept (from_list outside) net is) index.index.normal

  pub row_seen : (n : ℕ) → listed_at kept n ≡ sided_links_at net.links n
  row_seen n = row_at_node (keys_of kept) kept outside index.index n
      ∙ ap (λ (g : GraphView). sided_links_at g.links n) (view_by_keys kept (from_list outside) net is)

  pub test_seen : (l : Link) (b : Bool) → b ≡ contains net.links l
      → contains (from_list {R = link_cmp} (keys_of kept)) l ≡ b
  test_seen l b test = ap (λ (g : GraphView). contains g.links l) (view_by_keys kept (from_list outside) net is)
      ∙ sym test

-- The number of links in the index is that of the sorted list of the links in its rows.
pub total_by_keys : (kept : Lists SidedLink) (outside : List ℕ) (total : ℕ) → IsCountedIndex kept outside total → total
    ≡ len (from_list {R = link_cmp} (keys_of kept))
total_by_keys kept outside total index = index.total_is
    ∙ ap (λ (links : Links). len links) (sym (from_sorted (links_in kept)))

-- The index, with its number of links, stays correct if the rows keep their values.
module _ (outside : List ℕ) (old new : Lists SidedLink) (total : ℕ) (same : HaveSameValues old new)
    (index : IsCountedIndex old outside total) where
  pub indexed_same : IsIndexed (keys_of old) new outside
  indexed_same = IsIndexed-same (keys_of old) outside old new same index.index

  pub counted_index_same : IsCountedIndex new outside total
  counted_index_same = counted_index (keys_of old) new outside indexed_same total
      (total_by_keys old outside total index)

  pub links_in_same : links_in new ≡ links_in old
  links_in_same = links_in_is (keys_of old) new outside indexed_same ∙ from_sorted (links_in old)

-- Inserting a link that isn't held raises the number of links by one.
pub total_with : (ks : List Link) (l : Link) (total : ℕ) → total ≡ len (from_list {R = link_cmp} ks)
    → contains (from_list {R = link_cmp} ks) l ≡ false
    → total + 1 ≡ len (from_list {R = link_cmp} (insert_key derived_link_cmp ks l))
total_with ks l total is absent =
    ap (λ n. n + 1) is
    ∙ sym (ap (λ (links : Links). len links) (ap from_list (with_computed ks l (insert_key derived_link_cmp ks l) refl)
    ∙ from_list_with ks l)
    ∙ len-insert links_total (from_list ks) l
    ∙ ap (λ b. cond b (len (from_list {R = link_cmp} ks)) (len (from_list {R = link_cmp} ks) + 1)) absent)

-- Removing a link that is held lowers the number of links by one.
pub total_without : (ks : List Link) (l : Link) (total : ℕ) → IsStrictlySortedBy link_cmp ks → total
    ≡ len (from_list {R = link_cmp} ks)
    → contains (from_list {R = link_cmp} ks) l ≡ true
    → total - 1 ≡ len (from_list {R = link_cmp} (remove_key (is_at (derived_link_cmp l)) ks))
total_without ks l total sorted is held =
    ap (λ n. n - 1) is
    ∙ sym (ap (λ (links : Links). len links)
    (ap from_list (without_computed ks l (remove_key (is_at (derived_link_cmp l)) ks) refl)
    ∙ from_list_without ks l sorted)
    ∙ len-remove links_total (from_list ks) l
    ∙ ap (λ b. cond b (len (from_list {R = link_cmp} ks) - 1) (len (from_list {R = link_cmp} ks))) held)

-- The insertion of a link that is held changes nothing.
pub insert_held : (links : Links) (l : Link) → Holds links l → insert links l ≡ links
insert_held links l held =
    same_links (insert links l) links
    (λ m has. elim (link_inserted_cases links l m has)
    [ inl same ↦ subst (Holds links) (sym same) held | inr was ↦ was ])
    (λ m has. insert_keeps links l m has)
