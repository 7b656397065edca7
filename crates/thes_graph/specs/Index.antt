-- The index of a graph: for each node the links with an end there, and the number of all links.
use Rattle.std.specs.Prelude.{◌≡◌, ◌≢◌, ℕ, List, map}
use Rattle.std.specs.List.Sorted.{IsStrictlySortedBy}
use Rattle.std.specs.Ordering.{nat_cmp}
use Rattle.std.specs.FinSet.{contains, from_list, len}
use Rattle.thes_base.specs.declared.data.Link.{Link}
use Rattle.thes_base.specs.Links.{Links, link_cmp, normal_form, Holds}
use Rattle.thes_lists.specs.declared.lists.Lists.{Lists}
use Rattle.thes_lists.specs.Lists.{all_listed, listed_at}
use Rattle.thes_graph.specs.declared.sided_links.SidedLink.{SidedLink}
use Rattle.thes_graph.specs.SidedLinks.{sorted_links, sorted_row}

-- The index is correct: the links are sorted and in normal form, each has two different ends, and each node has the
-- links with an end there, sorted by side.
pub record IsIndexed (links : List Link) (kept : Lists SidedLink) (outside : List ℕ) : Type 0 where
  pub ordered : IsStrictlySortedBy link_cmp links
  pub two_ends : (l : Link) → Holds (from_list links) l → l.a ≢ l.b
  pub normal : (l : Link) → Holds (from_list links) l → normal_form (contains (from_list {R = nat_cmp} outside)) l ≡ l
  pub rows : (n : ℕ) → listed_at kept n ≡ sorted_row n links

-- The links in the rows of all nodes.
abbrev pub links_in : Lists SidedLink → Links
links_in kept = from_list (map (λ s. s.link) (all_listed kept))

-- The rows are a correct index of the links in them, and `total` is the number of these links.
pub record IsCountedIndex (kept : Lists SidedLink) (outside : List ℕ) (total : ℕ) : Type 0 where
  pub index : IsIndexed (sorted_links (links_in kept)) kept outside
  pub total_is : total ≡ len (links_in kept)
