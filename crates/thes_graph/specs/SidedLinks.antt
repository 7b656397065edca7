-- A node's links, each with the side of the node on which it lies, sorted by side.
use Rattle.std.specs.Prelude.{◌≡◌, ℕ, Bool, true, false, List, [], ◌∷◌, filter, map}
use Rattle.std.specs.declared.cmp.Ordering.{Ordering}
use Rattle.std.specs.Ordering.{nat_cmp, ordering_then}
use Rattle.std.specs.BTreeSet.{insert_key}
use Rattle.std.specs.FinSet.{items}
use Rattle.std.specs.List.Sorted.{IsPartitionedBy, IsPartitionPoint}
use Rattle.thes_base.specs.declared.data.Link.{Link}
use Rattle.thes_base.specs.Links.{Links, link_cmp}
use Rattle.thes_graph.specs.declared.sided_links.SidedLink.{SidedLink}
use Rattle.thes_links.specs.Side.{side_no, side_at}
use Rattle.thes_links.specs.GraphView.{ends_at}

-- The link with the side of n on which it lies.
abbrev pub sided_link_at : ℕ → Link → SidedLink
sided_link_at n l = record { side = side_at n l; link = l }

-- The order of the links of a node: by side, then by link.
abbrev pub sided_link_cmp : SidedLink → SidedLink → Ordering
sided_link_cmp x y = ordering_then (nat_cmp (side_no x.side) (side_no y.side)) (link_cmp x.link y.link)

-- If the links of the row that pass the test come before all others, n is their number.
abbrev pub IsPartitionIndex : (SidedLink → Bool) → List SidedLink → ℕ → Type 0
IsPartitionIndex p row n = IsPartitionedBy p row → IsPartitionPoint (λ s. p s ≡ true) (λ s. p s ≡ false) row n

-- The values of the list, sorted and without duplicates.
abbrev pub insertion_sort : {A : Type 0} → (A → A → Ordering) → List A → List A
insertion_sort cmp [] = []
insertion_sort cmp (x ∷ xs) = insert_key cmp (insertion_sort cmp xs) x

-- The links of the set, sorted by kind and then by ends.
abbrev pub sorted_links : Links → List Link
sorted_links links = insertion_sort link_cmp (items links)

-- The links of the list with an end at the node, each with the side of the node on which it lies, sorted by side and
-- then by link.
abbrev pub sorted_row : ℕ → List Link → List SidedLink
sorted_row n ls = insertion_sort sided_link_cmp (map (sided_link_at n) (filter (ends_at n) ls))

-- The held links with an end at the node, each with the side of the node on which it lies, sorted by side and then by
-- link.
abbrev pub sided_links_at : Links → ℕ → List SidedLink
sided_links_at links n = sorted_row n (sorted_links links)

-- The held links with an end at the node, sorted by the side of the node on which they lie and then by link.
abbrev pub links_at : Links → ℕ → List Link
links_at links n = map (λ s. s.link) (sided_links_at links n)
