-- Taking back the removal of a node's links, or a merge, restores the links.
use Rattle.std.proofs.Common.{◌≡◌, ◌⊎◌, inl, inr, ℕ, List, Contains, subst, refl, true, false}
use Rattle.std.specs.FinSet.{contains}
use Rattle.std.proofs.lemmas.Bool.{both_ways}
use Rattle.thes_base.specs.declared.data.Link.{Link}
use Rattle.thes_base.specs.Links.{Links, Holds, links_after_deprecation, normal_form}
use Rattle.thes_base.proofs.LinkSetLemmas.{without_node_from, without_node_to}
use Rattle.thes_links.specs.GraphView.{GraphView, is_marked}
use Rattle.thes_links.specs.Reading.{HaveTwoEnds, IsRow}
use Rattle.thes_links.proofs.NormLemmas.{ends_or_not}
use Rattle.thes_links.proofs.SetLemmas.{same_links}
use Rattle.thes_graph.specs.MergeAdditions.{AreAddedLinks, AreNew, with_all, without_links}
use Rattle.thes_graph.proofs.ChangeLemmas.{with_from, with_has, with_keeps, without_from, without_keeps}

-- Assumes the list of a node's links.
module _ (n : ℕ) (links : Links) (row : List Link) (is : IsRow links n row) where
  abbrev fewer : Links
  fewer = links_after_deprecation n links

  -- Adding the node's links again restores the links.
  pub links_again : with_all fewer row ≡ links
  links_again = same_links (with_all fewer row) links to from
    where
      to : (m : Link) → Holds (with_all fewer row) m → Holds links m
      to m held = elim (with_from fewer row m held) [
        | inl old ↦ (without_node_from n links m old).0
        | inr listed ↦ (is.sound m listed).0
      ]

      from : (m : Link) → Holds links m → Holds (with_all fewer row) m
      from m held = elim (ends_or_not n m) [
        | inl has ↦ with_has fewer row m (is.complete m held has)
        | inr off ↦ with_keeps fewer row m (without_node_to n links m (held, off))
      ]

  -- The node's links may be added again.
  pub addable_again : (net : GraphView) → net.links ≡ fewer → HaveTwoEnds (Holds links)
      → ((l : Link) → Holds links l → normal_form (is_marked net) l ≡ l) → AreNew net row
  addable_again net left two normal = record {
    two_ends = λ l has. two l (is.sound l has).0;
    normal = λ l has. normal l (is.sound l has).0;
    new = λ l has held. (without_node_from n links l (subst (λ (x : Links). Holds x l) left held)).1 (is.sound l has).1;
  }

held_or_not : (links : Links) (l : Link) → Holds links l ⊎ (Holds links l → ⊥)
held_or_not links l = elim (contains links l) as (λ b. (b ≡ true) ⊎ (b ≡ true → ⊥))
    [ true ↦ inl refl | false ↦ inr (λ e. both_ways false refl e) ]

-- Adding the removed links again, and removing the added ones, restores the links before a change.
pub links_restored : (before after : Links) (row added : List Link) → ((l : Link) → Contains row l → Holds before l)
    → ((l : Link) → Holds before l → Contains row l ⊎ Holds after l) → AreAddedLinks before after added
    → without_links (with_all after row) added ≡ before
links_restored before after row added was stays are =
    same_links (without_links (with_all after row) added) before to from
  where
    to : (m : Link) → Holds (without_links (with_all after row) added) m → Holds before m
    to m held =
        let rest = without_from (with_all after row) added m held in
        elim (with_from after row m rest.0) [
          | inl now ↦ elim (held_or_not before m) [
            | inl old ↦ old
            | inr new ↦ absurd (rest.1 (are.complete m now new))
          ]
          | inr has ↦ was m has
        ]

    from : (m : Link) → Holds before m → Holds (without_links (with_all after row) added) m
    from m held =
        without_keeps (with_all after row) added m
        (elim (stays m held) [ inl has ↦ with_has after row m has | inr now ↦ with_keeps after row m now ])
        (λ has. (are.sound m has).1 held)
