-- The lists of neighbours, mappings and typed links have exactly the values to which the links at the node are mapped,
-- in order.
use Rattle.std.proofs.Common.{◌≡◌, ◌⊎◌, inl, inr, ◌+◌, ◌<◌, ◌++◌, ℕ, List, [], ◌∷◌, Contains, take, length, get_or}
use Rattle.std.proofs.Common.{Option, Some, None, Ordering, refl, sym, ap, subst, ◌∙◌, append-nil}
use Rattle.std.specs.List.{filter_map}
use Rattle.std.specs.Cmp.{IsTotalOrder}
use Rattle.std.specs.FinSet.{IsAntisymmetric}
use Rattle.std.specs.BTreeSet.{insert_key}
use Rattle.std.proofs.Math.Seq.{take-length}
use Rattle.std.proofs.lemmas.List.Elements.{Contains-push, Contains-push_cases, Contains-append_left}
use Rattle.thes_base.specs.declared.data.Link.{Link}
use Rattle.thes_base.specs.declared.data.LinkKind.{LinkKind}
use Rattle.thes_base.specs.declared.data.LinkKind.TheVariants.{Broader, Related, Member, BroaderGeneric}
use Rattle.thes_base.specs.declared.data.LinkKind.TheVariants.{BroaderPartitive, BroaderInstantial}
use Rattle.thes_base.specs.declared.data.Direction.{Direction}
use Rattle.thes_base.specs.Links.{Links, Holds, LinkLeads, IsHierarchical, HasEnd}
use Rattle.thes_base.specs.Listing.{IsListing}
use Rattle.thes_base.specs.Views.{HasLink, HasBroader}
use Rattle.thes_lists.proofs.ListingLemmas.{listing_as, listing_insert}
use Rattle.thes_graph.specs.declared.sided_links.SidedLink.{SidedLink}
use Rattle.thes_graph.specs.declared.neighbours.NeighbourKind.{NeighbourKind}
use Rattle.thes_graph.specs.declared.neighbours.NeighbourKind.TheVariants as list
use Rattle.thes_graph.specs.SidedLinks.{sided_link_at, sided_links_at}
use Rattle.thes_links.specs.Steps.{reverse_of}
use Rattle.thes_graph.specs.Neighbours.{direction_by_form, neighbour_direction, IsNeighbour, neighbour_by_link}
use Rattle.thes_links.proofs.StepLemmas.{step_from_Leads, Leads-from_step, Leads-first}
use Rattle.thes_links.proofs.EditLemmas.{filter_map-from, filter_map-to, link_same}
use Rattle.thes_graph.proofs.IndexLemmas.{sided_links_from, sided_links_to}
use Rattle.thes_graph.proofs.MergeAdditionLemmas.{filter_map_more}

-- A held link with an end at the node is mapped to p.
abbrev pub IsSeen : {K : Type 0} → Links → ℕ → (Link → Option K) → K → Type 0
IsSeen links n f p = (l : Link) × Holds links l × HasEnd n l × (f l ≡ Some p)

module _ {K : Type 0} (c : K → K → Ordering) (f : Link → Option K) where
  abbrev seen_standing : SidedLink → Option K
  seen_standing s = f s.link

  -- The list is sorted, and has exactly the values to which these links are mapped.
  abbrev pub ListsSeen : List SidedLink → List K → Type 0
  ListsSeen ss found = IsListing c (λ p. Contains (filter_map seen_standing ss) p) found

  -- Assumes one iteration of the loop over the node's links.
  module _ (ss : List SidedLink) (i : ℕ) (s : SidedLink) (within : i < length ss) (at : s ≡ get_or ss i s)
      (found : List K) (is : ListsSeen (take i ss) found) where
    -- The list stays correct after the value of the next link is inserted.
    pub seen_more : IsTotalOrder c → IsAntisymmetric c → (p : K) → Some p ≡ f s.link → ListsSeen (take (i + 1) ss)
        (insert_key c found p)
    seen_more o exact p gives =
        listing_as c (λ q. Contains (filter_map seen_standing (take i ss)) q ⊎ (q ≡ p))
        (Contains (filter_map seen_standing (take (i + 1) ss))) (insert_key c found p)
        (λ q has. into q (elim has [
          | inl old ↦ Contains-append_left (filter_map seen_standing (take i ss)) (p ∷ []) q old
          | inr same ↦ subst (Contains (filter_map seen_standing (take i ss) ++ p ∷ [])) (sym same)
              (Contains-push (filter_map seen_standing (take i ss)) p)
        ]))
        (λ q has. elim (Contains-push_cases (filter_map seen_standing (take i ss)) p q
        (subst (λ (ps : List K). Contains ps q) next has)) [ inl old ↦ inl old | inr same ↦ inr (sym same) ])
        (listing_insert c o exact (Contains (filter_map seen_standing (take i ss))) found p is)
      where
        next : filter_map seen_standing (take (i + 1) ss) ≡ filter_map seen_standing (take i ss) ++ p ∷ []
        next = filter_map_more seen_standing ss i s (Some p) within at gives

        into : (q : K) → Contains (filter_map seen_standing (take i ss) ++ p ∷ []) q
            → Contains (filter_map seen_standing (take (i + 1) ss)) q
        into q has = subst (λ (ps : List K). Contains ps q) (sym next) has

    pub seen_no_more : None ≡ f s.link → ListsSeen (take (i + 1) ss) found
    seen_no_more none =
        subst (λ (ps : List K). IsListing c (λ q. Contains ps q) found)
        (sym (filter_map_more seen_standing ss i s None within at none
        ∙ append-nil (filter_map seen_standing (take i ss)))) is

  -- The list is complete after the last of the node's links.
  pub seen_listing : (links : Links) (n : ℕ) (P : K → Type 0) → ((p : K) → IsSeen links n f p → P p)
      → ((p : K) → P p → IsSeen links n f p)
      → (row : List SidedLink) (i : ℕ) → i ≡ length row → row ≡ sided_links_at links n → (found : List K)
      → ListsSeen (take i row) found → IsListing c P found
  seen_listing links n P to from row i end at_n found is =
      listing_as c (Contains (filter_map seen_standing (sided_links_at links n))) P found
      (λ p has.
      let r = filter_map-from seen_standing (sided_links_at links n) p has in
      let at = sided_links_from links n r.0 r.1 in
      to p (r.0.link, at.0, at.1, r.2))
      (λ p has.
      let l = from p has in
      filter_map-to seen_standing (sided_links_at links n) (sided_link_at n l.0) p
      (sided_links_to links n l.0 l.1 l.2) l.3)
      (subst (λ (ss : List SidedLink). ListsSeen ss found) (ap (λ j. take j row) end ∙ take-length row ∙ at_n) is)

pub linked_from : (links : Links) (neighbours : NeighbourKind) (n m : ℕ)
    → IsSeen links n (neighbour_by_link neighbours n) m → IsNeighbour links neighbours n m
linked_from links neighbours n m (l, held, at, gives) =
    (l, held, Leads-from_step (neighbour_direction neighbours l.kind) l.a l.b n m gives)

pub linked_to : (links : Links) (neighbours : NeighbourKind) (n m : ℕ) → IsNeighbour links neighbours n m
    → IsSeen links n (neighbour_by_link neighbours n) m
linked_to links neighbours n m (l, held, leads) = (
  l,
  held,
  Leads-first (neighbour_direction neighbours l.kind) l.a l.b n m leads,
  step_from_Leads (neighbour_direction neighbours l.kind) l.a l.b n m leads,
)

module _ (links : Links) where
  held_as : (l : Link) (a b : ℕ) → Holds links l → l.a ≡ a → l.b ≡ b → HasLink links l.kind a b
  held_as l a b held e f = subst (Holds links) (link_same l.kind l.kind l.a a l.b b refl e f) held

  held_kind : (l : Link) (kind : LinkKind) (a b : ℕ) → Holds links l → l.kind ≡ kind → l.a ≡ a → l.b ≡ b
      → HasLink links kind a b
  held_kind l kind a b held k e f = subst (Holds links) (link_same l.kind kind l.a a l.b b k e f) held

  upward : (k : LinkKind) (a b n m : ℕ) → LinkLeads (neighbour_direction list.Broader k) a b n m → IsHierarchical k
      × (a ≡ n) × (b ≡ m)
  upward Broader a b n m (e, f) = ((refl, refl), e, f)
  upward BroaderGeneric a b n m (e, f) = ((refl, refl), e, f)
  upward BroaderPartitive a b n m (e, f) = ((refl, refl), e, f)
  upward BroaderInstantial a b n m (e, f) = ((refl, refl), e, f)
  upward _ a b n m h = absurd h

  downward : (k : LinkKind) (a b n m : ℕ) → LinkLeads (neighbour_direction list.Narrower k) a b n m → IsHierarchical k
      × (b ≡ n) × (a ≡ m)
  downward Broader a b n m (e, f) = ((refl, refl), e, f)
  downward BroaderGeneric a b n m (e, f) = ((refl, refl), e, f)
  downward BroaderPartitive a b n m (e, f) = ((refl, refl), e, f)
  downward BroaderInstantial a b n m (e, f) = ((refl, refl), e, f)
  downward _ a b n m h = absurd h

  abbrev Sideways : ℕ → ℕ → Type 0
  Sideways n m = HasLink links Related n m ⊎ HasLink links Related m n

  pub broader_from : (n m : ℕ) → IsNeighbour links list.Broader n m → HasBroader links n m
  broader_from n m (l, held, leads) = let up = upward l.kind l.a l.b n m leads in
      (l.kind, up.0, held_as l n m held up.1 up.2)

  pub broader_to : (n m : ℕ) → HasBroader links n m → IsNeighbour links list.Broader n m
  broader_to n m (kind, hierarchical, held) = (
    record { kind = kind; a = n; b = m },
    held,
    subst (λ (d : Direction). LinkLeads d n m n m)
        (sym (ap (λ f. direction_by_form f list.Broader kind) hierarchical.0 ∙ hierarchical.1)) (refl, refl),
  )

  pub narrower_from : (n m : ℕ) → IsNeighbour links list.Narrower n m → HasBroader links m n
  narrower_from n m (l, held, leads) = let down = downward l.kind l.a l.b n m leads in
      (l.kind, down.0, held_as l m n held down.2 down.1)

  pub narrower_to : (n m : ℕ) → HasBroader links m n → IsNeighbour links list.Narrower n m
  narrower_to n m (kind, hierarchical, held) = (
    record { kind = kind; a = m; b = n },
    held,
    subst (λ (d : Direction). LinkLeads d m n n m)
        (sym (ap (λ f. direction_by_form f list.Narrower kind) hierarchical.0 ∙ ap reverse_of hierarchical.1))
        (refl, refl),
  )

  sideward : (l : Link) (k : LinkKind) (n m : ℕ) → Holds links l → l.kind ≡ k
      → LinkLeads (neighbour_direction list.Related k) l.a l.b n m → Sideways n m
  sideward l Related n m held is (inl (e, f)) = inl (held_kind l Related n m held is e f)
  sideward l Related n m held is (inr (e, f)) = inr (held_kind l Related m n held is f e)
  sideward l _ n m held is h = absurd h

  pub related_from : (n m : ℕ) → IsNeighbour links list.Related n m → Sideways n m
  related_from n m (l, held, leads) = sideward l l.kind n m held refl leads

  pub related_to : (n m : ℕ) → Sideways n m → IsNeighbour links list.Related n m
  related_to n m (inl held) = (record { kind = Related; a = n; b = m }, held, inl (refl, refl))
  related_to n m (inr held) = (record { kind = Related; a = m; b = n }, held, inr (refl, refl))

  inward : (l : Link) (k : LinkKind) (n m : ℕ) → Holds links l → l.kind ≡ k
      → LinkLeads (neighbour_direction list.Collections k) l.a l.b n m → HasLink links Member m n
  inward l Member n m held is (e, f) = held_kind l Member m n held is f e
  inward l _ n m held is h = absurd h

  pub collection_from : (n m : ℕ) → IsNeighbour links list.Collections n m → HasLink links Member m n
  collection_from n m (l, held, leads) = inward l l.kind n m held refl leads

  pub collection_to : (n m : ℕ) → HasLink links Member m n → IsNeighbour links list.Collections n m
  collection_to n m held = (record { kind = Member; a = m; b = n }, held, (refl, refl))
