-- After a merge, the links held at a node, or at source and target, lead to all nodes to which the node then leads;
-- reading them takes a bounded number of visits.
use Rattle.std.proofs.lemmas.Grind.{common_steps}
use Rattle.std.proofs.Common.{◌≢◌, ◌+◌, ◌≤◌, ◌⊎◌, ℕ, List, sym, arith, sum_by}
use Rattle.std.proofs.lemmas.List.Sums.{sum_by-le-sum_by}
use Rattle.thes_base.specs.declared.data.Link.{Link}
use Rattle.thes_base.specs.Links.{Links, Holds}
use Rattle.thes_links.specs.declared.relation.Relation.{Relation}
use Rattle.thes_links.specs.declared.side.Side.{Side}
use Rattle.thes_links.specs.declared.edit.LinkEdit.TheVariants.{AfterMerge}
use Rattle.thes_links.specs.Reading.{HaveTwoEnds}
use Rattle.thes_links.specs.Side.{IsOneSided}
use Rattle.thes_links.specs.LinkEdit.{HeldAfter, CoversAt}
use Rattle.thes_links.specs.Steps.{Steps}
use Rattle.thes_walks.specs.SideSearch.{LeadsFrom, CoversSide, one_on_side, link_visits}
use Rattle.thes_links.proofs.ReadLemmas.{either_end, sum_by-two, node_after-source, node_after-stays, node_after-at}
use Rattle.thes_links.proofs.ReadLemmas.{node_after-target}
use Rattle.thes_walks.proofs.ReadCostLemmas.{weight_target, weight_other}
use Rattle.thes_walks.proofs.SideSearchLemmas.{Steps-merged}

module _ (held : Links) (source target : ℕ) (two : source ≢ target) where
  off : target ≢ source
  off e = two (sym e)

  module _ (relation : Relation) (walked : IsOneSided relation) (two_ends : HaveTwoEnds (Holds held)) where
    -- After a merge, each step from the target is made by a link held at the target or at the source.
    pub Steps-target : (y : ℕ) → Steps relation (HeldAfter (AfterMerge source target) held) target y
        → LeadsFrom (AfterMerge source target) held relation target target y ⊎ LeadsFrom (AfterMerge source target)
        held relation source target y
    Steps-target y steps = grind (arith, common_steps, Steps-merged, node_after-target)

    pub Steps-other : (x y : ℕ) → x ≢ target → Steps relation (HeldAfter (AfterMerge source target) held) x y
        → LeadsFrom (AfterMerge source target) held relation x x y
    Steps-other x y away steps = grind (arith, common_steps, Steps-merged, node_after-at)

  module _ (side : Side) (ns : List Link) where
    pub CoversSide-target : CoversAt (AfterMerge source target) held target ns → CoversSide held target side ns
        × CoversSide held source side ns
    CoversSide-target covers = grind (arith, common_steps, either_end, node_after-source, node_after-stays, off)

    pub CoversSide-other : (x : ℕ) → x ≢ source → CoversAt (AfterMerge source target) held x ns
        → CoversSide held x side ns
    CoversSide-other x away covers l has ends _ =
        covers l has (either_end (AfterMerge source target) x x l (λ z. node_after-stays source target two x z away)
        ends)

    pub target_cost : sum_by (one_on_side target side) ns + sum_by (one_on_side source side) ns
        ≤ sum_by (link_visits (AfterMerge source target) target side) ns
    target_cost =
        sum_by-two (one_on_side target side) (one_on_side source side)
        (link_visits (AfterMerge source target) target side)
        (λ l. omega (arith, weight_target source target off side l)) ns

    pub other_cost : (x : ℕ) → x ≢ source → x ≢ target → sum_by (one_on_side x side) ns
        ≤ sum_by (link_visits (AfterMerge source target) x side) ns
    other_cost x off away =
        sum_by-le-sum_by (one_on_side x side) (link_visits (AfterMerge source target) x side) ns
        (λ l. omega (arith, weight_other source target x off away side l))
