use Rattle.std.proofs.Common.{refl, Contains, true, false}
use Rattle.std.specs.Bool.{MatchBool}
use Rattle.thes_base.specs.declared.data.Link.{Link}
use Rattle.thes_links.specs.declared.relation.Relation.TheVariants.{Apart, Exact}
use Rattle.thes_links.specs.Steps.{Ties}
use Rattle.thes_links.specs.Rules.{IsReachableSet, BreaksS46At, KeepsS46At}
use Rattle.thes_links.specs.LinkEdit.{HeldAfter}
use Rattle.thes_links.proofs.EditLemmas.{would_two}
use Rattle.thes_walks.proofs.ProbeLemmas.{class_alone, near_same}
use Rattle.thes_links.proofs.ClassLemmas.{s46_found, s46_none}
use Rattle.thes_walks.proofs.class.breaks_class.Goals as goal

pub returns-then-is_end_after-clause-found : goal.returns-then-is_end_after-clause-found
returns-then-is_end_after-clause-found g c =
    class_alone (HeldAfter c.args.edit.now (g.L.Links.net c.args.links.now).links) c.args.pivot
    (would_two (g.L.Links.net c.args.links.now).links c.args.edit.now c.requires c.if-is_end_after.ensures.two_ends)
    (c.if-is_end_after.ensures.end refl).none

pub returns-clause-count : goal.returns-clause-count
returns-clause-count g c ns covers =
    let same : IsReachableSet (HeldAfter c.args.edit.now (g.L.Links.net c.args.links.now).links) Exact c.args.pivot
    c.in_ok-same.same.nodes c.in_ok-same.same.links.items = c.in_ok-same.ensures.gathered in
    c.in_ok-same.ensures.count ns
    (λ n has. covers n (near_same (HeldAfter c.args.edit.now (g.L.Links.net c.args.links.now).links) c.args.pivot n
    (same.reach.sound n has)))

pub returns-clause-found : goal.returns-clause-found
returns-clause-found g c =
    let same : IsReachableSet (HeldAfter c.args.edit.now (g.L.Links.net c.args.links.now).links) Exact c.args.pivot
    c.in_ok-same.same.nodes c.in_ok-same.same.links.items = c.in_ok-same.ensures.gathered in
    elim c.has_link_between-found.result as (λ b. MatchBool b ((l : Link) × Contains c.in_ok-same.same.links.items l
    × Ties Apart l c.in_ok-same.same.nodes c.in_ok-same.same.nodes)
    ((l : Link) → Contains c.in_ok-same.same.links.items l → Ties Apart l c.in_ok-same.same.nodes
    c.in_ok-same.same.nodes → ⊥)
    → MatchBool b (BreaksS46At (HeldAfter c.args.edit.now (g.L.Links.net c.args.links.now).links) c.args.pivot)
    (KeepsS46At (HeldAfter c.args.edit.now (g.L.Links.net c.args.links.now).links) c.args.pivot)) [
      | true ↦ s46_found (HeldAfter c.args.edit.now (g.L.Links.net c.args.links.now).links) c.args.pivot
          c.in_ok-same.same.nodes c.in_ok-same.same.links.items same
      | false ↦ s46_none (HeldAfter c.args.edit.now (g.L.Links.net c.args.links.now).links) c.args.pivot
          c.in_ok-same.same.nodes c.in_ok-same.same.links.items same
    ] (rw c.deref.ensures.value at c.has_link_between-found.ensures)
