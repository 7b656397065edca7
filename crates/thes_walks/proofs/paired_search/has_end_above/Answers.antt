use Rattle.std.proofs.Common.{◌+◌, ◌*◌, ◌≤◌, length, arith}
use Rattle.thes_base.specs.Links.{Holds, Chain}
use Rattle.thes_links.specs.declared.relation.Relation.TheVariants.{Broader}
use Rattle.thes_links.specs.declared.edit.LinkEdit.TheVariants.{NoEdit}
use Rattle.thes_links.specs.Steps.{Steps}
use Rattle.thes_walks.proofs.UpwardLinkLemmas.{covers_up, covers_down}
use Rattle.thes_walks.proofs.PairedSearchLemmas.{first_above, then_above}
use Rattle.thes_walks.proofs.paired_search.has_end_above.Goals as goal

pub returns-then-branch-clause-above : goal.returns-then-branch-clause-above
returns-then-branch-clause-above g c =
    let chain : Chain (Steps Broader (Holds (g.L.Links.net c.args.links.now).links)) c.args.link.now.a
    c.args.link.now.b =
    rw c.if-branch.true at c.in_ok-leads_to.ensures.leads in
    first_above (Holds (g.L.Links.net c.args.links.now).links) c.args.link.now chain

pub returns-then-branch-clause-count : goal.returns-then-branch-clause-count
returns-then-branch-clause-count g c ns covers =
    omega (
      arith,
      c.in_ok-leads_to.ensures.count ns (covers_up NoEdit (g.L.Links.net c.args.links.now).links
          c.args.link.now.a c.args.link.now.a ns covers),
    )

pub returns-clause-above : goal.returns-clause-above
returns-clause-above g c =
    let none : Chain (Steps Broader (Holds (g.L.Links.net c.args.links.now).links)) c.args.link.now.a c.args.link.now.b
    → ⊥ = rw c.if-branch.false at c.in_ok-leads_to.ensures.leads in
    then_above (Holds (g.L.Links.net c.args.links.now).links) c.args.link.now c.requires none c.in_ok-found.found
    (rw c.in_ok-leads_to.ensures.net at c.in_ok-found.ensures.leads)

pub returns-clause-count : goal.returns-clause-count
returns-clause-count g c ns covers =
    let one : g.L.Links.count c.leads_to.new.links ≤ g.L.Links.count c.args.links.now + 2 * length ns =
    c.in_ok-leads_to.ensures.count ns (covers_up NoEdit (g.L.Links.net c.args.links.now).links c.args.link.now.a
    c.args.link.now.a ns covers) in
    let two : g.L.Links.count c.leads_to-2.new.links ≤ g.L.Links.count c.leads_to.new.links + 2 * length ns =
    (rw c.in_ok-leads_to.ensures.net at c.in_ok-found.ensures.count) ns
    (covers_down NoEdit (g.L.Links.net c.args.links.now).links c.args.link.now.a c.args.link.now.a ns covers) in
    omega (arith, one, two)
