use Rattle.std.proofs.Common.{ℕ, MatchBool}
use Rattle.thes_walks.specs.PairedSearch.{ArePairedSearches, HasFoundChain}
use Rattle.thes_walks.proofs.PairedSearchLemmas.{ArePairedSearches-start, PairedSearch-chain, PairedSearch-paid}
use Rattle.thes_walks.proofs.paired_search.leads_to.Given.{Over}
use Rattle.thes_walks.proofs.paired_search.leads_to.Goals as goal
use Rattle.thes_walks.proofs.paired_search.leads_to.Goals.{In_ok-found}

-- The two searches find a chain, or end in the state that ArePairedSearches describes.
led : (g : Over) (c : In_ok-found g) → MatchBool c.in_ok-found.found
    (HasFoundChain (g.L.Links.net c.args.links.now).links c.args.relation c.args.from
    c.args.to (g.L.Links.count c.args.links.now) (g.L.Links.count c.run_paired_search.new.links))
    (ArePairedSearches (g.L.Links.net c.args.links.now).links c.args.relation c.args.from c.args.to
    c.run_paired_search.new.paired.first c.run_paired_search.new.paired.second c.run_paired_search.new.paired.allowance
    (g.L.Links.count c.args.links.now) (g.L.Links.count c.run_paired_search.new.links))
led g c =
    c.in_ok-found.ensures.continues c.args.from c.args.to (g.L.Links.count c.args.links.now)
    (ArePairedSearches-start (g.L.Links.net c.args.links.now).links c.args.relation c.requires c.args.from
    c.args.to (g.L.Links.count c.args.links.now)
    c.in_ok-first.first c.in_ok-second.second c.in_ok-first.ensures.nodes c.in_ok-first.ensures.unread
    c.in_ok-second.ensures.nodes c.in_ok-second.ensures.unread)

pub returns-clause-leads : goal.returns-clause-leads
returns-clause-leads g c =
    PairedSearch-chain (g.L.Links.net c.args.links.now).links c.args.relation c.requires c.args.from c.args.to
    (g.L.Links.count c.args.links.now)
    c.run_paired_search.new.paired.first c.run_paired_search.new.paired.second
    c.run_paired_search.new.paired.allowance (g.L.Links.count c.run_paired_search.new.links)
    c.in_ok-found.found c.in_ok-found.ensures.done (led g (goal.at.returns-clause-leads g c).In_ok-found)

pub returns-clause-count : goal.returns-clause-count
returns-clause-count g c =
    PairedSearch-paid (g.L.Links.net c.args.links.now).links c.args.relation c.requires c.args.from c.args.to
    (g.L.Links.count c.args.links.now)
    c.run_paired_search.new.paired.first c.run_paired_search.new.paired.second
    c.run_paired_search.new.paired.allowance (g.L.Links.count c.run_paired_search.new.links)
    c.in_ok-found.found (led g (goal.at.returns-clause-count g c).In_ok-found)
