use Rattle.std.proofs.Common.{ℕ, Contains, subst}
use Rattle.std.specs.Bool.{MatchBool}
use Rattle.thes_base.specs.Links.{Holds}
use Rattle.thes_graph.specs.Whole.{KeepsS27Below, BreaksS27}
use Rattle.thes_links.specs.GraphView.{GraphView}
use Rattle.thes_graph.proofs.S27Lemmas.{s27_decided}
use Rattle.thes_graph.proofs.s27.breaks_s27.Goals as goal

pub returns-clause-s27 : goal.returns-clause-s27
returns-clause-s27 g c =
    s27_decided (Holds (g.L.Links.net c.args.links.now).links) c.in_ok-found.found c.as_slice-2.result.now
    (subst (λ (net : GraphView). MatchBool c.in_ok-found.found (BreaksS27 (Holds net.links)) ((n : ℕ)
    → Contains c.as_slice-2.result.now n → KeepsS27Below (Holds net.links) n)) c.in_ok-rows.ensures.net
    c.in_ok-found.ensures.s27)
    (λ l held has. rw c.as_slice-2.ensures (c.in_ok-related.ensures l (c.requires.all.complete l held) has))
