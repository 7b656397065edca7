use Rattle.std.proofs.Common.{ap, sym, ◌∙◌}
use Rattle.std.specs.Prelude.{option_map}
use Rattle.std.proofs.lemmas.Option.{slice_get-map}
use Rattle.thes_graph.specs.declared.sided_links.SidedLink.{SidedLink}
use Rattle.thes_graph.specs.SidedLinks.{sided_links_at}
use Rattle.thes_graph.proofs.graph.Graph.nth_at.Goals as goal

pub returns-in-Some-clause-link : goal.returns-in-Some-clause-link
returns-in-Some-clause-link c =
    ap (option_map (λ (s : SidedLink). s.link)) c.in-Some.ensures.place
    ∙ sym (slice_get-map (λ (s : SidedLink). s.link) (sided_links_at c.args.self.now.links c.args.n) c.args.i)

pub returns-in-None-clause-link : goal.returns-in-None-clause-link
returns-in-None-clause-link c =
    ap (option_map (λ (s : SidedLink). s.link)) c.in-None.ensures.place
    ∙ sym (slice_get-map (λ (s : SidedLink). s.link) (sided_links_at c.args.self.now.links c.args.n) c.args.i)
