use Rattle.thes_export.proofs.TopicLemmas.{replacement_line}
use Rattle.thes_export.proofs.resource_lines.push_replacement.Goals as goal

pub returns-in_ok-push_node-in-Some : goal.returns-in_ok-push_node-in-Some
returns-in_ok-push_node-in-Some c = replacement_line c.args.about.now.core.now c.args.about.now.n
    c.args.about.now.resource.now c.in-Some.other _ _ c.args.about.now.found c.in-Some.ensures
    c.in_ok-push_node-in-Some.ensures
