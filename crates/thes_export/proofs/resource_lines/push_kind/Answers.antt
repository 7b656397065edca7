use Rattle.thes_export.proofs.TopicLemmas.{kind_line}
use Rattle.thes_export.proofs.resource_lines.push_kind.Goals as goal

pub returns-in_ok-push_line-in-Some : goal.returns-in_ok-push_line-in-Some
returns-in_ok-push_line-in-Some c = kind_line c.args.about.now.core.now c.args.about.now.n
    c.args.about.now.resource.now c.in-Some.class _ _ _ c.args.about.now.found c.in-Some.ensures
    c.in_ok-line-in-Some.ensures c.in_ok-push_line-in-Some.ensures
