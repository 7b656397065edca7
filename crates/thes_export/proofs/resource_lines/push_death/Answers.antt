use Rattle.std.proofs.Common.{◌∙◌, sym}
use Rattle.thes_export.proofs.TopicLemmas.{death_line}
use Rattle.thes_export.proofs.resource_lines.push_death.Goals as goal

pub returns : goal.returns
returns c = death_line c.args.about.now.core.now c.args.about.now.n c.args.about.now.resource.now _ _ _
    c.args.about.now.found (sym c.is_dead_concept.ensures ∙ c.if-not-is_dead_concept.false) c.in_ok-line.ensures
    c.in_ok-push_line.ensures
