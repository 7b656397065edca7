use Rattle.std.proofs.Common.{◌∙◌, sym}
use Rattle.thes_export.proofs.TopicLemmas.{top_scheme, no_top}
use Rattle.thes_export.proofs.resource_lines.top_scheme_of.Goals as goal

pub returns-then-not-is_empty : goal.returns-then-not-is_empty
returns-then-not-is_empty c = no_top c.args.core.now c.args.n c.args.resource.now
    c.in_ok-broader.broader.items _ _ c.as_slice.ensures.value c.in_ok-broader.ensures c.is_empty.ensures
    c.if-not-is_empty.true

pub returns : goal.returns
returns c = top_scheme c.args.core.now c.args.n c.args.resource.now
    c.in_ok-broader.broader.items _ _ _ c.as_slice.ensures.value c.requires.found (sym c.is_live_concept.ensures
    ∙ c.if-not-is_live_concept.false) c.in_ok-broader.ensures c.is_empty.ensures c.if-not-is_empty.false
    c.scheme_in.ensures
