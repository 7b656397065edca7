use Rattle.std.proofs.lemmas.Grind.{common_steps}
use Rattle.std.proofs.Common.{◌∙◌, sym, arith}
use Rattle.thes_export.specs.Topics.{MapsOne}
use Rattle.thes_export.proofs.LineAppendLemmas.{added_next, added_no_element}
use Rattle.thes_export.proofs.TopicLemmas.{mapping_lines}
use Rattle.thes_export.proofs.link_lines.push_mappings.Goals as goal

pub loop-kind-init : goal.loop-kind-init
loop-kind-init c = added_no_element (MapsOne c.args.about.now.core.now c.args.about.now.n) _

pub loop-kind-preserved : goal.loop-kind-preserved
loop-kind-preserved c = grind (
  arith,
  common_steps,
  added_next,
  c.loop-kind-item.is,
  c.loop-kind.invariant,
  c.in_ok-push_mapping.ensures,
)

pub returns : goal.returns
returns c =
    mapping_lines c.args.about.now.core.now c.args.about.now.n c.in_ok-mappings.mappings.items
    c.in_ok-mappings.ensures c.deref-kind-items.result.now c.loop-kind.kind-index _ _
    c.deref-kind-items.ensures.value c.loop-kind-test.false
    (c.args.about.now.resource.now, c.args.about.now.found, sym c.is_concept.ensures ∙ c.if-not-is_concept.false)
    c.loop-kind.invariant
