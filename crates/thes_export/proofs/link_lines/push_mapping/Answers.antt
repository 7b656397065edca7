use Rattle.thes_base.specs.declared.data.LinkKind.TheVariants as kind
use Rattle.thes_export.proofs.TopicLemmas.{as_kind}
use Rattle.thes_export.proofs.link_lines.push_mapping.Goals as goal

pub returns-in-Exact : goal.returns-in-Exact
returns-in-Exact c = as_kind c.args.about.now.core.now c.args.about.now.n c.push_node.result c.args.kind kind.Exact
    c.args.object _ _ c.in-Exact.is c.push_node.ensures

pub returns-in-Close : goal.returns-in-Close
returns-in-Close c = as_kind c.args.about.now.core.now c.args.about.now.n c.push_node-in-Close.result c.args.kind
    kind.Close c.args.object _ _ c.in-Close.is c.push_node-in-Close.ensures

pub returns-in-RelMatch : goal.returns-in-RelMatch
returns-in-RelMatch c = as_kind c.args.about.now.core.now c.args.about.now.n c.push_node-in-RelMatch.result
    c.args.kind kind.RelMatch c.args.object _ _ c.in-RelMatch.is c.push_node-in-RelMatch.ensures

pub returns-in-Broad : goal.returns-in-Broad
returns-in-Broad c = as_kind c.args.about.now.core.now c.args.about.now.n c.push_match.result c.args.kind kind.Broad
    c.args.object _ _ c.in-Broad.is c.push_match.ensures

pub returns-in-Narrow : goal.returns-in-Narrow
returns-in-Narrow c = as_kind c.args.about.now.core.now c.args.about.now.n c.push_match-in-Narrow.result c.args.kind
    kind.Narrow c.args.object _ _ c.in-Narrow.is c.push_match-in-Narrow.ensures
