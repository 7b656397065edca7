use Rattle.thes_export.specs.declared.topic.Topic.TheVariants as topic
use Rattle.thes_export.proofs.TopicLemmas.{as_topic}
use Rattle.thes_export.proofs.topic.push_topic.Goals as goal

pub returns-in-Kind : goal.returns-in-Kind
returns-in-Kind c = as_topic c.args.about.now.core.now c.args.about.now.n c.push_kind.result c.args.topic topic.Kind _
    _ c.in-Kind.is c.push_kind.ensures

pub returns-in-Belonging : goal.returns-in-Belonging
returns-in-Belonging c = as_topic c.args.about.now.core.now c.args.about.now.n c.push_belonging.result c.args.topic
    topic.Belonging _ _ c.in-Belonging.is c.push_belonging.ensures

pub returns-in-Top : goal.returns-in-Top
returns-in-Top c = as_topic c.args.about.now.core.now c.args.about.now.n c.push_top.result c.args.topic topic.Top _ _
    c.in-Top.is c.push_top.ensures

pub returns-in-TopConcepts : goal.returns-in-TopConcepts
returns-in-TopConcepts c = as_topic c.args.about.now.core.now c.args.about.now.n c.push_top_concepts.result
    c.args.topic topic.TopConcepts _ _ c.in-TopConcepts.is c.push_top_concepts.ensures

pub returns-in-Death : goal.returns-in-Death
returns-in-Death c = as_topic c.args.about.now.core.now c.args.about.now.n c.push_death.result c.args.topic
    topic.Death _ _ c.in-Death.is c.push_death.ensures

pub returns-in-Replacement : goal.returns-in-Replacement
returns-in-Replacement c = as_topic c.args.about.now.core.now c.args.about.now.n c.push_replacement.result
    c.args.topic topic.Replacement _ _ c.in-Replacement.is c.push_replacement.ensures

pub returns-in-Labels : goal.returns-in-Labels
returns-in-Labels c = as_topic c.args.about.now.core.now c.args.about.now.n c.push_labels.result c.args.topic
    topic.Labels _ _ c.in-Labels.is c.push_labels.ensures

pub returns-in-Broader : goal.returns-in-Broader
returns-in-Broader c = as_topic c.args.about.now.core.now c.args.about.now.n c.push_broader.result c.args.topic
    topic.Broader _ _ c.in-Broader.is c.push_broader.ensures

pub returns-in-Narrower : goal.returns-in-Narrower
returns-in-Narrower c = as_topic c.args.about.now.core.now c.args.about.now.n c.push_narrower.result c.args.topic
    topic.Narrower _ _ c.in-Narrower.is c.push_narrower.ensures

pub returns-in-Related : goal.returns-in-Related
returns-in-Related c = as_topic c.args.about.now.core.now c.args.about.now.n c.push_related.result c.args.topic
    topic.Related _ _ c.in-Related.is c.push_related.ensures

pub returns-in-Mappings : goal.returns-in-Mappings
returns-in-Mappings c = as_topic c.args.about.now.core.now c.args.about.now.n c.push_mappings.result c.args.topic
    topic.Mappings _ _ c.in-Mappings.is c.push_mappings.ensures

pub returns-in-Members : goal.returns-in-Members
returns-in-Members c = as_topic c.args.about.now.core.now c.args.about.now.n c.push_members.result c.args.topic
    topic.Members _ _ c.in-Members.is c.push_members.ensures
