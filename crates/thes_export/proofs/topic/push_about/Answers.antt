use Rattle.std.proofs.Common.{sym, subst, take, arith, List}
use Rattle.std.proofs.lemmas.List.{take_more}
use Rattle.thes_export.specs.declared.topic.Topic.{Topic}
use Rattle.thes_export.specs.Topics.{Adds, IsLineOf, IsTopicTriple}
use Rattle.thes_export.proofs.LineAppendLemmas.{OfSome, added_each, added_no_element}
use Rattle.thes_export.proofs.TopicLemmas.{all_topics}
use Rattle.thes_export.proofs.topic.push_about.Goals as goal

pub loop-topic-init : goal.loop-topic-init
loop-topic-init c = grind (arith, added_no_element)

pub loop-topic-preserved : goal.loop-topic-preserved
loop-topic-preserved c =
    let xs : List Topic = c.all-topics.result in
    let i = c.loop-topic.topic-index in
    subst (λ (ys : List Topic).
    Adds (IsLineOf (OfSome (λ (topic : Topic). IsTopicTriple c.args.about.now.core.now topic c.args.about.now.n) ys))
    c.args.lines.now.items c.push_topic.new.lines.items) (sym (take_more xs i _ (omega arith)))
    (added_each (λ (topic : Topic). IsTopicTriple c.args.about.now.core.now topic c.args.about.now.n)
    (take i xs) _ _ _ _ c.loop-topic.invariant c.in_ok-push_topic.ensures)

pub returns : goal.returns
returns c = all_topics c.args.about.now.core.now c.args.about.now.n c.all-topics.result c.loop-topic.topic-index _ _
    c.all-topics.ensures c.loop-topic-test.false c.loop-topic.invariant
