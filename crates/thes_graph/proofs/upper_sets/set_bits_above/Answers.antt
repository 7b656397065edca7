use Rattle.std.proofs.Common.{ap, ◌∙◌}
use Rattle.thes_links.specs.Words.{word_at}
use Rattle.thes_graph.proofs.UpperSetLemmas.{AreSetAbove-none, AreSetAbove-more, AreSetAbove-end}
use Rattle.thes_graph.proofs.upper_sets.set_bits_above.Goals as goal

pub loop-high-init : goal.loop-high-init
loop-high-init c = AreSetAbove-none c.args.words.now.items c.args.row.now.node

pub loop-high-preserved : goal.loop-high-preserved
loop-high-preserved c =
    AreSetAbove-more c.args.words.now.items c.loop-high.words.items c.set_bits_of_node.new.words.items
    c.args.row.now.node c.args.row.now.above.items c.loop-high.high-index c.high-item.result c.word_of_node-bits.result
    (rw c.deref-high-items.ensures.value at c.loop-high-test.true)
    (rw c.deref-high-items.ensures.value at c.high-item.is) (c.word_of_node-bits.ensures
    ∙ ap (λ ws. word_at ws c.high-item.result) c.deref.ensures.value)
    c.in_ok-set_bits_of_node.ensures c.loop-high.invariant

pub returns : goal.returns
returns c =
    AreSetAbove-end c.args.words.now.items c.loop-high.words.items c.args.row.now.node c.args.row.now.above.items
    c.loop-high.high-index (rw c.deref-high-items.ensures.value at c.loop-high-test.false) c.loop-high.invariant
