use Rattle.thes_graph.proofs.UpperSetLemmas.{AreFoundBelow-start, AreFoundBelow-more}
use Rattle.thes_graph.proofs.upper_sets.find_upper_sets.Goals as goal

pub loop-row-init : goal.loop-row-init
loop-row-init c held all = AreFoundBelow-start held c.args.block.now c.start_block.new.words.items
    c.in_ok-start_block.ensures

pub loop-row-preserved : goal.loop-row-preserved
loop-row-preserved c held all =
    AreFoundBelow-more held c.args.block.now c.args.rows.now all c.loop-row.words.items c.set_bits_above.new.words.items
    c.loop-row.row-index c.row-item.result c.loop-row-test.true c.row-item.is c.in_ok-set_bits_above.ensures
    (c.loop-row.invariant held all)
