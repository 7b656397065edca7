use Rattle.std.proofs.Common.{ℕ, Some, sym, ap, ◌∙◌, arith}
use Rattle.std.proofs.lemmas.Option.{slice_get-get_or}
use Rattle.thes_graph.proofs.UpperSetLemmas.{AreStarted-none, AreStarted-more}
use Rattle.thes_graph.proofs.upper_sets.start_block.Goals as goal

pub loop-j-init : goal.loop-j-init
loop-j-init c = AreStarted-none c.clear.new.self.items c.args.block.now c.clear.ensures.items

pub loop-j-preserved : goal.loop-j-preserved
loop-j-preserved c =
    AreStarted-more c.loop-j.words.items c.set_bits_of_node.new.words.items c.args.block.now c.loop-j.j
    c.index-block-j.result (omega arith)
    (slice_get-get_or c.args.block.now c.loop-j.j c.index-block-j.result c.loop-j-test.true
    ∙ ap (λ (n : ℕ). Some n) (sym c.index-block-j.is))
    c.in_ok-set_bits_of_node.ensures c.loop-j.invariant
