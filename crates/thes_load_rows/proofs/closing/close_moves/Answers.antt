use Rattle.std.proofs.Common.{◌∙◌}
use Rattle.thes_load_rows.proofs.LoadResultLemmas.{move_good, move_bad}
use Rattle.thes_load_rows.proofs.closing.close_moves.Goals as goal

pub returns-then-close : goal.returns-then-close
returns-then-close c = λ raw h.
    move_good c.args.linked_vocab c.args.placed c.args.load c.close.result
    (λ rs ps rows has are. c.close.ensures rs ps rows has (c.as_slice.ensures.value ∙ are)) raw c.if-close.true
    c.close-book.result c.close-book.ensures h

pub returns-else-close : goal.returns-else-close
returns-else-close c = λ raw h.
    move_bad c.args.linked_vocab c.args.placed c.args.load c.close.result
    (λ rs ps rows has are. c.close.ensures rs ps rows has (c.as_slice.ensures.value ∙ are)) raw c.if-close.false h
