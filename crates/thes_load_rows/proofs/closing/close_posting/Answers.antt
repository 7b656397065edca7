use Rattle.thes_load_rows.proofs.StageCloseLemmas.{posting_good}
use Rattle.thes_load_rows.proofs.closing.close_posting.Goals as goal

pub returns : goal.returns
returns c = posting_good c.args.linked_vocab c.args.load c.close-moves.result.0 c.close-moves.result.1
    c.close-moves.ensures
