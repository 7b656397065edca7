use Rattle.std.proofs.Common.{◌∙◌}
use Rattle.thes_store.proofs.IndexLookUpLemmas.{found_by_text}
use Rattle.thes_store.proofs.mem.row_of_key.Goals as goal

pub returns-in-None : goal.returns-in-None
returns-in-None c = λ leads.
    let number = c.position_by_digest.ensures in
    found_by_text c.args.keys.now c.args.rows.now c.args.key.now c.position_by_text.result c.row_with_key-in-None.result
    c.position_by_text.ensures leads
    (λ i row at. c.in-None.ensures.none i row (number ∙ at))
    c.row_with_key-in-None.ensures.some c.row_with_key-in-None.ensures.none
