use Rattle.std.proofs.Common.{sym, rules}
use Rattle.thes_store.proofs.CoverLemmas.{get_in}
use Rattle.thes_store.proofs.mem.row_with_key.Goals as goal

pub returns-then-eq-clause-some : goal.returns-then-eq-clause-some
returns-then-eq-clause-some c =
    (get_in c.args.rows.now c.in_ok-position.field-0 c.in_ok-row.row.now (sym c.in_ok-row.ensures), search rules)
