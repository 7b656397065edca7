use Rattle.std.proofs.Common.{arith}
use Rattle.thes_sql.proofs.SchemaTextLemmas.{both_indexes}
use Rattle.thes_sql.proofs.create.define_indexes.Goals as goal

pub returns-clause-does : goal.returns-clause-does
returns-clause-does g c clean inside =
    let second = c.in_ok-try_index-2.ensures in
    let doubt = second.stays.1.clean in
    let first = c.in_ok-try_index.ensures.does (omega (arith, doubt, clean)) inside in
    both_indexes _ _ _ first (second.does clean first.inside)
