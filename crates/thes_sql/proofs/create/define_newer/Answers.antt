use Rattle.std.proofs.lemmas.Grind.{common_steps}
use Rattle.std.proofs.Common.{arith}
use Rattle.thes_sql.proofs.SchemaTextLemmas.{newer_empty, newer_enlarged}
use Rattle.thes_sql.proofs.create.define_newer.Goals as goal

pub returns-clause-does : goal.returns-clause-does
returns-clause-does g c = grind (arith, common_steps, newer_empty)

pub returns-clause-renews : goal.returns-clause-renews
returns-clause-renews g c clean inside =
    let second = c.in_ok-define_indexes.ensures in
    let doubt = second.stays.1.clean in
    let first = c.in_ok-define_hier.ensures.does (omega (arith, doubt, clean)) inside in
    newer_enlarged _ _ _ first (second.does clean first.inside)
