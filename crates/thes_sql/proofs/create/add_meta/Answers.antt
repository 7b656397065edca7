use Rattle.std.proofs.Common.{rules}
use Rattle.thes_sql.proofs.CreateStoreLemmas.{does_meta}
use Rattle.thes_sql.proofs.create.add_meta.Goals as goal

pub returns-clause-does : goal.returns-clause-does
returns-clause-does g c clean inside =
    does_meta c.args.base.now (search (rules, c.as_str.utf8)) _ _ _
    (rw (c.params-to_sql.ensures, c.params-to_sql-2.ensures, c.params-to_sql-3.ensures, c.as_str.ensures.text)
    at (c.execute.ensures.runs clean inside))
