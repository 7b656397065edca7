use Rattle.thes_sql.proofs.QueryTextLemmas.{hier_is_query}
use Rattle.thes_sql.proofs.versions.has_hier.Goals as goal

pub understands-requires : goal.understands-requires
understands-requires g c = hier_is_query
