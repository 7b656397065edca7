use Rattle.thes_sql.proofs.QueryTextLemmas.{links_is_query}
use Rattle.thes_sql.proofs.versions.has_links.Goals as goal

pub understands-requires : goal.understands-requires
understands-requires g c = links_is_query
