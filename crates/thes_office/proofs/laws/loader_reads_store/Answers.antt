use Rattle.thes_office.proofs.StoreFeedLemmas.{loader_reads_all}
use Rattle.thes_office.proofs.laws.loader_reads_store.Goals as goal

pub returns : goal.returns
returns c = loader_reads_all
