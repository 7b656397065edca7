use Rattle.thes_posting_files.proofs.OneFileLemmas.{one_file}
use Rattle.thes_posting_files.proofs.laws.one_file.Goals as goal

pub returns : goal.returns
returns c = one_file
