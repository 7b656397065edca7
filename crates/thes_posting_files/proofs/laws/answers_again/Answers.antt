use Rattle.thes_posting_files.proofs.RepeatedPostLemmas.{answers_again}
use Rattle.thes_posting_files.proofs.laws.answers_again.Goals as goal

pub returns : goal.returns
returns c setting s mid t u key rec concept n a b row_outcome first commands answers run legal second =
    answers_again setting s mid t u key rec concept n a b commands answers row_outcome first run legal.postings second
