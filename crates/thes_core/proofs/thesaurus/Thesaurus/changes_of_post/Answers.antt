use Rattle.std.proofs.Common.{arith}
use Rattle.thes_core.proofs.ApplyLemmas.{post_fits, post_more}
use Rattle.thes_core.proofs.DeltaLemmas.{posted_changes}
use Rattle.thes_core.proofs.thesaurus.Thesaurus.changes_of_post.Goals as goal

pub returns : goal.returns
returns c = grind (arith, post_fits, post_more, posted_changes)
