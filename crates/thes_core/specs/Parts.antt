-- The parts of a core, and the state to which they belong.
use Rattle.std.specs.Prelude.{◌≡◌}
use Rattle.thes_base.specs.Links.{Links}
use Rattle.thes_base.specs.State.{State}
use Rattle.thes_post.specs.PostingCounts.{PostingCounts, ArePostingCounts}
use Rattle.thes_vocab.specs.Vocabulary.{Vocabulary}

-- The parts are those of the state: the vocabulary has its resources, IRIs and labels, the links are its links, and the
-- counts are those of its histories.
pub record ArePartsOf (s : State) (vocab : Vocabulary) (links : Links) (posting_counts : PostingCounts) : Type 0 where
  pub resources : vocab.resources ≡ s.resources
  pub iris : vocab.iris ≡ s.iris
  pub labels : vocab.labels ≡ s.labels
  pub links_are : links ≡ s.links
  pub posting_counts_are : ArePostingCounts s.histories posting_counts
