-- The invariant of a vocabulary.
use Rattle.std.specs.Prelude.{ℕ, List}
use Rattle.std.specs.Ordering.{nat_cmp}
use Rattle.thes_base.specs.declared.data.Resource.{Resource}
use Rattle.thes_base.specs.Resources.{Iris}
use Rattle.thes_base.specs.Labels.{Labels}
use Rattle.thes_base.specs.Legal.{AreLegalResources, AreLegalLabels}
use Rattle.thes_vocab.specs.Vocabulary.{IsConceptOf}
use Rattle.thes_vocab.specs.NameIndex.{AreHoldersIndexed}
use Rattle.thes_vocab.specs.declared.names.Names.{Names}
use Rattle.thes_lists.specs.declared.lists.Lists.{Lists}
use Rattle.thes_lists.specs.Lists.{AreListings}

-- The invariant of a vocabulary: its resources, IRIs and labels are legal, the index of preferred labels has an entry
-- for each such label of a live concept, and the other index lists exactly the live concepts of each scheme.
pub record IsConsistentVocabulary (base : List ℕ) (resources : List Resource) (iris : Iris) (labels : Labels)
    (names : Names) (concepts : Lists ℕ) : Type 0 where
  pub legal : AreLegalResources base resources iris
  pub named : AreLegalLabels resources labels
  pub found : AreHoldersIndexed resources labels names
  pub listed : AreListings nat_cmp (IsConceptOf resources) concepts
