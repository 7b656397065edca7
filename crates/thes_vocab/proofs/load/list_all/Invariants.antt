use Rattle.std.specs.Prelude.{take}
use Rattle.std.specs.Ordering.{nat_cmp}
use Rattle.thes_lists.specs.Lists.{AreListings}
use Rattle.thes_vocab.specs.Vocabulary.{IsConceptOf}
use Rattle.thes_vocab.proofs.load.list_all.Given as goal

-- The index has exactly the live concepts among the resources read so far.
abbrev pub invariant-loop-i : goal.invariant-loop-i
invariant-loop-i l = AreListings nat_cmp (IsConceptOf (take l.i l.resources)) l.concepts
