use Rattle.std.proofs.Common.{◌≡◌, take, true}
use Rattle.thes_base.specs.Data.{LabelData}
use Rattle.thes_vocab.specs.NameIndex.{HasLabelEntry, KeepsNames}
use Rattle.thes_vocab.specs.OwnLabels.{has_own}
use Rattle.thes_vocab.specs.Vocabulary.{concept_scheme}
use Rattle.thes_vocab.proofs.names.Names.put_all.Given as goal

-- The labels read so far have their entries, and no entry is lost.
abbrev pub invariant-loop-label : goal.invariant-loop-label
invariant-loop-label l = record {
  keeps : KeepsNames l.fn.self l.self;
  put : (d : LabelData) → has_own (take l.label-index l.own) d ≡ true → HasLabelEntry l.self
      (concept_scheme l.resource) d l.n;
}
