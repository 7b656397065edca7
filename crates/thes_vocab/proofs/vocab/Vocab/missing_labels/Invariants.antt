use Rattle.std.proofs.Common.{◌≡◌, take, map}
use Rattle.std.specs.Prelude.{filter}
use Rattle.thes_vocab.specs.CopiedLabels.{lacks_name, merged_label}
use Rattle.thes_vocab.proofs.vocab.Vocab.missing_labels.Given as goal

abbrev pub invariant-loop-label : goal.invariant-loop-label
invariant-loop-label l = l.copies.items
    ≡ map merged_label (filter (lacks_name l.self.labels l.target) (take l.label-index l.label-items))
