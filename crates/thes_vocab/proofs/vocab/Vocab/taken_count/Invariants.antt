use Rattle.std.proofs.Common.{◌≡◌, ◌≤◌, take, length}
use Rattle.std.specs.Prelude.{filter}
use Rattle.thes_vocab.specs.CopiedLabels.{lacks_name}
use Rattle.thes_vocab.proofs.vocab.Vocab.taken_count.Given as goal

abbrev pub invariant-loop-label : goal.invariant-loop-label
invariant-loop-label l =
    record {
      few : l.count ≤ l.label-index;
      counted : l.count
          ≡ length (filter (lacks_name l.self.labels l.target) (take l.label-index l.label-items));
    }
