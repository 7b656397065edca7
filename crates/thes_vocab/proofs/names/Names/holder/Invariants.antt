use Rattle.std.proofs.Common.{◌≡◌, ℕ, map, true}
use Rattle.std.specs.List.{list_any}
use Rattle.std.specs.BTreeMap.{is_at}
use Rattle.std.specs.Map.Iter.{deref}
use Rattle.thes_vocab.specs.Vocabulary.{IsHolder}
use Rattle.thes_vocab.specs.NameIndex.{entry_cmp}
use Rattle.thes_vocab.proofs.names.Names.holder.Given as goal

-- None of the concepts of the entries read so far has the label.
abbrev pub invariant-loop-entry : goal.invariant-loop-entry
invariant-loop-entry l = (n : ℕ) → list_any (is_at (entry_cmp (l.digest, n))) (map deref l.yielded) ≡ true
    → IsHolder l.resources l.labels l.scheme l.name.tag.now l.name.text.now n → ⊥
