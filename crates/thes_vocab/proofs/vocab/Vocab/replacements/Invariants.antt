use Rattle.std.proofs.Common.{◌≡◌, ◌++◌}
use Rattle.thes_base.specs.Resources.{replacements}
use Rattle.thes_vocab.proofs.ForwardingLemmas.{remaining_replacements}
use Rattle.thes_vocab.proofs.vocab.Vocab.replacements.Given as goal

-- The replacements so far, followed by the remaining ones, are the whole chain of the concept.
abbrev pub invariant-loop : goal.invariant-loop
invariant-loop l = l.way.items ++ remaining_replacements l.self.resources l.counter l.place
    ≡ replacements l.self.resources l.fn.concept
