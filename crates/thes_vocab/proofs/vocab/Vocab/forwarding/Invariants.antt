use Rattle.std.proofs.Common.{◌≡◌, ◌+◌, length}
use Rattle.thes_base.specs.Resources.{replacements}
use Rattle.thes_base.specs.Postings.{path_end}
use Rattle.thes_vocab.proofs.ForwardingLemmas.{remaining_replacements}
use Rattle.thes_vocab.proofs.vocab.Vocab.forwarding.Given as goal

-- The remaining chain ends where the whole chain from the concept ends. Its length and the steps so far add up to the
-- length of the whole chain.
abbrev pub invariant-loop-steps : goal.invariant-loop-steps
invariant-loop-steps l =
    let rest = remaining_replacements l.self.resources l.steps l.place in
    let whole = replacements l.self.resources l.fn.concept in
    (path_end l.place rest ≡ path_end l.fn.concept whole) × (l.steps + length rest ≡ length whole)
