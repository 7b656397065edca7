use Rattle.std.proofs.Common.{◌≡◌, ◌≤◌, ◌<◌, ℕ, true, get_or, length}
use Rattle.std.proofs.Math.Dec.{ltb}
use Rattle.thes_graph.specs.declared.sided_links.SidedLink.{SidedLink}
use Rattle.thes_graph.proofs.PartLemmas.{number_of}
use Rattle.thes_graph.proofs.sided_links.count_before.Given as goal

-- The links so far pass the test.
abbrev pub invariant-loop-i : goal.invariant-loop-i
invariant-loop-i l = record {
  pass : (k : ℕ) (d : SidedLink) → k < l.i → ltb (number_of (get_or l.row k d)) l.number ≡ true;
  within : l.i ≤ length l.row;
}
