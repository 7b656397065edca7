use Rattle.std.proofs.Common.{◌≡◌, ◌≤◌, ◌+◌, ◌-◌, ◌*◌, ◌++◌, List, drop, length, vec_len}
use Rattle.std.specs.Vec.{vec_capacity}
use Rattle.thes_posting_files.specs.Outcomes.{AddsOutcomes, outcomes_of, row_count}
use Rattle.thes_posting_files.specs.declared.outcome.Outcome.{Outcome}
use Rattle.thes_posting_files.proofs.report.Report.push_outcomes.Given as goal

abbrev pub invariant-loop-fault : goal.invariant-loop-fault
invariant-loop-fault l = record {
  done : List Outcome;
  adds : AddsOutcomes done l.fn.self l.self;
  all : outcomes_of l.faults l.fn.answers ≡ done ++ outcomes_of (drop l.fault-index l.faults) l.unread;
  count : row_count l.self.counts ≡ row_count l.fn.self.counts + l.fault-index;
  room : vec_len l.self.text + 64 * (length l.faults - l.fault-index) ≤ vec_capacity l.self.text;
}
