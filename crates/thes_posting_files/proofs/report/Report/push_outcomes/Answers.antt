use Rattle.std.proofs.Common.{◌∙◌, ◌+◌, ◌++◌, ◌∷◌, [], List, ap, sym, append_assoc, arith, drop}
use Rattle.std.proofs.lemmas.List.{drop_more}
use Rattle.thes_posting_files.specs.Outcomes.{outcomes_of}
use Rattle.thes_posting_files.specs.declared.outcome.Outcome.{Outcome}
use Rattle.thes_posting_files.proofs.ReportLemmas.{adds_both}
use Rattle.thes_posting_files.proofs.report.Report.push_outcomes.Goals as goal

pub loop-fault-preserved : goal.loop-fault-preserved
loop-fault-preserved c =
    let i = c.loop-fault.invariant in
    let rest = outcomes_of (drop (c.loop-fault.fault-index + 1) c.args.faults.now) c.in-Some.rest.now in
    record {
      done = i.done ++ c.in-Some.outcome ∷ [];
      adds = adds_both i.done (c.in-Some.outcome ∷ []) c.args.self.now c.loop-fault.self c.push.new.self i.adds
          c.push.ensures.outcomes;
      all = i.all ∙ ap (λ (l : List Outcome). i.done ++ l)
          (ap (λ l. outcomes_of l c.loop-fault.unread.now)
          (drop_more c.args.faults.now c.loop-fault.fault-index _ c.loop-fault-test.true)
          ∙ c.in-Some.ensures.some (drop (c.loop-fault.fault-index + 1) c.args.faults.now))
          ∙ sym (append_assoc i.done (c.in-Some.outcome ∷ []) rest);
      count = omega (arith, c.push.ensures.rows, i.count);
      room = omega (arith, c.push.ensures.size, c.push.ensures.capacity, i.room, c.loop-fault-test.true);
    }
