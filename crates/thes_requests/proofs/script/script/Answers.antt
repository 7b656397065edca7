use Rattle.std.proofs.Common.{rules, ◌≡◌, ◌≢◌, ◌<◌, arith, false, true}
use Rattle.std.proofs.lemmas.Result.{err_from_is_err_and}
use Rattle.thes_base.proofs.PipeLemmas.{all_left, left_after_reads, left_after_writes, keeps_to_limit}
use Rattle.thes_base.specs.Pipe.{ended_of, failed_of}
use Rattle.thes_requests.specs.LineBuffer.{line_content}
use Rattle.thes_requests.specs.Script.{lines_limit}
use Rattle.thes_requests.specs.Serving.{Serves}
use Rattle.thes_requests.specs.declared.line_buffer.LineSearch.TheVariants.{End}
use Rattle.thes_requests.proofs.ScriptLemmas.{progress_start, progress_line, completes_after_last, completes_at_end}
use Rattle.thes_requests.proofs.ScriptLemmas.{stops_at_line, stops_at_read, stops_before_lines}
use Rattle.thes_requests.proofs.script.script.Goals as goal

pub returns-in_err-lines-clause-ends : goal.returns-in_err-lines-clause-ends
returns-in_err-lines-clause-ends g c =
    let p = err_from_is_err_and c.from_residual.result c.from_residual.ensures.1 in
    rw (p.1, p.2) (stops_before_lines g.R.Read.remaining g.W.Write.contents
    (Serves g.D.RequestHandler.requests) g.D.RequestHandler.is_open
    c.args.reader.now c.args.writer.now c.args.handler.now c.requires.fresh.reader.0 c.requires.fresh.writer.0)

pub loop-ended-init : goal.loop-ended-init
loop-ended-init g c = let fresh = c.in_ok-lines.ensures in record {
  served = progress_start g.R.Read.remaining g.W.Write.contents
      (Serves g.D.RequestHandler.requests) g.D.RequestHandler.is_open
      c.args.reader.now c.args.writer.now c.args.handler.now c.in_ok-lines.lines.line_buffer c.in_ok-lines.lines.count
      c.new-ended.result c.requires.fresh.reader.1 fresh.0 fresh.1 c.new-ended.ensures;
  reader = search rules;
  writer = search rules;
  stays_open = search rules;
  within = omega (arith, fresh.1);
  calls = all_left c.args.reader.now c.args.writer.now c.new-budget.result c.new-budget.ensures;
}

pub returns-in-Err-clause-ends : goal.returns-in-Err-clause-ends
returns-in-Err-clause-ends g c =
    let goes : ended_of c.loop-ended.reader ≡ false = search rules in
    rw c.reader_fault.ensures (stops_at_read g.R.Read.remaining g.W.Write.contents
    (Serves g.D.RequestHandler.requests) g.D.RequestHandler.is_open
    c.loop-ended.invariant.served c.next_line.new.reader c.next_line.new.self.line_buffer c.in-Err.stop goes
    c.in-Err.ensures.finds.stops c.in-Err.ensures.frame c.loop-ended.invariant.writer.0)

pub returns-in-Err-clause-calls : goal.returns-in-Err-clause-calls
returns-in-Err-clause-calls g c =
    keeps_to_limit (left_after_reads c.loop-ended.invariant.calls c.in-Err.ensures.frame.calls)

pub returns-then-eq-clause-ends : goal.returns-then-eq-clause-ends
returns-then-eq-clause-ends g c =
    let at_end : c.in-Ok.found ≡ End = search rules in
    let fine : failed_of c.next_line.new.reader ≡ false = search rules in
    completes_at_end g.R.Read.remaining g.W.Write.contents
    (Serves g.D.RequestHandler.requests) g.D.RequestHandler.is_open
    c.loop-ended.invariant.served c.next_line.new.reader c.next_line.new.self.line_buffer
    (c.in-Ok.ensures.finds.found.end at_end) fine
    c.loop-ended.invariant.writer.0 c.loop-ended.invariant.stays_open

pub returns-then-eq-clause-calls : goal.returns-then-eq-clause-calls
returns-then-eq-clause-calls g c =
    keeps_to_limit (left_after_reads c.loop-ended.invariant.calls c.in-Ok.ensures.frame.calls)

pub loop-ended-preserved : goal.loop-ended-preserved
loop-ended-preserved g c =
    let goes : ended_of c.loop-ended.reader ≡ false = search rules in
    let some : c.in-Ok.found ≢ End = search rules in
    let taken = c.in-Ok.ensures.finds.found.line some in
    let count = c.in-Ok.ensures.finds.count some in
    let few : c.loop-ended.lines.count < lines_limit = omega (arith, count.0, count.1) in
    let step =
    c.serve_line-outcome.ensures (line_content taken.0 (ended_of c.next_line.new.reader))
    (λ h. rw c.deref.ensures.value (taken.2 h)) in
    let written = c.in_ok-write_outcome.ensures.ok in record {
      served =
          rw count.0 (progress_line g.R.Read.remaining g.W.Write.contents
          (Serves g.D.RequestHandler.requests) g.D.RequestHandler.is_open
          c.loop-ended.invariant.served
          c.next_line.new.reader c.write_outcome.new.writer c.serve_line-outcome.new.handler
          c.next_line.new.self.line_buffer c.write_outcome.new.ended taken.0 c.serve_line-outcome.result goes few
          taken.1 step written);
      reader = search rules;
      writer = written.fresh;
      stays_open = written.stays_open;
      within = count.1;
      calls = left_after_writes (left_after_reads c.loop-ended.invariant.calls c.in-Ok.ensures.frame.calls)
          c.in_ok-write_outcome.ensures.paid;
    }

pub returns-in_err-write_outcome-clause-ends : goal.returns-in_err-write_outcome-clause-ends
returns-in_err-write_outcome-clause-ends g c =
    let goes : ended_of c.loop-ended.reader ≡ false = search rules in
    let some : c.in-Ok.found ≢ End = search rules in
    let fine : failed_of c.next_line.new.reader ≡ false = search rules in
    let taken = c.in-Ok.ensures.finds.found.line some in
    let count = c.in-Ok.ensures.finds.count some in
    let few : c.loop-ended.lines.count < lines_limit = omega (arith, count.0, count.1) in
    let p = err_from_is_err_and c.from_residual-in_err-write_outcome.result
    c.from_residual-in_err-write_outcome.ensures.1 in
    rw (p.1, p.2) (stops_at_line g.R.Read.remaining g.W.Write.contents
    (Serves g.D.RequestHandler.requests) g.D.RequestHandler.is_open
    c.loop-ended.invariant.served c.next_line.new.reader c.write_outcome.new.writer c.serve_line-outcome.new.handler
    c.next_line.new.self.line_buffer _ taken.0 c.serve_line-outcome.result goes few taken.1 fine
    (c.serve_line-outcome.ensures (line_content taken.0 (ended_of c.next_line.new.reader))
    (λ h. rw c.deref.ensures.value (taken.2 h)))
    c.in_err-write_outcome.ensures.stopped)

pub returns-in_err-write_outcome-clause-calls : goal.returns-in_err-write_outcome-clause-calls
returns-in_err-write_outcome-clause-calls g c =
    keeps_to_limit (left_after_writes (left_after_reads c.loop-ended.invariant.calls c.in-Ok.ensures.frame.calls)
    c.in_err-write_outcome.ensures.paid)

pub returns-clause-ends : goal.returns-clause-ends
returns-clause-ends g c =
    let at_end : ended_of c.loop-ended.reader ≡ true = search rules in
    completes_after_last g.R.Read.remaining g.W.Write.contents
    (Serves g.D.RequestHandler.requests) g.D.RequestHandler.is_open
    c.loop-ended.invariant.served at_end c.loop-ended.invariant.reader.0 c.loop-ended.invariant.writer.0
    c.loop-ended.invariant.stays_open
