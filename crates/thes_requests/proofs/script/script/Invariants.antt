use Rattle.std.proofs.Common.{◌≡◌, ◌≤◌, ◌-◌, false, true}
use Rattle.thes_base.specs.Pipe.{IsFresh, failed_of, denied_of}
use Rattle.thes_base.proofs.PipeLemmas.{HasLeft}
use Rattle.thes_requests.specs.Script.{lines_limit, session}
use Rattle.thes_requests.specs.Serving.{Serves}
use Rattle.thes_requests.specs.ScriptSteps.{ScriptProgress}
use Rattle.thes_requests.proofs.script.script.Given as goal

abbrev pub invariant-loop-ended : goal.invariant-loop-ended
invariant-loop-ended g l = record {
  served : ScriptProgress g.R.Read.remaining g.W.Write.contents
      (Serves g.D.RequestHandler.requests)
      (session l.fn.reader l.fn.writer l.fn.handler) (session l.reader l.writer l.handler) l.lines.line_buffer
      l.lines.count l.ended;
  reader : (failed_of l.reader ≡ false) × (denied_of l.reader ≡ false);
  writer : IsFresh l.writer;
  stays_open : g.D.RequestHandler.is_open l.handler ≡ true;
  within : l.lines.count ≤ lines_limit;
  calls : HasLeft l.fn.reader l.reader l.fn.writer l.writer l.budget;
}

abbrev pub decreases-loop-ended : goal.decreases-loop-ended
decreases-loop-ended g l = lines_limit - l.lines.count
