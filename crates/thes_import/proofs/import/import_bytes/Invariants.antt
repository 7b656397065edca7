use Rattle.std.proofs.Common.{◌≡◌, ◌-◌, ◌^◌, []}
use Rattle.std.specs.Io.KnownBytes.{Appends}
use Rattle.thes_base.specs.Pipe.{IsFresh, PaysCalls, written_bytes}
use Rattle.thes_posting_files.specs.Outcomes.{outcomes_text, row_count}
use Rattle.thes_import.proofs.ImportLemmas.{ImportInvariant}
use Rattle.thes_import.proofs.import.import_bytes.Given as goal

abbrev pub invariant-loop-reader : goal.invariant-loop-reader
invariant-loop-reader g l = record {
  so_far : ImportInvariant g.K.Keeper.view l.fn.office l.office l.fn.file l.reader
      l.report.counts;
  cleared : l.report.text.items ≡ [];
  appends_text : Appends (written_bytes g.W.Write.contents l.fn.writer) (written_bytes g.W.Write.contents l.writer)
      (outcomes_text so_far.outcomes);
  fresh : IsFresh l.writer;
  paid : PaysCalls l.fn.writer l.writer l.fn.budget l.budget;
}

abbrev pub decreases-loop-reader : goal.decreases-loop-reader
decreases-loop-reader g l = 2 ^ 64 - row_count l.report.counts
