use Rattle.std.proofs.Common.{◌≡◌, ◌-◌, ◌^◌}
use Rattle.thes_posting_files.specs.Outcomes.{outcomes_text, row_count}
use Rattle.thes_import.proofs.ImportLemmas.{ImportInvariant}
use Rattle.thes_import.proofs.postings.import_postings.Given as goal

abbrev pub invariant-loop-reader : goal.invariant-loop-reader
invariant-loop-reader g l = record {
  so_far : ImportInvariant g.K.Keeper.view l.fn.office l.office l.fn.file l.reader
      l.report.counts;
  text : l.report.text.items ≡ outcomes_text so_far.outcomes;
}

abbrev pub decreases-loop-reader : goal.decreases-loop-reader
decreases-loop-reader g l = 2 ^ 64 - row_count l.report.counts
