use Rattle.std.proofs.Common.{◌≡◌, ◌∙◌, ◌+◌, ◌++◌, List, ℕ, [], ap, inr, length, subst, sym, arith, Ok, Err, append-nil}
use Rattle.std.proofs.Common.{rules}
use Rattle.std.specs.Io.KnownBytes.{Appends}
use Rattle.thes_base.specs.Pipe.{AppendsPrefix, written_bytes}
use Rattle.thes_import.specs.FileImport.{ImportsBytes}
use Rattle.thes_posting_files.specs.Outcomes.{outcome_lines, row_count}
use Rattle.thes_posting_files.specs.PostingFile.{IsPostingFile}
use Rattle.thes_import.proofs.BlockLemmas.{performs_nothing}
use Rattle.thes_import.proofs.ImportLemmas.{all_read, counts_read, fewer_left, halted_in, importing_more}
use Rattle.thes_import.proofs.ImportLemmas.{importing_none}
use Rattle.thes_import.proofs.WritingLemmas.{block_whole, faults_of_last, heading_cut, no_faults, stopped_by_writer}
use Rattle.thes_import.proofs.WritingLemmas.{stopped_in_block}
use Rattle.thes_import.proofs.import.import_bytes.Goals as goal

pub returns-in_err-write_report-clause-imports : goal.returns-in_err-write_report-clause-imports
returns-in_err-write_report-clause-imports g c =
    let e = c.in_err-write_report.ensures.stop in
    let reads = c.in-Ok.ensures.rows in
    let same : c.from_residual.result ≡ Err c.in_err-write_report.field-0.0 = search rules in
    subst (ImportsBytes g.W.Write.contents g.K.Keeper.view c.args.writer.now
    c.write_report.new.writer c.args.office.now c.args.office.now c.args.file.now) (sym same)
    (inr (
      [],
      e.0 ∙ c.in-Ok-new.ensures.counts,
      stopped_by_writer g.W.Write.contents g.K.Keeper.view c.args.writer.now
          c.write_report.new.writer c.args.office.now c.args.office.now c.args.file.now [] reads.0 (Ok tt) _ tt
          (record {
            rows = [];
            is_file = reads.1.file;
            performs = performs_nothing g.K.Keeper.view c.args.office.now c.is_stale.ensures.shows;
            fault_behaviour = no_faults g.W.Write.contents g.K.Keeper.view
                c.args.office.now;
          }) e.1.1
          (heading_cut g.W.Write.contents c.args.writer.now c.write_report.new.writer
          (subst (AppendsPrefix (written_bytes g.W.Write.contents c.args.writer.now)
          (written_bytes g.W.Write.contents c.write_report.new.writer)) c.in-Ok-new.ensures.text e.1.0)),
    ))

pub loop-reader-init : goal.loop-reader-init
loop-reader-init g c =
    let reads = c.in-Ok.ensures.rows in
    record {
      so_far = importing_none g.K.Keeper.view c.args.office.now c.args.file.now
          reads.0 c.in-Ok.reader c.write_report.new.report.counts c.is_stale.ensures.shows reads.1
          (c.write_report.ensures.counts ∙ c.in-Ok-new.ensures.counts);
      cleared = c.in_ok-write_report.ensures.empty;
      appends_text = subst (Appends (written_bytes g.W.Write.contents c.args.writer.now)
          (written_bytes g.W.Write.contents c.write_report.new.writer)) c.in-Ok-new.ensures.text
          c.in_ok-write_report.ensures.whole.appends_text;
      fresh = c.in_ok-write_report.ensures.fresh;
      paid = c.write_report.ensures.calls;
    }

pub import_block-done-requires-clause-counts : goal.import_block-done-requires-clause-counts
import_block-done-requires-clause-counts g c =
    counts_read g.K.Keeper.view c.args.office.now c.loop-reader.office
    c.args.file.now c.loop-reader.reader c.loop-reader.report.counts c.loop-reader.invariant.so_far

pub returns-in_err-write_report-2-clause-imports : goal.returns-in_err-write_report-2-clause-imports
returns-in_err-write_report-2-clause-imports g c =
    let i = c.loop-reader.invariant in
    let e = c.in_err-write_report-2.ensures.stop in
    let same : c.from_residual-in_err-write_report-2.result ≡ Err c.in_err-write_report-2.field-0.0 = search rules in
    subst (ImportsBytes g.W.Write.contents g.K.Keeper.view c.args.writer.now
    c.write_report-in-loop-reader.new.writer c.args.office.now c.import_block-done.new.office c.args.file.now)
    (sym same)
    (inr (stopped_in_block g.W.Write.contents g.K.Keeper.view c.args.writer.now
    c.loop-reader.writer c.write_report-in-loop-reader.new.writer c.args.office.now c.loop-reader.office
    c.import_block-done.new.office c.args.file.now c.loop-reader.reader c.import_block-done.new.reader
    c.loop-reader.report c.import_block-done.new.report c.import_block-done.result c.in_err-write_report-2.field-0.0
    i.so_far i.cleared i.appends_text c.import_block-done.ensures.fault_behaviour c.import_block-done.ensures.imports e
    e.1.1))

pub returns-in-Err-clause-imports : goal.returns-in-Err-clause-imports
returns-in-Err-clause-imports g c =
    let i = c.loop-reader.invariant in
    let stop = c.in-Err.ensures.imports in
    let halt = halted_in g.K.Keeper.view c.args.office.now c.loop-reader.office
    c.import_block-done.new.office c.args.file.now c.loop-reader.reader c.loop-reader.report
    c.import_block-done.new.report c.in-Err.fault i.so_far c.in-Err.ensures.fault_behaviour stop in
    let adds = stop.reports i.so_far.outcomes i.so_far.counts in
    let lines = adds.1
    ∙ ap (λ (l : List ℕ). l ++ outcome_lines (1 + length i.so_far.outcomes) stop.outcomes) i.cleared in
    let whole = c.in_ok-write_report-2.ensures.whole in
    inr (
      i.so_far.outcomes ++ stop.outcomes,
      c.write_report-in-loop-reader.ensures.counts ∙ adds.0,
      record {
        others = halt.others;
        some = omega (arith, halt.some);
        first = record {
          rows = halt.first;
          is_file = halt.is_file;
          performs = halt.performs;
          fault_behaviour = faults_of_last g.W.Write.contents g.K.Keeper.view
              c.args.office.now c.loop-reader.office c.import_block-done.new.office _ i.so_far.limits i.so_far.was
              i.so_far.count c.in-Err.ensures.fault_behaviour;
        };
        writes = record {
          appends_text = block_whole g.W.Write.contents c.args.writer.now c.loop-reader.writer
              c.write_report-in-loop-reader.new.writer
              i.so_far.outcomes stop.outcomes c.import_block-done.new.report.text.items i.appends_text whole lines;
          not_failed = whole.not_failed;
        };
      },
    )

pub loop-reader-preserved : goal.loop-reader-preserved
loop-reader-preserved g c =
    let i = c.loop-reader.invariant in
    let block = c.in_default-done.ensures.imports in
    let more = importing_more g.K.Keeper.view c.args.office.now c.loop-reader.office
    c.import_block-done.new.office c.args.file.now c.loop-reader.reader c.import_block-done.new.reader
    c.loop-reader.report c.import_block-done.new.report i.so_far c.in_default-done.ensures.fault_behaviour block in
    let adds = block.reports i.so_far.outcomes i.so_far.counts in
    let lines = adds.1
    ∙ ap (λ (l : List ℕ). l ++ outcome_lines (1 + length i.so_far.outcomes) block.outcomes) i.cleared in
    record {
      so_far = record {
        limits = more.limits;
        was = more.was;
        count = more.count;
        rows = more.rows;
        first = more.first;
        outcomes = more.outcomes;
        reads = more.reads;
        performs = more.performs;
        counts = c.write_report-in-loop-reader.ensures.counts ∙ more.counts;
      };
      cleared = c.in_ok-write_report-2.ensures.empty;
      appends_text = block_whole g.W.Write.contents c.args.writer.now c.loop-reader.writer
          c.write_report-in-loop-reader.new.writer
          i.so_far.outcomes block.outcomes c.import_block-done.new.report.text.items i.appends_text
          c.in_ok-write_report-2.ensures.whole lines;
      fresh = c.in_ok-write_report-2.ensures.fresh;
      paid = search rules;
    }

pub loop-reader-smaller : goal.loop-reader-smaller
loop-reader-smaller g c =
    let less = fewer_left g.K.Keeper.view c.args.office.now c.loop-reader.office c.import_block-done.new.office
    c.args.file.now c.loop-reader.reader c.import_block-done.new.reader c.loop-reader.report
    c.import_block-done.new.report c.loop-reader.invariant.so_far c.in_default-done.ensures.imports in
    let same = ap row_count c.write_report-in-loop-reader.ensures.counts in
    omega (arith, less, same)

pub returns-clause-imports : goal.returns-clause-imports
returns-clause-imports g c =
    let i = c.loop-reader.invariant in
    let file = all_read g.K.Keeper.view c.args.office.now c.loop-reader.office
    c.args.file.now c.loop-reader.reader c.loop-reader.report.counts i.so_far c.loop-reader-test.false in
    record {
      outcomes = i.so_far.outcomes;
      first = record {
        rows = i.so_far.first;
        is_file = subst (IsPostingFile c.args.file.now) (sym (append-nil i.so_far.first)) file;
        performs = i.so_far.performs;
        fault_behaviour = faults_of_last g.W.Write.contents g.K.Keeper.view
            c.args.office.now c.loop-reader.office c.loop-reader.office _ i.so_far.limits i.so_far.was i.so_far.count
            (no_faults g.W.Write.contents g.K.Keeper.view c.loop-reader.office);
      };
      counts_are = i.so_far.counts;
      writes = record { appends_text = i.appends_text; not_failed = i.fresh.0 };
    }
