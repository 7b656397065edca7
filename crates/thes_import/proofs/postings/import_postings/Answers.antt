use Rattle.std.proofs.Common.{◌++◌, inr, refl}
use Rattle.thes_import.proofs.ImportLemmas.{all_read, counts_read, fewer_left, halted_in, importing_more}
use Rattle.thes_import.proofs.ImportLemmas.{importing_none, text_after}
use Rattle.thes_import.proofs.postings.import_postings.Goals as goal

pub loop-reader-init : goal.loop-reader-init
loop-reader-init g c =
    let reads = c.in-Ok.ensures.rows in
    record {
      so_far = importing_none g.K.Keeper.view c.args.office.now c.args.file.now
          reads.0 c.in-Ok.reader c.in-Ok-new.report.counts c.is_stale.ensures.shows reads.1 c.in-Ok-new.ensures.counts;
      text = c.in-Ok-new.ensures.text;
    }

pub import_block-requires-clause-counts : goal.import_block-requires-clause-counts
import_block-requires-clause-counts g c =
    counts_read g.K.Keeper.view c.args.office.now c.loop-reader.office
    c.args.file.now c.loop-reader.reader c.loop-reader.report.counts c.loop-reader.invariant.so_far

pub returns-in-Err-clause-imports : goal.returns-in-Err-clause-imports
returns-in-Err-clause-imports g c =
    let i = c.loop-reader.invariant in
    let stop = c.in-Err.ensures.imports in
    let halt = halted_in g.K.Keeper.view c.args.office.now c.loop-reader.office
    c.import_block.new.office c.args.file.now c.loop-reader.reader c.loop-reader.report c.import_block.new.report
    c.in-Err.fault i.so_far c.in-Err.ensures.fault_behaviour stop in
    inr (
      halt.first ++ halt.others,
      halt.is_file,
      record {
        first_rows = halt.first;
        other_rows = halt.others;
        all = refl;
        some = halt.some;
        imports = record {
          outcomes = i.so_far.outcomes ++ stop.outcomes;
          each = halt.performs.each;
          reports = record {
            text = text_after g.K.Keeper.view c.args.office.now c.loop-reader.office
                c.args.file.now c.loop-reader.reader c.loop-reader.report c.import_block.new.report stop.outcomes
                i.so_far stop.reports i.text;
            counts = let both = stop.reports i.so_far.outcomes i.so_far.counts in both.0;
          };
          performs = halt.performs.performs;
        };
      },
    )

pub loop-reader-preserved : goal.loop-reader-preserved
loop-reader-preserved g c =
    let i = c.loop-reader.invariant in
    let block = c.in_default-import_block.ensures.imports in
    record {
      so_far = importing_more g.K.Keeper.view c.args.office.now c.loop-reader.office
          c.import_block.new.office c.args.file.now c.loop-reader.reader c.import_block.new.reader c.loop-reader.report
          c.import_block.new.report i.so_far c.in_default-import_block.ensures.fault_behaviour block;
      text = text_after g.K.Keeper.view c.args.office.now c.loop-reader.office
          c.args.file.now c.loop-reader.reader c.loop-reader.report c.import_block.new.report block.outcomes i.so_far
          block.reports i.text;
    }

pub returns-clause-imports : goal.returns-clause-imports
returns-clause-imports g c =
    let i = c.loop-reader.invariant in (
      i.so_far.first,
      all_read g.K.Keeper.view c.args.office.now c.loop-reader.office c.args.file.now
          c.loop-reader.reader c.loop-reader.report.counts i.so_far c.loop-reader-test.false,
      record {
        outcomes = i.so_far.outcomes;
        each = i.so_far.performs.each;
        reports = record { text = i.text; counts = i.so_far.counts };
        performs = i.so_far.performs.performs;
      },
    )

pub loop-reader-smaller : goal.loop-reader-smaller
loop-reader-smaller g c =
    fewer_left g.K.Keeper.view c.args.office.now c.loop-reader.office c.import_block.new.office c.args.file.now
    c.loop-reader.reader c.import_block.new.reader c.loop-reader.report c.import_block.new.report
    c.loop-reader.invariant.so_far c.in_default-import_block.ensures.imports
