-- Proves which part of the outcomes of an import is written when the import ends.
use Rattle.std.proofs.Common.{◌≡◌, ◌⊎◌, ◌∙◌, ◌+◌, ◌<◌, ◌≤◌, ◌++◌, [], ℕ, List, refl, sym, ap, subst, inl, inr, length}
use Rattle.std.proofs.Common.{take, arith}
use Rattle.std.proofs.Common.{length-append}
use Rattle.std.proofs.Math.Seq.{take-append-add}
use Rattle.std.proofs.KnownBytes.{Appends-trans}
use Rattle.std.proofs.lemmas.Slice.Zip.{AllZip-long}
use Rattle.std.specs.Prelude.{Option, Result, Ok, Err, IfErr}
use Rattle.std.specs.Io.KnownBytes.{Appends}
use Rattle.thes_base.specs.Pipe.{AppendsPrefix, written_bytes}
use Rattle.thes_base.specs.declared.fault.Fault.{Fault as OfficeFault}
use Rattle.thes_base.specs.declared.fault.PipeFault.{PipeFault}
use Rattle.thes_base.specs.declared.fault.PipeFault.TheVariants.{Read, Write, TooLong, Fault}
use Rattle.thes_base.specs.declared.pipe.Pipe.{Pipe}
use Rattle.thes_office.specs.Office.{FaultBehaviour, OfficeView}
use Rattle.thes_store.specs.Causes.{max_failures}
use Rattle.thes_store.specs.Storage.{StorageView}
use Rattle.thes_import.specs.FileImport.{IsReportCut, IsWriterFault, PerformsFirst, StopsAfterRows, WritesPartOf}
use Rattle.thes_import.specs.FileImport.{WritesWhole}
use Rattle.thes_import.specs.Imports.{ImportsBlock, PerformsWith}
use Rattle.thes_posting_files.specs.Outcomes.{IsOutcome, counts_of, outcome_lines, outcomes_text}
use Rattle.thes_posting_files.specs.PostingFile.{IsPostingFile}
use Rattle.thes_posting_files.specs.declared.csv_row.CsvRow.{CsvRow}
use Rattle.thes_import.specs.declared.import.ImportStop.{ImportStop}
use Rattle.thes_posting_files.specs.declared.outcome.Outcome.{Outcome}
use Rattle.thes_posting_files.specs.declared.reading.RowReader.{RowReader}
use Rattle.thes_posting_files.specs.declared.report.Report.{Report}
use Rattle.thes_import.proofs.ImportLemmas.{ImportInvariant, halted_in, importing_more}
use Rattle.thes_posting_files.proofs.ReportLemmas.{text_of_more}
use Rattle.thes_posting_files.proofs.RowReadingLemmas.{rows_left}

module _ {W : Type 0} (contents : W → Option (List ℕ)) where
  -- If a prefix of the heading was written, that is part of the report of no outcomes.
  pub heading_cut : (old new : Pipe W)
      → AppendsPrefix (written_bytes contents old) (written_bytes contents new) (outcomes_text [])
      → WritesPartOf contents old new []
  heading_cut old new cut = record {
    outcomes_written = [];
    outcomes_lost = [];
    all = refl;
    few = omega arith;
    count = cut.count;
    least = inl refl;
    is_short = cut.within;
    prefix = cut.front;
  }

  -- If a prefix of a block's lines was written after all earlier lines, part of the text of all outcomes was written.
  pub block_cut : (old mid new : Pipe W) (outcomes_written outcomes_lost : List Outcome) (lines : List ℕ)
      → Appends (written_bytes contents old) (written_bytes contents mid) (outcomes_text outcomes_written)
      → AppendsPrefix (written_bytes contents mid) (written_bytes contents new) lines
      → lines ≡ outcome_lines (1 + length outcomes_written) outcomes_lost → length outcomes_lost ≤ 1000
      → WritesPartOf contents old new (outcomes_written ++ outcomes_lost)
  block_cut old mid new outcomes_written outcomes_lost lines appends_text cut is few =
      let text : outcomes_text (outcomes_written ++ outcomes_lost) ≡ outcomes_text outcomes_written ++ lines =
      text_of_more outcomes_written outcomes_lost ∙ ap (λ (l : List ℕ). outcomes_text outcomes_written ++ l) (sym is) in
      let size = ap (λ (l : List ℕ). length l) text ∙ length-append (outcomes_text outcomes_written) lines in
      let part = take-append-add (outcomes_text outcomes_written) lines cut.count
      in
      record {
        outcomes_written = outcomes_written;
        outcomes_lost = outcomes_lost;
        all = refl;
        few = few;
        count = length (outcomes_text outcomes_written) + cut.count;
        least = inr (omega arith);
        is_short = omega (arith, size, cut.within);
        prefix = subst (Appends (written_bytes contents old) (written_bytes contents new))
            (sym part ∙ ap (take (length (outcomes_text outcomes_written) + cut.count)) (sym text))
            (Appends-trans (written_bytes contents old) (written_bytes contents mid) (written_bytes contents new)
            (outcomes_text outcomes_written) (take cut.count lines) appends_text cut.front);
      }

  -- After all earlier lines, the lines of a block complete the text of all outcomes.
  pub block_whole : (old mid new : Pipe W) (outcomes_written more : List Outcome) (lines : List ℕ)
      → Appends (written_bytes contents old) (written_bytes contents mid) (outcomes_text outcomes_written)
      → WritesWhole contents mid new lines → lines ≡ outcome_lines (1 + length outcomes_written) more
      → Appends (written_bytes contents old) (written_bytes contents new) (outcomes_text (outcomes_written ++ more))
  block_whole old mid new outcomes_written more lines appends_text whole is =
      subst (Appends (written_bytes contents old) (written_bytes contents new))
      (ap (λ (l : List ℕ). outcomes_text outcomes_written ++ l) is ∙ sym (text_of_more outcomes_written more))
      (Appends-trans (written_bytes contents old) (written_bytes contents mid) (written_bytes contents new)
      (outcomes_text outcomes_written) lines appends_text whole.appends_text)

  module _ {K : Type 0} (view : K → StorageView) where
    -- A fault of the writer ends the import.
    pub stopped_by_writer : (old new : Pipe W) (before after : OfficeView K) (file : List ℕ) (outcomes : List Outcome)
        (others : List CsvRow) (result : Result (Unit {0}) OfficeFault) (fault : PipeFault)
        → IfErr result (λ f. 1 ≤ length others)
        → PerformsFirst contents view old new before after file outcomes others result
        → IsWriterFault contents old new fault → WritesPartOf contents old new outcomes
        → StopsAfterRows contents view old new before after file outcomes fault
    stopped_by_writer old new before after file outcomes others result Read some first cause writes = absurd cause
    stopped_by_writer old new before after file outcomes others result Write some first cause writes =
        record { others = others; result = result; some = some; first = first; cause = cause; writes = writes }
    stopped_by_writer old new before after file outcomes others result TooLong some first cause writes =
        record { others = others; result = result; some = some; first = first; cause = cause; writes = writes }
    stopped_by_writer old new before after file outcomes others result (Fault f) some first cause writes = absurd cause

    -- If no earlier block ended with a fault, the faults of the import are those of its last block.
    pub faults_of_last : (old mid new : OfficeView K) (result : Result (Unit {0}) OfficeFault)
        → mid.limits ≡ old.limits → ((view mid.keeper).is_up → (view old.keeper).is_up) → (view mid.keeper).failures
        ≡ (view old.keeper).failures
        → FaultBehaviour view mid new result → FaultBehaviour view old new result
    faults_of_last old mid new (Ok done) limits was count fb = record {
      limits = fb.limits ∙ limits;
      was = λ up. was (fb.was up);
      later = omega (arith, count, fb.later);
      count = fb.count ∙ count;
      store = tt;
      other_faults = tt;
      stale = tt;
      fault = λ up. tt;
    }
    faults_of_last old mid new (Err fault) limits was count fb = record {
      limits = fb.limits ∙ limits;
      was = λ up. was (fb.was up);
      later = omega (arith, count, fb.later);
      count = tt;
      store = λ e. go (fb.store e);
      other_faults = λ other. fb.other_faults other ∙ count;
      stale = fb.stale;
      fault = fb.fault;
    }
      where
        go : ((view mid.keeper).failures < (view new.keeper).failures) ⊎ ((view mid.keeper).failures ≡ max_failures)
            → ((view old.keeper).failures < (view new.keeper).failures) ⊎ ((view old.keeper).failures ≡ max_failures)
        go (inl more) = inl (omega (arith, more, count))
        go (inr most) = inr (sym count ∙ most)

    -- An office that hasn't performed any row has had no fault.
    pub no_faults : (office : OfficeView K) → FaultBehaviour view office office
        (let x : Result (Unit {0}) OfficeFault = Ok tt in x)
    no_faults office = record {
      limits = refl;
      was = λ up. up;
      later = omega arith;
      count = refl;
      store = tt;
      other_faults = tt;
      stale = tt;
      fault = λ up. tt;
    }

    few_outcomes : (old new : OfficeView K) (rows : List CsvRow) (outcomes : List Outcome)
        → PerformsWith view old rows outcomes new → length rows ≤ 1000 → length outcomes ≤ 1000
    few_outcomes old new rows outcomes performs few =
        let n = AllZip-long IsOutcome rows outcomes performs.each in omega (arith, n, few)

    -- A fault of the writer within the outcomes of a block ends the import.
    pub stopped_in_block : (w0 w1 w2 : Pipe W) (old mid new : OfficeView K) (file : List ℕ) (reader reader' : RowReader)
        (report report' : Report) (result : Result (Unit {0}) OfficeFault) (stopped : ImportStop)
        (so_far : ImportInvariant view old mid file reader report.counts) → report.text.items ≡ []
        → Appends (written_bytes contents w0) (written_bytes contents w1) (outcomes_text so_far.outcomes)
        → FaultBehaviour view mid new result
        → ImportsBlock view mid reader report result report' reader' new
        → (stopped.counts ≡ report'.counts) × IsReportCut contents w1 w2 report'.text.items stopped.fault
        → IsWriterFault contents w0 w2 stopped.fault
        → (outcomes : List Outcome) × (stopped.counts ≡ counts_of outcomes)
        × StopsAfterRows contents view w0 w2 old new file outcomes stopped.fault
    stopped_in_block w0 w1 w2 old mid new file reader reader' report report' (Ok done) stopped so_far cleared
        appends_text fb block e cause =
        let more = importing_more view old mid new file reader reader' report report' so_far fb block in
        let o = rows_left file more.rows more.first reader' more.reads in
        let adds = block.reports so_far.outcomes so_far.counts in
        let lines : report'.text.items ≡ outcome_lines (1 + length so_far.outcomes) block.outcomes =
        adds.1 ∙ ap (λ (l : List ℕ). l ++ outcome_lines (1 + length so_far.outcomes) block.outcomes) cleared in (
          so_far.outcomes ++ block.outcomes,
          e.0 ∙ adds.0,
          stopped_by_writer w0 w2 old new file (so_far.outcomes ++ block.outcomes) o.others (Ok done) stopped.fault
              tt
              (record {
                rows = more.first;
                is_file = subst (IsPostingFile file) o.all more.reads.file;
                performs = more.performs;
                fault_behaviour = faults_of_last old mid new (Ok done) so_far.limits so_far.was so_far.count fb;
              }) cause
              (block_cut w0 w1 w2 so_far.outcomes block.outcomes report'.text.items appends_text e.1.0 lines
              (few_outcomes mid new block.rows block.outcomes block.performs block.few)),
        )
    stopped_in_block w0 w1 w2 old mid new file reader reader' report report' (Err fault) stopped so_far cleared
        appends_text fb stop e cause =
        let halt = halted_in view old mid new file reader report report' fault so_far fb stop in
        let adds = stop.reports so_far.outcomes so_far.counts in
        let lines : report'.text.items ≡ outcome_lines (1 + length so_far.outcomes) stop.outcomes =
        adds.1 ∙ ap (λ (l : List ℕ). l ++ outcome_lines (1 + length so_far.outcomes) stop.outcomes) cleared in (
          so_far.outcomes ++ stop.outcomes,
          e.0 ∙ adds.0,
          stopped_by_writer w0 w2 old new file (so_far.outcomes ++ stop.outcomes) halt.others (Err fault) stopped.fault
              (omega (arith, halt.some))
              (record {
                rows = halt.first;
                is_file = halt.is_file;
                performs = halt.performs;
                fault_behaviour = faults_of_last old mid new (Err fault) so_far.limits so_far.was so_far.count fb;
              }) cause
              (block_cut w0 w1 w2 so_far.outcomes stop.outcomes report'.text.items appends_text e.1.0 lines
              (few_outcomes mid new stop.rows stop.outcomes stop.performs stop.few)),
        )
