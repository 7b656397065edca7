-- Proves the invariant of an import: the rows performed so far are a run of the machine, with the outcomes reported.
use Rattle.std.proofs.Common.{◌≡◌, ◌∙◌, ◌+◌, ◌<◌, ◌^◌, ◌++◌, ◌∷◌, [], ℕ, List, refl, sym, ap, subst, length}
use Rattle.std.proofs.Common.{◌-◌, append-nil, arith, false, length-append}
use Rattle.std.specs.Prelude.{Result, Ok, Err}
use Rattle.std.specs.List.{AllByRecursion, AllZip}
use Rattle.std.proofs.lemmas.List.Elements.{filter_map-append}
use Rattle.std.proofs.lemmas.Slice.Zip.{AllZip-long}
use Rattle.thes_base.specs.declared.data.Limits.{Limits}
use Rattle.thes_base.specs.declared.fault.Fault.{Fault}
use Rattle.thes_base.specs.declared.request.Answer.{Answer}
use Rattle.thes_base.specs.declared.request.Command.{Command}
use Rattle.thes_tables.specs.Cells.{Raw}
use Rattle.thes_store.specs.Storage.{StorageView}
use Rattle.thes_office.specs.Office.{ChangesNothing, FaultBehaviour, OfficeView, TablesAfterRun}
use Rattle.thes_office.proofs.OfficeViewLemmas.{all_parts, run_of_more}
use Rattle.thes_import.specs.Imports.{CountsRowsRead, PerformsRows, PerformsWith, ReportsBlock, StopsInBlock}
use Rattle.thes_posting_files.specs.Outcomes.{AddsOutcomes, IsOutcome, answer_in, answers_of, counts_of, outcome_lines}
use Rattle.thes_posting_files.specs.Outcomes.{outcomes_text, post_in, posts_of, row_count}
use Rattle.thes_posting_files.specs.PostingFile.{IsPostingFile}
use Rattle.thes_posting_files.specs.RowReading.{HasReadRows}
use Rattle.thes_posting_files.specs.declared.csv_row.CsvRow.{CsvRow}
use Rattle.thes_posting_files.specs.declared.outcome.Outcome.{Outcome}
use Rattle.thes_posting_files.specs.declared.reading.RowReader.{RowReader}
use Rattle.thes_posting_files.specs.declared.report.Counts.{Counts}
use Rattle.thes_posting_files.specs.declared.report.Report.{Report}
use Rattle.thes_import.proofs.BlockLemmas.{ShowsState, block_fits, performs_nothing}
use Rattle.thes_posting_files.proofs.ReportLemmas.{row_count_all, text_of_more}
use Rattle.thes_posting_files.proofs.RowReadingLemmas.{rows_left}

zip_joined : (rows more : List CsvRow) (os qs : List Outcome) → AllZip IsOutcome rows os → AllZip IsOutcome more qs
    → AllZip IsOutcome (rows ++ more) (os ++ qs)
zip_joined [] more [] qs x y = y
zip_joined [] more (o ∷ os) qs x y = absurd x
zip_joined (r ∷ rows) more [] qs x y = absurd x
zip_joined (r ∷ rows) more (o ∷ os) qs x y = (x.0, zip_joined rows more os qs x.1 y)

-- Two lists of rows performed one after another are performed as one list.
performs_both : (limits : Limits) (first mid last : Raw) (rows more : List CsvRow) (os qs : List Outcome)
    → PerformsRows limits first rows os mid → PerformsRows limits mid more qs last
    → PerformsRows limits first (rows ++ more) (os ++ qs) last
performs_both limits first mid last rows more os qs x y =
    let posts : posts_of (rows ++ more) ≡ posts_of rows ++ posts_of more = filter_map-append post_in rows more in
    let answers : answers_of (os ++ qs) ≡ answers_of os ++ answers_of qs = filter_map-append answer_in os qs in
    record {
      goes_on =
          subst (λ (l : List Command). TablesAfterRun limits first l (answers_of (os ++ qs)) last) (sym posts)
          (subst (λ (l : List Answer). TablesAfterRun limits first (posts_of rows ++ posts_of more) l last)
          (sym answers)
          (run_of_more limits first mid last (posts_of rows) (answers_of os) (posts_of more) (answers_of qs) x.goes_on
          y.goes_on));
      same = λ all.
          let parts = all_parts ChangesNothing (answers_of os) (answers_of qs)
          (subst (AllByRecursion ChangesNothing) answers all) in
          y.same parts.1 ∙ x.same parts.0;
    }

module _ {K : Type 0} (view : K → StorageView) where
  -- The invariant of an import after some rows.
  pub record ImportInvariant (old now : OfficeView K) (file : List ℕ) (reader : RowReader) (given : Counts) : Type
      0 where
    pub limits : now.limits ≡ old.limits
    pub was : (view now.keeper).is_up → (view old.keeper).is_up
    pub count : (view now.keeper).failures ≡ (view old.keeper).failures
    pub rows : List CsvRow
    pub first : List CsvRow
    pub outcomes : List Outcome
    pub reads : HasReadRows file rows first reader
    pub performs : PerformsWith view old first outcomes now
    pub counts : given ≡ counts_of outcomes

  -- The invariant holds at the start.
  abbrev pub importing_none : (old : OfficeView K) (file : List ℕ) (rows : List CsvRow) (reader : RowReader)
      (counts : Counts) → ShowsState view old → HasReadRows file rows [] reader → counts ≡ counts_of []
      → ImportInvariant old old file reader counts
  importing_none old file rows reader counts shows reads is = record {
    limits = refl;
    was = λ up. up;
    count = refl;
    rows = rows;
    first = [];
    outcomes = [];
    reads = reads;
    performs = performs_nothing view old shows;
    counts = is;
  }

  pub performs_on : (old mid new : OfficeView K) (rows more : List CsvRow) (os qs : List Outcome)
      → mid.limits ≡ old.limits → ((view new.keeper).is_up → (view mid.keeper).is_up)
      → PerformsWith view old rows os mid
      → PerformsWith view mid more qs new → PerformsWith view old (rows ++ more) (os ++ qs) new
  performs_on old mid new rows more os qs limits was x y = record {
    each = zip_joined rows more os qs x.each y.each;
    performs = λ up. performs_both old.limits (view old.keeper).rows (view mid.keeper).rows
        (view new.keeper).rows rows more os
        qs (x.performs (was up)) (subst (λ (l : Limits). PerformsRows l (view mid.keeper).rows more qs
        (view new.keeper).rows)
        limits (y.performs up));
  }

  -- The invariant holds after one more block.
  abbrev pub importing_more : (old mid new : OfficeView K) (file : List ℕ) (reader reader' : RowReader)
      (report report' : Report) → ImportInvariant old mid file reader report.counts
      → FaultBehaviour view mid new (let x : Result (Unit {0}) Fault = Ok tt in x)
      → ReportsBlock view mid reader report report' reader' new
      → ImportInvariant old new file reader' report'.counts
  importing_more old mid new file reader reader' report report' so_far fault_behaviour block = record {
    limits = fault_behaviour.limits ∙ so_far.limits;
    was = λ up. so_far.was (fault_behaviour.was up);
    count = fault_behaviour.count ∙ so_far.count;
    rows = so_far.rows;
    first = so_far.first ++ block.rows;
    outcomes = so_far.outcomes ++ block.outcomes;
    reads = block.reads file so_far.rows so_far.first so_far.reads;
    performs = performs_on old mid new so_far.first block.rows so_far.outcomes block.outcomes so_far.limits
        fault_behaviour.was so_far.performs block.performs;
    counts = let both = block.reports so_far.outcomes so_far.counts in both.0;
  }

  -- A fault halted the import: some first rows of the file were performed, and some row is left.
  pub record HaltedImport (old new : OfficeView K) (file : List ℕ) (outcomes : List Outcome) : Type 0 where
    pub first : List CsvRow
    pub others : List CsvRow
    pub is_file : IsPostingFile file (first ++ others)
    pub some : 0 < length others
    pub performs : PerformsWith view old first outcomes new

  pub halted_in : (old mid new : OfficeView K) (file : List ℕ) (reader : RowReader) (report report' : Report)
      (fault : Fault) (so_far : ImportInvariant old mid file reader report.counts)
      → FaultBehaviour view mid new (let x : Result (Unit {0}) Fault = Err fault in x)
      → (stop : StopsInBlock view mid reader report report' new)
      → HaltedImport old new file (so_far.outcomes ++ stop.outcomes)
  halted_in old mid new file reader report report' fault so_far fault_behaviour stop =
      let unread = stop.leaves file so_far.rows so_far.first so_far.reads in record {
        first = so_far.first ++ stop.rows;
        others = unread.0;
        is_file = unread.1;
        some = unread.2;
        performs = performs_on old mid new so_far.first stop.rows so_far.outcomes stop.outcomes so_far.limits
            fault_behaviour.was so_far.performs stop.performs;
      }

  -- If no row is left, the rows performed are all rows of the file.
  pub all_read : (old now : OfficeView K) (file : List ℕ) (reader : RowReader) (counts : Counts)
      (so_far : ImportInvariant old now file reader counts) → reader.has_more ≡ false
      → IsPostingFile file so_far.first
  all_read old now file reader counts so_far none =
      let o = rows_left file so_far.rows so_far.first reader so_far.reads in
      subst (IsPostingFile file) (o.all ∙ ap (λ (l : List CsvRow). so_far.first ++ l) (o.none none)
      ∙ append-nil so_far.first) so_far.reads.file

  -- The rows counted are those that were read.
  pub counts_read : (old now : OfficeView K) (file : List ℕ) (reader : RowReader) (counts : Counts)
      → ImportInvariant old now file reader counts → CountsRowsRead reader counts
  counts_read old now file reader counts so_far =
      let a = ap row_count so_far.counts in
      let b = row_count_all so_far.outcomes in
      let c = AllZip-long IsOutcome so_far.first so_far.outcomes so_far.performs.each in
      record {
        file = file;
        rows = so_far.rows;
        first = so_far.first;
        reads = so_far.reads;
        count_is = omega (arith, a, b, c);
      }

  -- Each block lowers the number of rows that can still be counted, so the import ends.
  pub fewer_left : (old mid new : OfficeView K) (file : List ℕ) (reader reader' : RowReader) (report report' : Report)
      (so_far : ImportInvariant old mid file reader report.counts)
      → ReportsBlock view mid reader report report' reader' new
      → 2 ^ 64 - row_count report'.counts < 2 ^ 64 - row_count report.counts
  fewer_left old mid new file reader reader' report report' so_far block =
      let before = counts_read old mid file reader report.counts so_far in
      let small = block_fits reader reader' report.counts block.rows before block.reads in
      let both = block.reports so_far.outcomes so_far.counts in
      let now = ap row_count both.0 in
      let all = row_count_all (so_far.outcomes ++ block.outcomes) in
      let parts = length-append so_far.outcomes block.outcomes in
      let as_many = AllZip-long IsOutcome block.rows block.outcomes block.performs.each in
      let was = ap row_count so_far.counts in
      let first = row_count_all so_far.outcomes in
      omega (arith, small, now, all, parts, as_many, was, first, block.some)

  -- After one more block, the report has the text of all outcomes so far.
  pub text_after : (old mid : OfficeView K) (file : List ℕ) (reader : RowReader) (report report' : Report)
      (outcomes : List Outcome) (so_far : ImportInvariant old mid file reader report.counts)
      → AddsOutcomes outcomes report report'
      → report.text.items ≡ outcomes_text so_far.outcomes
      → report'.text.items ≡ outcomes_text (so_far.outcomes ++ outcomes)
  text_after old mid file reader report report' outcomes so_far adds text =
      let both = adds so_far.outcomes so_far.counts in
      both.1 ∙ ap (λ (l : List ℕ). l ++ outcome_lines (1 + length so_far.outcomes) outcomes) text
      ∙ sym (text_of_more so_far.outcomes outcomes)
