-- Proves which rows of a block were performed, by the answers to their requests.
use Rattle.std.proofs.Common.{◌≡◌, ◌∙◌, ◌+◌, ◌<◌, ◌≤◌, ◌++◌, [], ℕ, List, refl, sym, ap, subst, length, map}
use Rattle.std.proofs.Common.{◌^◌, append-nil, append_assoc, arith, length-append, true}
use Rattle.std.specs.Prelude.{Option, Result, Ok, Err}
use Rattle.std.specs.List.{AllByRecursion, AllZip}
use Rattle.thes_base.specs.declared.data.Limits.{Limits}
use Rattle.thes_base.specs.declared.fault.Fault.{Fault}
use Rattle.thes_base.specs.declared.fault.FormFault.{FormFault}
use Rattle.thes_base.specs.declared.request.Answer.{Answer}
use Rattle.thes_base.specs.declared.request.Command.{Command}
use Rattle.thes_base.specs.Headline.{IsConsistentState}
use Rattle.thes_base.specs.State.{State}
use Rattle.thes_tables.specs.Cells.{Raw}
use Rattle.thes_store.specs.Storage.{StorageView}
use Rattle.thes_office.specs.Office.{ChangesNothing, CompleteRun, OfficeView, PartialRun, RunResult, TablesAfterRun}
use Rattle.thes_office.specs.TablesOfState.{TablesOfState}
use Rattle.thes_office.proofs.OfficeViewLemmas.{empty_run}
use Rattle.thes_import.specs.Imports.{CountsRowsRead, ImportsBlock, PerformsRows, PerformsWith, ReportsBlock}
use Rattle.thes_import.specs.Imports.{StopsInBlock}
use Rattle.thes_posting_files.specs.Outcomes.{AddsOutcomes, IsOutcome, answers_of, fault_of_row, outcomes_of}
use Rattle.thes_posting_files.specs.Outcomes.{posts_of, row_count}
use Rattle.thes_posting_files.specs.PostingFile.{IsPostingFile}
use Rattle.thes_posting_files.specs.RowReading.{HasReadRows}
use Rattle.thes_posting_files.specs.declared.csv_row.CsvRow.{CsvRow}
use Rattle.thes_posting_files.specs.declared.outcome.Outcome.{Outcome}
use Rattle.thes_posting_files.specs.declared.reading.RowReader.{RowReader}
use Rattle.thes_posting_files.specs.declared.report.Counts.{Counts}
use Rattle.thes_posting_files.specs.declared.report.Report.{Report}
use Rattle.thes_posting_files.proofs.AnsweredRowLemmas.{rows_answered, some_left}
use Rattle.thes_posting_files.proofs.ReportLemmas.{adds_none}
use Rattle.thes_posting_files.proofs.RowReadingLemmas.{rows_left}

-- With the rows of one more block, the number of rows counted is still below 2^64.
pub block_fits : (reader reader' : RowReader) (counts : Counts) (rows : List CsvRow) → CountsRowsRead reader counts
    → ((bytes : List ℕ) (all first : List CsvRow) → HasReadRows bytes all first reader
    → HasReadRows bytes all (first ++ rows) reader') → row_count counts + length rows < 2 ^ 64
block_fits reader reader' counts rows c reads =
    let h = reads c.file c.rows c.first c.reads in
    let o = rows_left c.file c.rows (c.first ++ rows) reader' h in
    let all = ap (λ (l : List CsvRow). length l) o.all in
    let both = length-append (c.first ++ rows) o.others in
    let parts = length-append c.first rows in
    omega (arith, all, both, parts, c.count_is, h.fits)

performs_none : (limits : Limits) (raw : Raw) (base : List ℕ) (s : State) → TablesOfState raw base s
    → IsConsistentState base s → PerformsRows limits raw [] [] raw
performs_none limits raw base s shows in_order = record {
  goes_on = empty_run limits raw base s shows in_order;
  same = λ all. refl;
}

module _ {K : Type 0} (view : K → StorageView) where
  -- If the storage is up, its tables encode a consistent state.
  abbrev pub ShowsState : OfficeView K → Type 0
  ShowsState office =
      (view office.keeper).is_up → (base : List ℕ) × (s : State) × TablesOfState (view office.keeper).rows base s
      × IsConsistentState base s

  -- Before the first row, the empty list of rows has been performed.
  pub performs_nothing : (office : OfficeView K) → ShowsState office → PerformsWith view office [] [] office
  performs_nothing office shows = record {
    each = tt;
    performs = λ up. let x = shows up in performs_none office.limits (view office.keeper).rows x.0 x.1 x.2 x.3;
  }

  -- A proper prefix of the rows was performed, with these outcomes.
  pub record PerformsSomeWith (old : OfficeView K) (rows : List CsvRow) (outcomes : List Outcome)
      (new : OfficeView K) : Type 0 where
    pub first_rows : List CsvRow
    pub other_rows : List CsvRow
    pub all : rows ≡ first_rows ++ other_rows
    pub some : 0 < length other_rows
    pub performs : PerformsWith view old first_rows outcomes new

  -- All rows were performed and reported; or a fault ended the run before some row, and only the
  -- rows before it were performed and reported.
  abbrev pub ReportsRows : OfficeView K → List CsvRow → Report → Result (Unit {0}) Fault → Report → OfficeView K
      → Type 0
  ReportsRows old rows report (Ok done) report' new =
      (outcomes : List Outcome) × PerformsWith view old rows outcomes new × AddsOutcomes outcomes report report'
  ReportsRows old rows report (Err fault) report' new =
      (outcomes : List Outcome) × PerformsSomeWith old rows outcomes new × AddsOutcomes outcomes report report'

  rows_performed : (old new : OfficeView K) (rows : List CsvRow) (before after : List Answer)
      (ran : CompleteRun view old (posts_of rows) before after new)
      → PerformsWith view old rows (outcomes_of (map fault_of_row rows) ran.answers) new
  rows_performed old new rows before after ran =
      let r = rows_answered rows (posts_of rows) [] ran.answers (sym (append-nil (posts_of rows))) ran.each in
      let all : rows ≡ r.first = r.all ∙ ap (λ (l : List CsvRow). r.first ++ l) (r.none refl) ∙ append-nil r.first in
      record {
        each = subst (λ (l : List CsvRow). AllZip IsOutcome l (outcomes_of (map fault_of_row rows) ran.answers))
            (sym all) r.each;
        performs = λ up. record {
          goes_on = subst (λ (l : List Answer). TablesAfterRun old.limits (view old.keeper).rows (posts_of rows) l
              (view new.keeper).rows) (sym r.answers_are) (ran.goes_on up);
          same = λ nothing. ran.same up (subst (AllByRecursion ChangesNothing) r.answers_are nothing);
        };
      }

  rows_stopped : (old new : OfficeView K) (rows : List CsvRow) (before after : List Answer)
      (ran : PartialRun view old (posts_of rows) before after new)
      → PerformsSomeWith old rows (outcomes_of (map fault_of_row rows) ran.answers) new
  rows_stopped old new rows before after ran =
      let r = rows_answered rows ran.commands_done ran.commands_left ran.answers ran.all ran.each in
      record {
        first_rows = r.first;
        other_rows = r.others;
        all = r.all;
        some = some_left r.others ran.commands_left r.left_posts ran.some;
        performs = record {
          each = r.each;
          performs = λ up. record {
            goes_on = subst (λ (p : List Command). TablesAfterRun old.limits (view old.keeper).rows p
                (answers_of (outcomes_of (map fault_of_row rows) ran.answers)) (view new.keeper).rows) (sym r.posts)
                (subst (λ (l : List Answer). TablesAfterRun old.limits (view old.keeper).rows ran.commands_done l
                (view new.keeper).rows) (sym r.answers_are) (ran.goes_on up));
            same = λ nothing. ran.same up (subst (AllByRecursion ChangesNothing) r.answers_are nothing);
          };
        };
      }

  -- The result of the run of a block's requests determines which of its rows were performed and
  -- reported.
  pub rows_reported : (old new : OfficeView K) (rows : List CsvRow) (posts : List Command)
      (faults : List (Option FormFault)) (answers : List Answer) (result : Result (Unit {0}) Fault)
      (report report' : Report) → posts ≡ posts_of rows → faults ≡ map fault_of_row rows
      → RunResult view old posts [] answers result new
      → AddsOutcomes (outcomes_of faults answers) report report'
      → ReportsRows old rows report result report' new
  rows_reported old new rows posts faults answers (Ok done) report report' p f ran adds =
      let run = subst (λ (l : List Command). CompleteRun view old l [] answers new) p ran in
      let same : outcomes_of faults answers ≡ outcomes_of (map fault_of_row rows) run.answers =
      (λ i. outcomes_of (f i) (run.kept i)) in (
        outcomes_of (map fault_of_row rows) run.answers,
        rows_performed old new rows [] answers run,
        subst (λ (l : List Outcome). AddsOutcomes l report report') same adds,
      )
  rows_reported old new rows posts faults answers (Err fault) report report' p f ran adds =
      let run = subst (λ (l : List Command). PartialRun view old l [] answers new) p ran in
      let same : outcomes_of faults answers ≡ outcomes_of (map fault_of_row rows) run.answers =
      (λ i. outcomes_of (f i) (run.kept i)) in (
        outcomes_of (map fault_of_row rows) run.answers,
        rows_stopped old new rows [] answers run,
        subst (λ (l : List Outcome). AddsOutcomes l report report') same adds,
      )

  -- If the rows of a block were read, performed and reported, so was the block.
  pub block_reported : (old new : OfficeView K) (reader reader' : RowReader) (report report' : Report)
      (rows : List CsvRow) → ((bytes : List ℕ) (all first : List CsvRow) → HasReadRows bytes all first reader
      → HasReadRows bytes all (first ++ rows) reader') → 0 < length rows → length rows ≤ 1000
      → ReportsRows old rows report (let x : Result (Unit {0}) Fault = Ok tt in x)
      report' new → ReportsBlock view old reader report report' reader' new
  block_reported old new reader reader' report report' rows reads some few reports = record {
    rows = rows;
    outcomes = reports.0;
    reads = reads;
    some = some;
    few = few;
    performs = reports.1;
    reports = reports.2;
  }

  -- A fault within a block ends the import before some row of the file.
  pub block_stopped : (old new : OfficeView K) (reader reader' : RowReader) (report report' : Report)
      (rows : List CsvRow) (fault : Fault) → ((bytes : List ℕ) (all first : List CsvRow)
      → HasReadRows bytes all first reader → HasReadRows bytes all (first ++ rows) reader') → length rows ≤ 1000
      → ReportsRows old rows report (Err fault) report' new
      → StopsInBlock view old reader report report' new
  block_stopped old new reader reader' report report' rows fault reads few reports =
      let part = reports.1 in
      let size = ap (λ (l : List CsvRow). length l) part.all ∙ length-append part.first_rows part.other_rows in
      record {
        rows = part.first_rows;
        outcomes = reports.0;
        leaves = λ bytes all first h.
            let o = rows_left bytes all (first ++ rows) reader' (reads bytes all first h) in
            let whole : all ≡ (first ++ part.first_rows) ++ (part.other_rows ++ o.others) =
            o.all ∙ ap (λ (l : List CsvRow). (first ++ l) ++ o.others) part.all
            ∙ ap (λ (l : List CsvRow). l ++ o.others) (sym (append_assoc first part.first_rows part.other_rows))
            ∙ append_assoc (first ++ part.first_rows) part.other_rows o.others in
            let n = length-append part.other_rows o.others in (
              part.other_rows ++ o.others,
              subst (IsPostingFile bytes) whole h.file,
              omega (arith, n, part.some),
            );
        few = omega (arith, size, few);
        performs = part.performs;
        reports = reports.2;
      }

  -- If memory for a block runs out, the import ends before the first row of the block.
  pub block_unread : (office : OfficeView K) (reader reader' : RowReader) (report report' : Report)
      (result : Result (Unit {0}) Fault) (fault : Fault) → result ≡ Err fault → ShowsState office
      → reader.has_more ≡ true → report'.text.items ≡ report.text.items → report'.counts ≡ report.counts
      → ImportsBlock view office reader report result report' reader' office
  block_unread office reader reader' report report' result fault is shows some text counts = subst
      (λ (r : Result (Unit {0}) Fault). ImportsBlock view office reader report r report' reader' office) (sym is)
      record {
        rows = [];
        outcomes = [];
        leaves = λ bytes all first h.
            let o = rows_left bytes all first reader h in (
              o.others,
              subst (IsPostingFile bytes) (o.all ∙ ap (λ (l : List CsvRow). l ++ o.others) (sym (append-nil first)))
                  h.file,
              o.some some,
            );
        few = omega arith;
        performs = performs_nothing office shows;
        reports = adds_none report report' text counts;
      }

  -- A block that was read has the result of performing and reporting its rows.
  pub block_result : (old new : OfficeView K) (reader reader' : RowReader) (report report' : Report)
      (rows : List CsvRow) (result : Result (Unit {0}) Fault) → ((bytes : List ℕ) (all first : List CsvRow)
      → HasReadRows bytes all first reader → HasReadRows bytes all (first ++ rows) reader')
      → 0 < length rows → length rows ≤ 1000
      → ReportsRows old rows report result report' new
      → ImportsBlock view old reader report result report' reader' new
  block_result old new reader reader' report report' rows (Ok done) reads some few reports =
      block_reported old new reader reader' report report' rows reads some few reports
  block_result old new reader reader' report report' rows (Err fault) reads some few reports =
      block_stopped old new reader reader' report report' rows fault reads few reports
