-- Proves that the work of each command leads an office through a run of the machine.
use Rattle.std.proofs.Common.{inl, inr, ℕ, List, [], Option, Result, Ok, Err}
use Rattle.thes_base.proofs.MachineLemmas.{legal_is_consistent}
use Rattle.thes_base.specs.Headline.{IsConsistentState}
use Rattle.thes_base.specs.State.{State}
use Rattle.thes_base.specs.declared.data.Limits.{Limits}
use Rattle.thes_base.specs.declared.fault.Fault.{Fault}
use Rattle.thes_base.specs.declared.fault.PipeFault.{PipeFault}
use Rattle.thes_base.specs.declared.fault.PipeFault.TheVariants as pipe
use Rattle.thes_base.specs.declared.pipe.Pipe.{Pipe}
use Rattle.thes_store.specs.Storage.{StorageView}
use Rattle.thes_office.specs.Office.{OfficeView}
use Rattle.thes_office.specs.TablesOfState.{TablesOfState}
use Rattle.thes_posting_files.specs.Outcomes.{answers_of, posts_of}
use Rattle.thes_posting_files.specs.declared.csv_row.CsvRow.{CsvRow}
use Rattle.thes_posting_files.specs.declared.outcome.Outcome.{Outcome}
use Rattle.thes_import.specs.FileImport.{PerformsFirst, StopsAfterRows}
use Rattle.thes_import.specs.declared.import.ImportEnd.{ImportEnd}
use Rattle.thes_import.specs.declared.import.ImportEnd.TheVariants as ended
use Rattle.thes_import.specs.declared.import.ImportStop.{ImportStop}
use Rattle.thes_service.proofs.ScriptRunLemmas.{led_kept, led_same, led_start}
use Rattle.thes_service.specs.OfficeRequests.{IsReachedByRun}
use Rattle.thes_http.specs.ConnectionCounts.{ConnectionCounts}
use Rattle.thes_jobs.specs.declared.work.OutputWork.{OutputWork}
use Rattle.thes_jobs.specs.declared.work.OutputWork.TheVariants.{Check, Export, Display, Import, Serve}
use Rattle.thes_jobs.specs.declared.work.Work.{Work}
use Rattle.thes_jobs.specs.declared.work.Work.TheVariants.{Script, Output}
use Rattle.thes_cli.specs.Importing.{ImportsPipe}
use Rattle.thes_office.specs.Opening.{IsOpened}
use Rattle.thes_cli.specs.Work.{DoesOutputWork, DoesWork}
use Rattle.thes_cli.specs.declared.streams.Streams.{Streams}

module _ {K : Type 0} (view : K → StorageView) where
  -- The tables of an office that was opened encode a consistent state.
  opened_consistent : (limits : Limits) (keeper : K) (office : OfficeView K) → IsOpened view limits keeper office
      → (view office.keeper).is_up → (base : List ℕ) × (s : State) × TablesOfState (view office.keeper).rows base s
      × IsConsistentState base s
  opened_consistent limits keeper office opens up =
      let x = opens.shows up in (x.0, x.1, x.2, legal_is_consistent x.0 x.1 x.2.legal)

  -- An office that was opened is reached by a run without requests.
  pub opened_reached : (limits : Limits) (keeper : K) (office : OfficeView K) → IsOpened view limits keeper office
      → IsReachedByRun view office office
  opened_reached limits keeper office opens =
      led_start view office (opened_consistent limits keeper office opens)

  module _ {W : Type 0} (out : W → Option (List ℕ)) (output output' : Pipe W) (old new : OfficeView K) where
    rows_lead : (file : List ℕ) (outcomes : List Outcome) (others : List CsvRow) (result : Result (Unit {0}) Fault)
        → PerformsFirst out view output output' old new file outcomes others result → IsReachedByRun view old new
    rows_lead file outcomes others result x = record {
      limits = x.fault_behaviour.limits;
      was = x.fault_behaviour.was;
      later = x.fault_behaviour.later;
      goes_on = λ up. (posts_of x.rows, answers_of outcomes, (x.performs.performs up).goes_on);
    }

    stopped_leads : (file : List ℕ) (outcomes : List Outcome) (fault : PipeFault)
        → StopsAfterRows out view output output' old new file outcomes fault → IsReachedByRun view old new
    stopped_leads file outcomes (pipe.Fault fault) x = rows_lead file outcomes x.others (Err fault) x.first
    stopped_leads file outcomes pipe.Read x = rows_lead file outcomes x.others x.result x.first
    stopped_leads file outcomes pipe.Write x = rows_lead file outcomes x.others x.result x.first
    stopped_leads file outcomes pipe.TooLong x = rows_lead file outcomes x.others x.result x.first

    import_leads : {F : Type 0} (given : F → Option (List ℕ)) (file file' : Pipe F)
        (result : Result ImportEnd ImportStop)
        → ImportsPipe view given out file old output result file' new output' → IsReachedByRun view old old
        → IsReachedByRun view old new
    import_leads given file file' (Ok (ended.Rows counts)) x start =
        let rows = x.imports in rows_lead x.file rows.outcomes [] _ rows.first
    import_leads given file file' (Ok ended.Malformed) x start =
        let none = x.imports in led_kept view old old new start none.1
    import_leads given file file' (Err stopped) (inl none) start = led_kept view old old new start none.office
    import_leads given file file' (Err stopped) (inr read) start = elim read.imports [
      | inl none ↦ led_kept view old old new start none.keeps_tables
      | inr some ↦ stopped_leads read.file some.0 stopped.fault some.2
    ]

  module _ {F W E : Type 0} (given : F → Option (List ℕ)) (out : W → Option (List ℕ)) (err : E → Option (List ℕ)) where
    output_leads : {L : Type 0} (connections : ConnectionCounts) (work : OutputWork F L) (old new : OfficeView K)
        (output output' : Pipe W) (errors errors' : Pipe E) (status : ℕ)
        → DoesOutputWork view given out err connections work old output output' errors errors' status new
        → IsReachedByRun view old old → IsReachedByRun view old new
    output_leads connections Check old new output output' errors errors' status x start =
        let finds = x.finds in led_same view old old new x.result start finds.fault_behaviour finds.same
    output_leads connections Export old new output output' errors errors' status x start =
        let writes = x.writes in led_same view old old new writes.ready start writes.fault_behaviour writes.same
    output_leads connections (Display display shown) old new output output' errors errors' status x start =
        let shows = x.shows in led_same view old old new shows.ready start shows.fault_behaviour shows.same
    output_leads connections (Import file prints_it) old new output output' errors errors' status x start =
        import_leads out output output' old new given x.file_pipe x.file_after x.result x.imports start
    output_leads connections (Serve listening) old new output output' errors errors' status (inl served) start =
        served.1.reached
    output_leads connections (Serve listening) old new output output' errors errors' status (inr unprinted) start =
        led_kept view old old new start unprinted.2

    -- The work of each command leads the office through a run of the machine.
    pub work_leads : {R L : Type 0} (remaining : R → Option (List ℕ)) (work : Work F L)
        (old_office new_office : OfficeView K) (old new : Streams R W E) (status : ℕ)
        → DoesWork view given remaining out err work old_office old status new_office new
        → IsReachedByRun view old_office old_office → IsReachedByRun view old_office new_office
    work_leads remaining (Script options) old_office new_office old new status x start = x.reached
    work_leads remaining (Output work) old_office new_office old new status x start =
        output_leads new.connections work old_office new_office old.output new.output old.errors new.errors
        status x.1 start
