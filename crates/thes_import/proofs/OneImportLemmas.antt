-- Proves that a file and the state before determine the report of an import, and the state after it.
use Rattle.std.proofs.Common.{◌≡◌, ◌∙◌, ◌∷◌, [], ℕ, List, Option, Some, None, Ok, refl, sym, subst}
use Rattle.std.specs.List.{AllZip}
use Rattle.thes_base.specs.declared.data.Limits.{Limits}
use Rattle.thes_base.specs.declared.request.Answer.{Answer}
use Rattle.thes_base.specs.declared.request.Command.{Command}
use Rattle.thes_base.specs.Legal.{IsLegalState}
use Rattle.thes_base.specs.Machine.{Run}
use Rattle.thes_base.specs.Refusals.{Setting, IsSetting}
use Rattle.thes_base.specs.State.{State}
use Rattle.thes_base.proofs.OutcomeLemmas.{one_outcome}
use Rattle.thes_posting_files.specs.Outcomes.{IsOutcome, ReportsOutcomes, answers_of, posts_of}
use Rattle.thes_posting_files.specs.PostingFile.{HasNoHeader, IsPostingFile}
use Rattle.thes_posting_files.specs.declared.csv_row.CsvRow.{CsvRow}
use Rattle.thes_posting_files.specs.declared.csv_row.CsvRow.TheVariants as row
use Rattle.thes_posting_files.specs.declared.outcome.Outcome.{Outcome}
use Rattle.thes_posting_files.specs.declared.outcome.Outcome.TheVariants as outcome
use Rattle.thes_posting_files.specs.declared.report.Report.{Report}
use Rattle.thes_posting_files.proofs.OneFileLemmas.{one_file}
use Rattle.thes_tables.specs.Cells.{Raw}
use Rattle.thes_store.specs.Storage.{StorageView}
use Rattle.thes_office.specs.Office.{OfficeView, TablesAfterRun, setting as setting_of}
use Rattle.thes_office.specs.TablesOfState.{TablesOfState}
use Rattle.thes_office.proofs.StateTableLemmas.{state_is_unique}
use Rattle.thes_office.proofs.StepLemmas.{setting_fits}
use Rattle.thes_import.specs.Imports.{Imports}
use Rattle.thes_import.specs.OneImport.{HasOneImport, ReportSame}

-- The rows and the answers of their postings determine the outcomes.
one_list_of_outcomes : (rows : List CsvRow) (os qs : List Outcome) → AllZip IsOutcome rows os
    → AllZip IsOutcome rows qs → answers_of os ≡ answers_of qs → os ≡ qs
one_list_of_outcomes [] [] [] x y e = refl
one_list_of_outcomes [] [] (q ∷ qs) x y e = absurd y
one_list_of_outcomes [] (o ∷ os) qs x y e = absurd x
one_list_of_outcomes (r ∷ rows) [] qs x y e = absurd x
one_list_of_outcomes (r ∷ rows) (o ∷ os) [] x y e = absurd y
one_list_of_outcomes (row.Post key rec concept ∷ rows) (outcome.Bad f ∷ os) (q ∷ qs) x y e = absurd x.0
one_list_of_outcomes (row.Post key rec concept ∷ rows) (outcome.Reply a ∷ os) (outcome.Bad g ∷ qs) x y e = absurd y.0
one_list_of_outcomes (row.Post key rec concept ∷ rows) (outcome.Reply a ∷ os) (outcome.Reply b ∷ qs) x y e =
    let both : a ∷ answers_of os ≡ b ∷ answers_of qs = e in
    let head : a ≡ b = cc in
    let tail : answers_of os ≡ answers_of qs = cc in
    let rest = one_list_of_outcomes rows os qs x.1 y.1 tail in
    λ i. outcome.Reply (head i) ∷ rest i
one_list_of_outcomes (row.Bad f ∷ rows) (outcome.Reply a ∷ os) (q ∷ qs) x y e = absurd x.0
one_list_of_outcomes (row.Bad f ∷ rows) (outcome.Bad g ∷ os) (outcome.Reply b ∷ qs) x y e = absurd y.0
one_list_of_outcomes (row.Bad f ∷ rows) (outcome.Bad g ∷ os) (outcome.Bad h ∷ qs) x y e =
    let rest = one_list_of_outcomes rows os qs x.1 y.1 e in
    λ i. outcome.Bad ((x.0 ∙ sym y.0) i) ∷ rest i

-- A run from tables is a run from the state that they encode.
pub run_from_state : (limits : Limits) (base : List ℕ) (s : State) (old new : Raw) (commands : List Command)
    (answers : List Answer) → TablesOfState old base s → TablesAfterRun limits old commands answers new
    → (t : State) × Run (setting_of base limits) s commands answers t × TablesOfState new base t
run_from_state limits base s old new commands answers shows ran =
    let one = state_is_unique old ran.base base ran.state_before s ran.tables_before shows in
    subst (λ (p : List ℕ × State). (t : State) × Run (setting_of p.0 limits) p.1 commands answers t
    × TablesOfState new p.0 t) (λ i. (one.0 i, one.1 i)) (ran.state_after, ran.run, ran.shows)

-- The import of a file leads from `s` to `t`, by a run of the machine over the postings of its rows.
abbrev pub IsImportOf : Setting → State → List ℕ → Option Report → State → Type 0
IsImportOf setting s file (Some report) t =
    (rows : List CsvRow) × (outcomes : List Outcome) × IsPostingFile file rows × AllZip IsOutcome rows outcomes
    × ReportsOutcomes outcomes report × Run setting s (posts_of rows) (answers_of outcomes) t
IsImportOf setting s file None t = HasNoHeader file × (t ≡ s)

-- A file has at most one import from a legal state.
pub one_import_of : (setting : Setting) → IsSetting setting → (s t u : State) → IsLegalState setting.base s
    → (file : List ℕ) (a b : Option Report) → IsImportOf setting s file a t → IsImportOf setting s file b u
    → ReportSame a b × (t ≡ u)
one_import_of setting fit s t u legal file (Some report) (Some other) x y =
    let rows = one_file.rows file y.0 x.0 y.2 x.2 in
    let run = subst (λ (rs : List CsvRow). Run setting s (posts_of rs) (answers_of y.1) u) rows y.5 in
    let each = subst (λ (rs : List CsvRow). AllZip IsOutcome rs y.1) rows y.3 in
    let one = one_outcome setting fit s legal (posts_of x.0) (answers_of x.1) (answers_of y.1) t u x.5 run in
    let same = one_list_of_outcomes x.0 x.1 y.1 x.3 each one.0 in
    let mine = x.4 in let others = subst (λ (os : List Outcome). ReportsOutcomes os other) (sym same) y.4 in
    ((mine.text ∙ sym others.text, mine.counts ∙ sym others.counts), one.1)
one_import_of setting fit s t u legal file (Some report) None x y = absurd (one_file.header file x.0 x.2 y.0)
one_import_of setting fit s t u legal file None (Some other) x y = absurd (one_file.header file y.0 y.2 x.0)
one_import_of setting fit s t u legal file None None x y = (tt, x.1 ∙ sym y.1)

module _ {K : Type 0} (view : K → StorageView) where
  -- The import by an office is one of the machine, between the states that its tables encode.
  pub import_from_state : (base : List ℕ) (s : State) (file : List ℕ) (old new : OfficeView K) (done : Option Report)
      → TablesOfState (view old.keeper).rows base s → (view new.keeper).is_up → Imports view old file (Ok done) new
      → (t : State) × IsImportOf (setting_of base old.limits) s file done t
      × TablesOfState (view new.keeper).rows base t
  import_from_state base s file old new (Some report) shows up (rows, is_file, all) =
      let performs = all.performs up in
      let ran = run_from_state old.limits base s (view old.keeper).rows (view new.keeper).rows (posts_of rows)
      (answers_of all.outcomes) shows performs.goes_on in
      (ran.0, (rows, all.outcomes, is_file, all.each, all.reports, ran.1), ran.2)
  import_from_state base s file old new None shows up (none, same) =
      (s, (none, refl), subst (λ (o : OfficeView K). TablesOfState (view o.keeper).rows base s) (sym same) shows)

pub one_import : {K L : Type 0} (view : K → StorageView) (other : L → StorageView) → HasOneImport view other
one_import {K} {L} view other base s file old new old' new' a b limits x y =
    let setting = setting_of base old.limits in
    let mine = import_from_state view base s file old new a x.shows x.is_up x.imports in
    let theirs = import_from_state other base s file old' new' b y.shows y.is_up y.imports in
    let moved = subst (λ (l : Limits). IsImportOf (setting_of base l) s file b theirs.0) limits theirs.1 in
    let one = one_import_of setting (setting_fits setting s x.few x.shows.legal) s mine.0 theirs.0 x.shows.legal file
    a b mine.1 moved in (
      one.0,
      record {
        state = mine.0;
        one = mine.2;
        other = subst (λ (t : State). TablesOfState (other new'.keeper).rows base t) (sym one.1) theirs.2;
      },
    )
