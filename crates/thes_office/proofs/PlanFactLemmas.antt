-- Proves that the facts collected in a plan are those of the histories of the state after its requests so far.
use Rattle.std.proofs.Common.{◌≡◌, ◌++◌, ◌∷◌, [], ◌∙◌, ℕ, List, refl, sym, ap, map}
use Rattle.std.proofs.lemmas.List.{map-append}
use Rattle.std.specs.Prelude.{Option, Result, Ok}
use Rattle.thes_base.specs.declared.data.History.{History}
use Rattle.thes_base.specs.declared.fault.Fault.{Fault}
use Rattle.thes_base.specs.Legal.{IsLegalState}
use Rattle.thes_base.specs.Resources.{entry_at}
use Rattle.thes_base.specs.State.{State}
use Rattle.thes_tables.specs.declared.rows.PostingRow.{PostingRow}
use Rattle.thes_tables.specs.Tables.{posting_row}
use Rattle.thes_store.specs.Storage.{KeepsStorage, QueryFrame, StorageView}
use Rattle.thes_store.proofs.StorageLemmas.{kept_after}
use Rattle.thes_core.specs.Facts.{posting_row_at}
use Rattle.thes_core.proofs.FactLemmas.{row_found}
use Rattle.thes_plan_postings.specs.declared.plan_postings.PlanPostings.{PlanPostings}
use Rattle.thes_plan_postings.specs.PlanPostings.{AreNumbered, InPlanRows}
use Rattle.thes_plan_postings.proofs.PlanPostingLemmas.{numbered_map}

-- The rows looked up by number in the posting table are those of the histories with these numbers.
pub rows_of_histories : (hs : List History) (ns : List ℕ) → map (entry_at (map posting_row hs)) ns
    ≡ map (posting_row_at hs) ns
rows_of_histories hs [] = refl
rows_of_histories hs (n ∷ ns) = λ i. numbered_map posting_row hs n i ∷ rows_of_histories hs ns i

-- The posting rows of a legal state are numbered by their places in the table.
pub rows_numbered : (base : List ℕ) (s : State) → IsLegalState base s → AreNumbered (map posting_row s.histories)
rows_numbered base s legal n row at =
    let h = row_found (entry_at s.histories n) row (sym (numbered_map posting_row s.histories n) ∙ at) in
    ap (λ (r : PostingRow). r.number) h.2 ∙ (legal.postings.sound n h.0 h.1).number

-- The rows found so far, while postings are looked up in order.
pub record PlanRowsRead (old now : StorageView) (postings : PlanPostings) (ns : List ℕ)
    (found : List (Option PostingRow)) : Type 0 where
  pub keeps : KeepsStorage old now
  pub rows_are_read : now.is_up → InPlanRows old.rows postings (λ rows. found ≡ map (entry_at rows) ns)

-- A look-up of one more posting appends its row to the rows found.
pub plan_rows_more : (old mid new : StorageView) (postings : PlanPostings) (ns more : List ℕ)
    (found last : List (Option PostingRow)) (n : ℕ) (row : Option PostingRow) → PlanRowsRead old mid postings ns found
    → QueryFrame mid new (let x : Result (Option PostingRow) Fault = Ok row in x)
    → (new.is_up → InPlanRows mid.rows postings (λ rows. row ≡ entry_at rows n)) → more ≡ ns ++ n ∷ []
    → last ≡ found ++ row ∷ [] → PlanRowsRead old new postings more last
plan_rows_more old mid new postings ns more found last n row read asks one grown pushed = record {
  keeps = kept_after old mid new read.keeps row asks;
  rows_are_read = λ up t rows is are.
      let here = one up t rows (read.keeps.same (asks.was up) ∙ is) are in
      let before = read.rows_are_read (asks.was up) t rows is are in
      pushed ∙ (λ i. before i ++ here i ∷ []) ∙ sym (map-append (entry_at rows) ns (n ∷ []))
      ∙ ap (map (entry_at rows)) (sym grown);
}
