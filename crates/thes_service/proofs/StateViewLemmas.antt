-- Proves that the results computed from a core are those of the state that the tables encode.
use Rattle.std.proofs.Common.{◌≡◌, ◌∙◌, sym, refl, ap, subst, ℕ, List, [], ◌∷◌, ◌++◌, map, append_assoc, append-nil}
use Rattle.std.proofs.Common.{Option, None, Some, Result, Ok}
use Rattle.std.proofs.lemmas.Simd.{map-map}
use Rattle.std.specs.Borrow.{Bor}
use Rattle.serde_json.specs.Data.{Data}
use Rattle.thes_base.specs.declared.data.Limits.{Limits}
use Rattle.thes_base.specs.declared.fault.Fault.{Fault}
use Rattle.thes_base.specs.declared.fault.Refusal.{Refusal}
use Rattle.thes_base.specs.Legal.{IsLegalState}
use Rattle.thes_base.specs.State.{State}
use Rattle.thes_base.specs.Views.{assigned_histories}
use Rattle.thes_tables.specs.Cells.{Raw}
use Rattle.thes_tables.specs.Tables.{posting_row}
use Rattle.thes_tables.specs.declared.rows.PostingRow.{PostingRow}
use Rattle.thes_core.specs.CoreView as core
use Rattle.thes_core.specs.CoreView.{IsViewOf}
use Rattle.thes_store.specs.Sinks.{SinkAcceptsAll}
use Rattle.thes_store.specs.Storage.{StorageView}
use Rattle.thes_office.specs.QueryFrames.{InStateOfTables}
use Rattle.thes_office.specs.AssignedPostings.{AssignedPostingsResult, rows_assigned_to}
use Rattle.thes_office.specs.Office.{IsCopy, OfficeView, ReadyResult}
use Rattle.thes_office.specs.TablesOfState.{TablesOfState}
use Rattle.thes_office.proofs.OfficeViewLemmas.{behaviour_with_value}
use Rattle.thes_office.proofs.StateTableLemmas.{state_is_unique}
use Rattle.thes_requests.specs.declared.handler.QueryAnswer.{QueryAnswer}
use Rattle.thes_requests.specs.declared.handler.QueryAnswer.TheVariants as viewed
use Rattle.thes_requests.specs.declared.request.Query.TheVariants as asked
use Rattle.thes_exchange.specs.declared.view.View.TheVariants as views
use Rattle.thes_exchange.specs.QueryAnswers.{IsQueryAnswer}
use Rattle.thes_exchange.specs.PostingList.{entries}
use Rattle.thes_exchange.specs.ViewTexts.{entry_data, line_text, listing_data, postings_data}
use Rattle.thes_service.specs.OfficeRequests.{OfficeShows}
use Rattle.thes_service.specs.PostingLists.{ListsRow}
use Rattle.thes_service.specs.Service.{HoldsOfState}
use Rattle.thes_service.specs.declared.posting_lister.PostingLister.{PostingLister}

-- If each legal state that a copy holds has a property with the copy's base, the state that the
-- rows encode has it with its base.
held_based : (raw : Raw) (limits : Limits) (copy : core.CoreView) (P : List ℕ → State → Type 0)
    → IsCopy raw limits copy → ((s : State) → IsViewOf copy s → IsLegalState copy.setting.base s
    → P copy.setting.base s)
    → (base : List ℕ) (s : State) → TablesOfState raw base s → P base s
held_based raw limits copy P is so base s x =
    let one = state_is_unique raw copy.setting.base base is.state s is.shows x in
    subst (λ (p : List ℕ × State). P p.0 p.1) (λ i. (one.0 i, one.1 i)) (so is.state is.holds is.shows.legal)

-- If each state that a copy holds has a property that doesn't depend on the base, the state that the rows encode has
-- it.
pub holds_in_encoded_states : (raw : Raw) (limits : Limits) (copy : core.CoreView) (P : State → Type 0)
    → IsCopy raw limits copy → ((s : State) → IsViewOf copy s → P s) → InStateOfTables raw P
holds_in_encoded_states raw limits copy P is so = held_based raw limits copy (λ base. P) is
    (λ s holds legal. so s holds)

abbrev entry_of : PostingRow → Data
entry_of row = entry_data row.number row.key row.rec

-- A list that receives rows has them appended.
rows_listed : (old new : PostingLister) (rows : List PostingRow) → SinkAcceptsAll ListsRow old rows new
    → entries new.listing ≡ entries old.listing ++ map entry_of rows
rows_listed old new [] took = ap (λ (r : PostingLister). entries r.listing) took
    ∙ sym (append-nil (entries old.listing))
rows_listed old new (row ∷ rows) took =
    rows_listed took.0 new rows took.2 ∙ ap (λ (es : List Data). es ++ map entry_of rows) took.1
    ∙ append_assoc (entries old.listing) (entry_of row ∷ []) (map entry_of rows)

-- An empty list that receives the postings assigned to the concept has exactly these.
pub listed_at : (s : State) (concept : ℕ) (old new : PostingLister) → entries old.listing ≡ []
    → SinkAcceptsAll ListsRow old (rows_assigned_to s concept) new
    → listing_data (entries new.listing) ≡ postings_data (assigned_histories concept s.histories)
listed_at s concept old new none took =
    ap listing_data (rows_listed old new (rows_assigned_to s concept) took
    ∙ ap (λ (es : List Data). es ++ map entry_of (rows_assigned_to s concept)) none
    ∙ map-map entry_of posting_row (assigned_histories concept s.histories))

-- The line of the list is the view of the postings assigned to the concept.
pub listing_viewed : (raw : Raw) (concept : ℕ) (old new : PostingLister) (answer : Option Refusal) (text : List ℕ)
    → answer ≡ None → AssignedPostingsResult ListsRow raw concept old (Ok answer) new → entries old.listing ≡ [] → text
    ≡ line_text (listing_data (entries new.listing))
    → InStateOfTables raw (λ s. IsQueryAnswer s (asked.Postings concept) (Ok (viewed.Page text)))
listing_viewed raw concept old new answer text none lists empty is base s x =
    let so = subst (λ (o : Option Refusal). AssignedPostingsResult ListsRow raw concept old (Ok o) new) none lists base
    s x in (
      views.Postings (assigned_histories concept s.histories),
      (so.0, refl),
      is
          ∙ ap line_text (listed_at s concept old new empty so.1),
    )

-- If the number isn't a concept's, the refusal of its list of postings is the refusal of the view.
pub refusal_viewed : (raw : Raw) (concept : ℕ) (old new : PostingLister) (answer : Option Refusal) (refusal : Refusal)
    → answer ≡ Some refusal → AssignedPostingsResult ListsRow raw concept old (Ok answer) new
    → InStateOfTables raw (λ s. IsQueryAnswer s (asked.Postings concept) (Ok (viewed.No refusal)))
refusal_viewed raw concept old new answer refusal some lists =
    let so = subst (λ (o : Option Refusal). AssignedPostingsResult ListsRow raw concept old (Ok o) new) some lists in
    so.1

module _ {K : Type 0} (view : K → StorageView) where
  -- The view of a concept from the core of an office is a view of the state that the tables encode.
  pub concept_ready : (old new : OfficeView K) (result : Result (Bor core.CoreView) Fault) (copy : Bor core.CoreView)
      (n : ℕ) (answer : QueryAnswer) → ReadyResult view old result new → result ≡ Ok copy
      → ((s : State) → IsViewOf copy.now s → IsQueryAnswer s (asked.Concept n) (Ok answer))
      → OfficeShows view old (asked.Concept n) (Ok answer) new
  concept_ready old new result copy n answer ready is so =
      let here = subst (λ (r : Result (Bor core.CoreView) Fault). ReadyResult view old r new) is ready in
      record {
        fault_behaviour = behaviour_with_value view old new copy answer here.fault_behaviour;
        same = here.same;
        viewed = λ up. holds_in_encoded_states (view new.keeper).rows new.limits copy.now
            (λ s. IsQueryAnswer s (asked.Concept n) (Ok answer)) (here.shown.copies up) so;
      }

  -- A result that is right for each state that the core holds is right for the state that the tables encode.
  pub result_ready : {A : Type 0} (IsSo : List ℕ → State → A → Type 0) (old new : OfficeView K)
      (result : Result (Bor core.CoreView) Fault) (copy : Bor core.CoreView) (answer : A)
      → ReadyResult view old result new → result ≡ Ok copy
      → ((s : State) → IsViewOf copy.now s → IsLegalState copy.now.setting.base s → IsSo copy.now.setting.base s answer)
      → HoldsOfState view IsSo old (Ok answer) new
  result_ready IsSo old new result copy answer ready is so =
      let here = subst (λ (r : Result (Bor core.CoreView) Fault). ReadyResult view old r new) is ready in
      record {
        fault_behaviour = behaviour_with_value view old new copy answer here.fault_behaviour;
        same = here.same;
        holds = λ up. held_based (view new.keeper).rows new.limits copy.now (λ base s. IsSo base s answer)
            (here.shown.copies up) so;
      }
