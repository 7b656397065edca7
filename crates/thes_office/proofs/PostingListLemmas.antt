-- Proves that queries of postings return the histories, rows and totals of the state.
use Rattle.std.proofs.lemmas.Grind.{common_steps}
use Rattle.std.proofs.Common.{◌≡◌, ◌-◌, ℕ, List, [], ◌∷◌, refl, sym, ap, subst, ◌∙◌, inl, map, arith}
use Rattle.std.specs.Prelude.{Option, None, Some, Result, option_map}
use Rattle.thes_base.specs.declared.data.History.{History}
use Rattle.thes_base.specs.declared.data.Move.{Move}
use Rattle.thes_base.specs.declared.fault.Fault.{Fault}
use Rattle.thes_base.specs.declared.fault.Refusal.{Refusal}
use Rattle.thes_base.specs.declared.data.Limits.{Limits}
use Rattle.thes_base.specs.declared.data.Resource.{Resource}
use Rattle.thes_base.specs.declared.data.Totals.{Totals}
use Rattle.thes_base.specs.RuleParts.{unless_resource, unless_concept}
use Rattle.thes_base.specs.Resources.{entry_at, IsConcept}
use Rattle.thes_base.specs.RefusalRules.{accepted}
use Rattle.thes_base.specs.State.{State}
use Rattle.thes_base.specs.Views.{totals_of}
use Rattle.thes_tables.specs.declared.rows.PostingRow.{PostingRow}
use Rattle.thes_tables.specs.Cells.{Raw}
use Rattle.thes_tables.specs.Tables.{moves_of}
use Rattle.thes_core.specs.CoreView as core
use Rattle.thes_store.specs.Sinks.{SinkAcceptsAll, SinkAcceptsPrefix}
use Rattle.thes_store.specs.Reading.{PostingWithMoves, IsPostingOfNumber, assigned_posting_rows}
use Rattle.thes_load_rules.specs.Rules as tables
use Rattle.thes_load_rules.proofs.LegalTableLemmas.{held_loads}
use Rattle.thes_office.specs.QueryFrames.{InStateOfTables}
use Rattle.thes_office.specs.AssignedPostings.{rows_assigned_to}
use Rattle.thes_office.specs.Office.{IsCopy}
use Rattle.thes_office.specs.TablesOfState.{TablesOfState}
use Rattle.thes_plan_postings.proofs.PlanPostingLemmas.{numbered_map}
use Rattle.thes_office.proofs.FactLemmas.{assigned_rows}
use Rattle.thes_office.proofs.StateTableLemmas.{state_is_unique}

-- A posting's row and its moves determine the posting's history.
pub history_of_posting : (raw : Raw) (base : List ℕ) (s : State) (x : TablesOfState raw base s) (n : ℕ)
    (told : PostingWithMoves) → IsPostingOfNumber n x.tables (Some told)
    → Some (record {
      number = told.row.number;
      key = told.row.key;
      rec = told.row.rec;
      first = told.row.first;
      moves = told.moves;
      withdrawn = told.row.withdrawn;
    }) ≡ entry_at s.histories n
history_of_posting raw base s x n told is =
    let hs : map (tables.history_of x.tables.move) x.tables.posting ≡ s.histories =
    ap (λ (t : State). t.histories) (held_loads base s x.tables x.legal x.holds).1 in
    let at : Some (tables.history_of x.tables.move told.row) ≡ entry_at s.histories n =
    ap (option_map (tables.history_of x.tables.move)) (sym is.0)
    ∙ sym (numbered_map (tables.history_of x.tables.move) x.tables.posting n)
    ∙ ap (λ (l : List History). entry_at l n) hs in
    let number : told.row.number ≡ n =
    (x.legal.postings.sound n (tables.history_of x.tables.move told.row) (sym at)).number in
    let moves : told.moves ≡ moves_of told.row.number x.tables.move = is.1 ∙ ap (λ (k : ℕ). moves_of k x.tables.move)
    (sym number) in
    ap (λ (ms : List Move). Some (record {
      number = told.row.number;
      key = told.row.key;
      rec = told.row.rec;
      first = told.row.first;
      moves = ms;
      withdrawn = told.row.withdrawn;
    })) moves ∙ at

-- A number without a posting has no history.
pub history_of_none : (raw : Raw) (base : List ℕ) (s : State) (x : TablesOfState raw base s) (n : ℕ)
    → IsPostingOfNumber n x.tables None → None ≡ entry_at s.histories n
history_of_none raw base s x n is = grind (arith, common_steps, held_loads, numbered_map)

-- The check of a concept gives the same answer in the copy as in the state.
pub concept_check_of_copy : (raw : Raw) (limits : Limits) (copy : core.CoreView) → IsCopy raw limits copy
    → (concept : ℕ) (answer : Option Refusal) → unless_resource (IsConcept copy.resources) copy.resources concept
    accepted answer → InStateOfTables raw (λ s. unless_concept s concept answer)
concept_check_of_copy raw limits copy is concept answer judges base s x =
    subst (λ (rs : List Resource). unless_resource (IsConcept rs) rs concept accepted answer)
    (ap (λ (t : State). t.resources)
    (is.holds.state ∙ (state_is_unique raw copy.setting.base base is.state s is.shows x).1)) judges

-- The totals of the copy are those of the state.
pub totals_of_copy : (raw : Raw) (limits : Limits) (copy : core.CoreView) (totals : Totals) → IsCopy raw limits copy
    → totals.accepted ≡ copy.posting_counts.accepted → totals.withdrawn ≡ copy.posting_counts.withdrawn
    → totals.standing
    ≡ copy.posting_counts.accepted - copy.posting_counts.withdrawn
    → InStateOfTables raw (λ s. totals ≡ totals_of s.histories)
totals_of_copy raw limits copy totals is accepted withdrawn standing base s x =
    let posting_counts = is.holds.posting_counts in
    (λ i. record {
      accepted = (accepted ∙ posting_counts.accepted) i;
      withdrawn = (withdrawn ∙ posting_counts.withdrawn) i;
      standing = (standing ∙ (λ j. posting_counts.accepted j - posting_counts.withdrawn j)) i;
    })
    ∙ ap (λ (t : State). totals_of t.histories) (state_is_unique raw copy.setting.base base is.state s is.shows x).1

-- The rows of the postings assigned to a concept are those of the histories assigned to it.
rows_of_histories_at : (raw : Raw) (base : List ℕ) (s : State) (x : TablesOfState raw base s) (concept : ℕ)
    → assigned_posting_rows concept x.tables.posting ≡ rows_assigned_to s concept
rows_of_histories_at raw base s x concept = ap (assigned_posting_rows concept) x.holds.posting
    ∙ assigned_rows concept s.histories

module _ {S : Type 0} (gives : S → PostingRow → Result (Unit {0}) Fault → S → Type 0) (raw : Raw) (concept : ℕ)
    (old new : S) where
  pub takes_rows_assigned : (base : List ℕ) (s : State) (x : TablesOfState raw base s) → SinkAcceptsAll gives old
      (assigned_posting_rows concept x.tables.posting) new → SinkAcceptsAll gives old (rows_assigned_to s concept) new
  takes_rows_assigned base s x took = subst (λ (rows : List PostingRow). SinkAcceptsAll gives old rows new)
      (rows_of_histories_at raw base s x concept) took

  pub takes_some_assigned : (fault : Fault) (base : List ℕ) (s : State) (x : TablesOfState raw base s)
      → SinkAcceptsPrefix gives fault old (assigned_posting_rows concept x.tables.posting) new
      → SinkAcceptsPrefix gives fault
      old (rows_assigned_to s concept) new
  takes_some_assigned fault base s x took =
      subst (λ (rows : List PostingRow). SinkAcceptsPrefix gives fault old rows new)
      (rows_of_histories_at raw base s x concept) took

  -- A sink that has received nothing has received a prefix of the rows.
  pub takes_none : (fault : Fault) (rows : List PostingRow) → SinkAcceptsPrefix gives fault old rows old
  takes_none fault [] = refl
  takes_none fault (row ∷ rows) = inl refl
