-- Proves that the rows of a legal state load and encode no other state, and that the changes to a
-- next state make them the rows of that state.
use Rattle.std.proofs.lemmas.Grind.{common_steps}
use Rattle.std.proofs.Common.{◌≡◌, ℕ, List, sym, ap, subst, ◌∙◌, arith}
use Rattle.std.specs.Prelude.{Ok, Err}
use Rattle.thes_base.specs.declared.fault.Fault.{Fault}
use Rattle.thes_base.specs.State.{State}
use Rattle.thes_base.specs.Legal.{IsLegalState}
use Rattle.thes_tables.specs.declared.change.Change.{Change}
use Rattle.thes_tables.specs.Cells.{Raw, cells_of_tables}
use Rattle.thes_tables.specs.ChangeLaw.{AreChangesBetween}
use Rattle.thes_tables.specs.Rows.{tables_after_delta, DeltaFits}
use Rattle.thes_tables.specs.Tables.{Tables, IsRowsOf}
use Rattle.thes_tables.proofs.CellLemmas.{listed_one}
use Rattle.thes_load_rules.specs.Verdicts.{HasVerdict}
use Rattle.thes_load_rules.specs.Rules.{state_of}
use Rattle.thes_load_rules.proofs.LegalTableLemmas.{held_loads}
use Rattle.thes_load_rules.proofs.OneVerdictLemmas.{loads_single}
use Rattle.thes_load_rules.proofs.LoadedStateLemmas.{loaded_state_legal}
use Rattle.thes_office.specs.TablesOfState.{TablesOfState}

-- Rows that load encode the state of their tables.
pub loaded_shows_state : (raw : Raw) (t : Tables) → HasVerdict raw (Ok t) → TablesOfState raw t.base (state_of t)
loaded_shows_state raw t loads =
    let x = loaded_state_legal raw t loads in
    record { tables = t; rows = x.2; holds = x.1; legal = x.0 }

-- Rows that encode a legal state load.
pub state_tables_load : (raw : Raw) (base : List ℕ) (s : State) → (x : TablesOfState raw base s)
    → HasVerdict raw (Ok x.tables)
state_tables_load raw base s x =
    subst (λ (r : Raw). HasVerdict r (Ok x.tables)) (sym x.rows) (held_loads base s x.tables x.legal x.holds).0

pub faulty_has_no_state : (raw : Raw) (fault : Fault) → HasVerdict raw (Err fault) → (base : List ℕ) (s : State)
    → TablesOfState raw base s → ⊥
faulty_has_no_state raw fault faulty base s x =
    let same : Ok x.tables ≡ Err fault = loads_single raw (Ok x.tables) (Err fault) (state_tables_load raw base s x)
    faulty in
    absurd (cc)

-- Rows encode at most one state.
pub state_is_unique : (raw : Raw) (base other : List ℕ) (s t : State) → TablesOfState raw base s
    → TablesOfState raw other t → (base ≡ other) × (s ≡ t)
state_is_unique raw base other s t x y =
    let same = listed_one x.tables y.tables (sym x.rows ∙ y.rows) in (
      sym x.holds.base_is ∙ ap (λ (u : Tables). u.base) same ∙ y.holds.base_is,
      sym (held_loads base s x.tables x.legal x.holds).1 ∙ ap state_of same
          ∙ (held_loads other t y.tables y.legal y.holds).1,
    )

-- If the rows encode a state and are the cells of some tables, these tables hold the state.
pub listed_tables_hold_state : (raw : Raw) (base : List ℕ) (s : State) (t : Tables) → TablesOfState raw base s → raw
    ≡ cells_of_tables t → IsRowsOf base s t
listed_tables_hold_state raw base s t x is = subst (IsRowsOf base s) (listed_one x.tables t (sym x.rows ∙ is)) x.holds

pub changes_fit : (raw : Raw) (base : List ℕ) (s next : State) (changes : List Change) → TablesOfState raw base s
    → AreChangesBetween base changes s next → (t : Tables) → raw ≡ cells_of_tables t → DeltaFits changes t
changes_fit raw base s next changes x leads t is = leads.fit t (listed_tables_hold_state raw base s t x is)

-- The rows after the changes between two states encode the second.
pub state_after_changes : (old new : Raw) (base : List ℕ) (s next : State) (changes : List Change)
    → TablesOfState old base s → AreChangesBetween base changes s next → IsLegalState base next
    → ((t : Tables) → old ≡ cells_of_tables t → new ≡ cells_of_tables (tables_after_delta changes t))
    → TablesOfState new base next
state_after_changes old new base s next changes x leads legal made = grind (arith, common_steps)

-- Equal rows encode the same state.
pub same_tables_same_state : (old new : Raw) (base : List ℕ) (s : State) → new ≡ old → TablesOfState old base s
    → TablesOfState new base s
same_tables_same_state old new base s same x = subst (λ (r : Raw). TablesOfState r base s) (sym same) x
