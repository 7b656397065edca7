-- Proves which stage follows a row of some table, or the report that the table can't be queried.
use Rattle.std.proofs.lemmas.Grind.{common_steps}
use Rattle.std.proofs.Common.{◌≡◌, ◌↔◌, ◌<◌, ◌≤◌, ◌+◌, ◌-◌, ◌∙◌, ℕ, zero, suc, Bool, false, true≢false, List, refl}
use Rattle.std.proofs.Common.{sym, subst, arith}
use Rattle.std.specs.Prelude.{Option, None, Some, IsTrue}
use Rattle.thes_base.specs.declared.fault.Fault.{Fault}
use Rattle.thes_base.specs.declared.fault.Table.{Table}
use Rattle.thes_tables.specs.declared.cells.Cell.{Cell}
use Rattle.thes_tables.specs.Cells.{Raw}
use Rattle.thes_load_rows.specs.declared.stage.Stage.{Stage}
use Rattle.thes_load_rows.specs.declared.stage.Stage.TheVariants as stage
use Rattle.thes_tables.specs.TableOrder.{next_table, table_no}
use Rattle.thes_load_rows.specs.Progress.{is_stopped, HasRead}
use Rattle.thes_load_rows.specs.Turns.{IsOfRows, NextStage, with_news}
use Rattle.thes_load_rows.proofs.StageCloseLemmas.{stopped_on}
use Rattle.thes_load_rows.proofs.StageRowLemmas.{stopped_row}
use Rattle.thes_load_rows.proofs.TableOrderLemmas.{table_same, next_no, last_no}
use Rattle.thes_load_rows.proofs.LostTableLemmas.{stopped_lost}

-- If the load isn't past a table, the table is in turn (IsInTurn).
pub in_turn : (past : Bool) (m n : ℕ) → (IsTrue past ↔ (m < n)) → past ≡ false → n ≤ m
in_turn past m n both unset = let none : m < n → ⊥ = λ lt. true≢false (sym (both.1 lt) ∙ unset) in omega (arith, none)

-- The fault of a stopped stage stays the verdict when later tables come.
stopped_reaches : (k : ℕ) (fault : Fault) (at name : Table) → table_no at + k ≡ table_no name → (raw : Raw)
    → HasRead (stage.Stopped fault at) raw → HasRead (stage.Stopped fault name) raw
stopped_reaches zero fault at name there raw has = subst (λ (t : Table). HasRead (stage.Stopped fault t) raw)
    (table_same at name (omega (arith, there))) has
stopped_reaches (suc k) fault at name there raw has =
    let next = next_no at (omega (arith, there, last_no name)) in
    stopped_reaches k fault (next_table at) name (omega (arith, there, next)) raw ((stopped_on fault at).1 raw has)

-- A further row of the table, or the report that it can't be queried, doesn't change the verdict.
stopped_news : (fault : Fault) (name : Table) (news : Option (List Cell)) (raw : Raw)
    → HasRead (stage.Stopped fault name) raw → HasRead (stage.Stopped fault name) (with_news name news raw)
stopped_news fault name None raw has = stopped_lost (stage.Stopped fault name) refl raw has
stopped_news fault name (Some cells) raw has = (stopped_row fault name cells).1 raw has

pub stopped_follows : (fault : Fault) (at name : Table) (news : Option (List Cell)) → table_no at ≤ table_no name
    → NextStage name news (stage.Stopped fault at) (stage.Stopped fault name)
stopped_follows fault at name news turn = record {
  table_is = λ turn. refl;
  reads = λ turn raw has. stopped_news fault name news raw (stopped_reaches (table_no name - table_no at) fault
      at name (omega (arith, turn)) raw has);
  late = λ lt. absurd (omega (arith, lt, turn));
}

pub not_stopped : (s : Stage) → ((fault : Fault) (at : Table) → s ≡ stage.Stopped fault at → ⊥) → is_stopped s ≡ false
not_stopped s never = grind (arith, common_steps)

-- A stopped stage satisfies the invariant of stages (IsOfRows), whatever rows were read.
pub stopped_of_rows : (fault : Fault) (at : Table) → IsOfRows (stage.Stopped fault at)
stopped_of_rows fault at = λ unset. absurd (true≢false unset)
