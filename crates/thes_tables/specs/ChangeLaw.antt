-- The law of row changes: the changes of a request that is accepted in a legal state turn the rows of that state into
-- those of the next state.
use Rattle.std.specs.Prelude.{List, ℕ, None}
use Rattle.thes_base.specs.declared.request.Command.{Command}
use Rattle.thes_base.specs.State.{State}
use Rattle.thes_base.specs.Legal.{IsLegalState}
use Rattle.thes_base.specs.Refusals.{Setting}
use Rattle.thes_base.specs.Machine.{HasNewKey, next_state, refusal_rule_of}
use Rattle.thes_tables.specs.declared.change.Change.{Change}
use Rattle.thes_tables.specs.Tables.{Tables, IsRowsOf}
use Rattle.thes_tables.specs.Rows.{tables_after_delta, DeltaFits}
use Rattle.thes_tables.specs.Changes.{changes_of}

-- The changes can be applied to the rows of the state `s`, and turn them into rows of the state `t`.
pub record AreChangesBetween (base : List ℕ) (changes : List Change) (s t : State) : Type 0 where
  pub rows : (tables : Tables) → IsRowsOf base s tables → IsRowsOf base t (tables_after_delta changes tables)
  pub fit : (tables : Tables) → IsRowsOf base s tables → DeltaFits changes tables

-- The changes of every request that is accepted in a legal state, and whose key isn't known, turn the rows of that
-- state into those of the next state.
abbrev pub ChangesLead : Type 0
ChangesLead =
    (setting : Setting) (s : State) (command : Command) → IsLegalState setting.base s → HasNewKey command s
    → refusal_rule_of setting s (next_state command s) command None
    → AreChangesBetween setting.base (changes_of command s) s (next_state command s)
