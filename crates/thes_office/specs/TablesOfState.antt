-- The relation of a store's tables to the state that they encode.
use Rattle.std.specs.Prelude.{◌≡◌, ℕ, List}
use Rattle.thes_base.specs.State.{State}
use Rattle.thes_base.specs.Legal.{IsLegalState}
use Rattle.thes_tables.specs.Cells.{Raw, cells_of_tables}
use Rattle.thes_tables.specs.Tables.{Tables, IsRowsOf}

-- The rows encode this legal state, with this base.
pub record TablesOfState (raw : Raw) (base : List ℕ) (s : State) : Type 0 where
  pub tables : Tables
  pub rows : raw ≡ cells_of_tables tables
  pub holds : IsRowsOf base s tables
  pub legal : IsLegalState base s

-- The tables of two stores, `first` and `second`, encode the same state, with this base.
pub record EncodeOneState (base : List ℕ) (first second : Raw) : Type 0 where
  pub state : State
  pub one : TablesOfState first base state
  pub other : TablesOfState second base state
