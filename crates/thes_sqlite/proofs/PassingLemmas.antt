-- Proves that the inner sink receives all rows that a counting sink receives.
use Rattle.std.proofs.Common.{◌≡◌, ◌∙◌, List, [], ◌∷◌, Ok, Err, sym, ap, subst, inl, inr}
use Rattle.std.specs.Prelude.{OnOk, Option, Result}
use Rattle.thes_base.specs.declared.fault.Fault.{Fault}
use Rattle.thes_base.specs.declared.fault.Table.{Table}
use Rattle.thes_tables.specs.declared.cells.Cell.{Cell}
use Rattle.thes_tables.specs.Cells.{Raw}
use Rattle.thes_store.specs.FoundLoads.{PassesFound}
use Rattle.thes_store.specs.Sinks.{SinkAcceptsAll, SinkAcceptsPrefix, SinkOutcome, sink_rows}
use Rattle.thes_sqlite.specs.Passing.{Passes}
use Rattle.thes_sqlite.specs.declared.progress.counting_sink.CountingSink.{CountingSink}

module _ {S P : Type 0} (gives : S → Table × Option (List Cell) → Result (Unit {0}) Fault → S → Type 0) where
  passes_none : (old new : CountingSink S P) → new ≡ old → (new.sink.ghost_name ≡ old.sink.ghost_name)
      × (new.sink.now ≡ old.sink.now)
  passes_none old new same =
      (ap (λ (c : CountingSink S P). c.sink.ghost_name) same, ap (λ (c : CountingSink S P). c.sink.now) same)

  takes_behind : (old : CountingSink S P) (xs : List (Table × Option (List Cell))) (new : CountingSink S P)
      → SinkAcceptsAll (Passes gives) old xs new
      → (new.sink.ghost_name ≡ old.sink.ghost_name) × SinkAcceptsAll gives old.sink.now xs new.sink.now
  takes_behind old [] new h = passes_none old new h
  takes_behind old (x ∷ xs) new h =
      let rest = takes_behind h.0 xs new h.2 in
      (rest.0 ∙ h.1.0, (h.0.sink.now, h.1.1, rest.1))

  takes_some_behind : (fault : Fault) (old : CountingSink S P) (xs : List (Table × Option (List Cell)))
      (new : CountingSink S P) → SinkAcceptsPrefix (Passes gives) fault old xs new
      → (new.sink.ghost_name ≡ old.sink.ghost_name) × SinkAcceptsPrefix gives fault old.sink.now xs new.sink.now
  takes_some_behind fault old [] new h = passes_none old new h
  takes_some_behind fault old (x ∷ xs) new (inl h) =
      let none = passes_none old new h in
      (none.0, inl none.1)
  takes_some_behind fault old (x ∷ xs) new (inr (inl h)) = (h.0, inr (inl h.1))
  takes_some_behind fault old (x ∷ xs) new (inr (inr h)) =
      let rest = takes_some_behind fault h.0 xs new h.2 in
      (rest.0 ∙ h.1.0, inr (inr (h.0.sink.now, h.1.1, rest.1)))

  outcome_behind : (old : CountingSink S P) (xs : List (Table × Option (List Cell))) (result : Result (Unit {0}) Fault)
      (new : CountingSink S P) → SinkOutcome (Passes gives) old xs result new
      → (new.sink.ghost_name ≡ old.sink.ghost_name) × SinkOutcome gives old.sink.now xs result new.sink.now
  outcome_behind old xs (Ok done) new h = takes_behind old xs new h
  outcome_behind old xs (Err fault) new h = takes_some_behind fault old xs new h

  -- The inner sink, whose borrow ends with the value `x`, receives all rows.
  pub outcome_lent : (old : CountingSink S P) (xs : List (Table × Option (List Cell)))
      (result : Result (Unit {0}) Fault) (new : CountingSink S P) (x : S) → SinkOutcome (Passes gives) old xs result new
      → (old.sink.ghost_name ≡ new.sink.ghost_name → x ≡ new.sink.now) → SinkOutcome gives old.sink.now xs result x
  outcome_lent old xs result new x h e =
      let behind = outcome_behind old xs result new h in
      subst (λ (s : S). SinkOutcome gives old.sink.now xs result s) (sym (e (sym behind.0))) behind.1

  -- A load that passes its rows to a counting sink passes them to the inner sink.
  pub found_lent : {K : Type 0} {is_open : K → Type 0} {finds : K → Raw → Type 0} (old new : K)
      (before : CountingSink S P) (result : Result (Unit {0}) Fault) (after : CountingSink S P) (x : S)
      → PassesFound is_open finds (Passes gives) old new before result after
      → (before.sink.ghost_name ≡ after.sink.ghost_name → x ≡ after.sink.now)
      → PassesFound is_open finds gives old new before.sink.now result x
  found_lent {K} {is_open} {finds} old new before result after x h e =
      record { was = h.was; stays = h.stays; passes = passes_lent result h.passes }
    where
      passes_lent : (r : Result (Unit {0}) Fault) → OnOk r (is_open new → (raw : Raw) × finds old raw
          × SinkAcceptsAll (Passes gives) before (sink_rows raw) after)
          → OnOk r (is_open new → (raw : Raw) × finds old raw
          × SinkAcceptsAll gives before.sink.now (sink_rows raw) x)
      passes_lent (Ok done) passes = λ up.
          let h = passes up in (h.0, h.1, outcome_lent before (sink_rows h.0) (Ok done) after x h.2 e)
      passes_lent (Err fault) passes = tt
