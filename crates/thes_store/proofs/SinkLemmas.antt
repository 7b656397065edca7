-- Passing a list to a sink in parts has the same outcome as passing it whole.
use Rattle.std.proofs.lemmas.Grind.{common_steps}
use Rattle.std.proofs.Common.{◌≡◌, ◌<◌, ◌+◌, ◌++◌, ◌∙◌, inl, inr, ℕ, zero, suc, List, [], ◌∷◌, length, map, take}
use Rattle.std.proofs.Common.{get_or, refl, sym, ap, subst, arith, append_assoc, append-nil, Bool}
use Rattle.std.proofs.lemmas.List.{map-append}
use Rattle.std.proofs.lemmas.List.Elements.{filter_map-append}
use Rattle.std.specs.List.{filter_map}
use Rattle.std.specs.Prelude.{Option, Some, Result, Ok, Err, slice_get}
use Rattle.std.specs.Result.{IsErr}
use Rattle.thes_base.specs.declared.fault.Fault.{Fault}
use Rattle.thes_base.specs.declared.fault.Table.{Table}
use Rattle.thes_base.specs.declared.fault.Table.TheVariants as table
use Rattle.thes_base.specs.declared.data.Resource.{Resource}
use Rattle.thes_tables.specs.declared.cells.Cell.{Cell}
use Rattle.thes_tables.specs.Cells.{Raw, resource_cells, resource_rows}
use Rattle.thes_tables.specs.TableOrder.{raw_rows_of}
use Rattle.thes_store.specs.Sinks.{SinkAcceptsAll, SinkAcceptsPrefix, SinkOutcome, sink_rows_of_table}
use Rattle.thes_store.specs.Sinks.{sink_rows_of_tables}
use Rattle.thes_store.specs.RowsAtPositions.{filtered_option, rows_at_positions}
use Rattle.thes_store.proofs.IndexPositionLemmas.{take_one, split_at, picked_append, picked_cons}

module _ {S A : Type 0} (gives : S → A → Result (Unit {0}) Fault → S → Type 0) where
  -- Passing one row gives the outcome of a list of one row.
  pub one_sink_row : (old new : S) (x : A) (result : Result (Unit {0}) Fault) → gives old x result new
      → SinkOutcome gives old (x ∷ []) result new
  one_sink_row old new x result g = grind (arith, common_steps)

  pub accepts_then : (xs ys : List A) (old mid new : S) → SinkAcceptsAll gives old xs mid → SinkAcceptsAll gives mid
      ys new → SinkAcceptsAll gives old (xs ++ ys) new
  accepts_then [] ys old mid new t u = subst (λ m. SinkAcceptsAll gives m ys new) t u
  accepts_then (x ∷ xs) ys old mid new t u = (t.0, t.1, accepts_then xs ys t.0 mid new t.2 u)

  pub some_then : (xs ys : List A) (fault : Fault) (old mid new : S) → SinkAcceptsAll gives old xs mid
      → SinkAcceptsPrefix gives fault mid ys new → SinkAcceptsPrefix gives fault old (xs ++ ys) new
  some_then [] ys fault old mid new t u = subst (λ m. SinkAcceptsPrefix gives fault m ys new) t u
  some_then (x ∷ xs) ys fault old mid new t u = inr (inr (t.0, t.1, some_then xs ys fault t.0 mid new t.2 u))

  pub some_more : (xs ys : List A) (fault : Fault) (old new : S) → SinkAcceptsPrefix gives fault old xs new
      → SinkAcceptsPrefix gives fault old (xs ++ ys) new
  some_more [] [] fault old new t = t
  some_more [] (y ∷ ys) fault old new t = inl t
  some_more (x ∷ xs) ys fault old new t = grind (arith, common_steps, some_more xs ys fault)

abbrev pub sink_rows_of_slots : {R : Type 0} → Table → (R → List Cell) → List (Option R)
    → List (Table × Option (List Cell))
sink_rows_of_slots name cells slots = sink_rows_of_table name (Some (map cells (filter_map (λ slot. slot) slots)))

pub slots_append : {R : Type 0} (name : Table) (cells : R → List Cell) (xs ys : List (Option R))
    → sink_rows_of_slots name cells (xs ++ ys) ≡ sink_rows_of_slots name cells xs ++ sink_rows_of_slots name cells ys
slots_append {R = R} name cells xs ys = grind (arith, common_steps, filter_map-append, map-append)

abbrev as_resource : List Cell → Table × Option (List Cell)
as_resource row = (table.Resource, Some row)

resources_take : (n : ℕ) (rs : List Resource) (i : ℕ) (r : Resource) → i < length rs → r ≡ get_or rs i r
    → resource_rows n (take (suc i) rs) ≡ resource_rows n (take i rs) ++ resource_cells (n + i) r ∷ []
resources_take n [] i r lt is = absurd (omega arith)
resources_take n (x ∷ rs) zero r lt is = let e : n ≡ n + 0 = omega arith in λ j. resource_cells (e j) (sym is j) ∷ []
resources_take n (x ∷ rs) (suc i) r lt is = grind (arith, common_steps, resources_take (n + 1) rs i r)

resources_split : (n : ℕ) (rs : List Resource) (i : ℕ) (r : Resource) → i < length rs → r ≡ get_or rs i r
    → (rest : List (List Cell)) × (resource_rows n rs ≡ resource_rows n (take i rs) ++ resource_cells (n + i) r
    ∷ rest)
resources_split n [] i r lt is = absurd (omega arith)
resources_split n (x ∷ rs) zero r lt is = let e : n ≡ n + 0 = omega arith in
    (resource_rows (n + 1) rs, λ j. resource_cells (e j) (sym is j) ∷ resource_rows (n + 1) rs)
resources_split n (x ∷ rs) (suc i) r lt is = grind (arith, common_steps, resources_split (n + 1) rs i r)

module _ {S : Type 0} (gives : S → Table × Option (List Cell) → Result (Unit {0}) Fault → S → Type 0) where
  pub resource_accepted : (rs : List Resource) (i : ℕ) (r : Resource) (old mid new : S) → i < length rs → r
      ≡ get_or rs i r → SinkAcceptsAll gives old (map as_resource (resource_rows 1 (take i rs))) mid
      → SinkAcceptsAll gives mid (as_resource (resource_cells (1 + i) r) ∷ []) new
      → SinkAcceptsAll gives old (map as_resource (resource_rows 1 (take (i + 1) rs))) new
  resource_accepted rs i r old mid new lt is t u =
      subst (λ (n : ℕ). SinkAcceptsAll gives old (map as_resource (resource_rows 1 (take n rs))) new)
      (let e : suc i ≡ i + 1 = omega arith in e)
      (subst (λ l. SinkAcceptsAll gives old l new)
      (sym (ap (map as_resource) (resources_take 1 rs i r lt is) ∙ map-append as_resource
      (resource_rows 1 (take i rs)) (resource_cells (1 + i) r ∷ [])))
      (accepts_then gives (map as_resource (resource_rows 1 (take i rs))) (as_resource (resource_cells (1 + i) r)
      ∷ []) old mid new t u))

  pub resource_refused : (rs : List Resource) (i : ℕ) (r : Resource) (fault : Fault) (old mid new : S) → i < length rs
      → r ≡ get_or rs i r → SinkAcceptsAll gives old (map as_resource (resource_rows 1 (take i rs))) mid
      → SinkAcceptsPrefix gives fault mid (as_resource (resource_cells (1 + i) r) ∷ []) new
      → SinkAcceptsPrefix gives fault old (map as_resource (resource_rows 1 rs)) new
  resource_refused rs i r fault old mid new lt is t u =
      let h = resources_split 1 rs i r lt is in
      subst (λ l. SinkAcceptsPrefix gives fault old l new)
      (sym (ap (map as_resource) h.1 ∙ map-append as_resource (resource_rows 1 (take i rs))
      (resource_cells (1 + i) r ∷ h.0)))
      (some_then gives (map as_resource (resource_rows 1 (take i rs))) (as_resource (resource_cells (1 + i) r)
      ∷ map as_resource h.0) fault old mid new t
      (some_more gives (as_resource (resource_cells (1 + i) r) ∷ []) (map as_resource h.0) fault mid new u))

pub tables_append : (raw : Raw) (names more : List Table) → sink_rows_of_tables raw (names ++ more)
    ≡ sink_rows_of_tables raw names ++ sink_rows_of_tables raw more
tables_append raw [] more = refl
tables_append raw (name ∷ names) more = ap (λ l. sink_rows_of_table name (raw_rows_of name raw) ++ l)
    (tables_append raw names more)
    ∙ sym (append_assoc (sink_rows_of_table name (raw_rows_of name raw)) (sink_rows_of_tables raw names)
    (sink_rows_of_tables raw more))

module _ {S A X : Type 0} (gives : S → A → Result (Unit {0}) Fault → S → Type 0) (parts : List X → List A)
    (splits : (xs ys : List X) → parts (xs ++ ys) ≡ parts xs ++ parts ys) where
  pub part_accepted : (xs : List X) (i : ℕ) (x : X) (old mid new : S) (r : Result (Unit {0}) Fault) (done : Unit {0})
      → i < length xs → x ≡ get_or xs i x → SinkAcceptsAll gives old (parts (take i xs)) mid → r ≡ Ok done
      → SinkOutcome gives mid (parts (x ∷ [])) r new → SinkAcceptsAll gives old (parts (take (i + 1) xs)) new
  part_accepted xs i x old mid new r done lt is t ok h = grind (arith, common_steps, take_one, accepts_then, splits)

  pub part_refused : (xs : List X) (i : ℕ) (x : X) (fault : Fault) (old mid new : S) (r : Result (Unit {0}) Fault) → i
      < length xs → x ≡ get_or xs i x → SinkAcceptsAll gives old (parts (take i xs)) mid → r ≡ Err fault
      → SinkOutcome gives mid (parts (x ∷ [])) r new → SinkAcceptsPrefix gives fault old (parts xs) new
  part_refused xs i x fault old mid new r lt is t err h =
      let rest = split_at xs i x lt is in
      subst (λ l. SinkAcceptsPrefix gives fault old l new)
      (sym (ap parts rest.1 ∙ splits (take i xs) (x ∷ rest.0) ∙ ap (λ l. parts (take i xs) ++ l)
      (splits (x ∷ []) rest.0)))
      (some_then gives (parts (take i xs)) (parts (x ∷ []) ++ parts rest.0) fault old mid new t
      (some_more gives (parts (x ∷ [])) (parts rest.0) fault mid new
      (subst (λ q. SinkOutcome gives mid (parts (x ∷ [])) q new) err h)))

module _ {S A : Type 0} (gives : S → A → Result (Unit {0}) Fault → S → Type 0) (p : A → Bool) (rows : List A)
    (positions : List ℕ) (i position : ℕ) (o : Option A) (old mid new : S) (r : Result (Unit {0}) Fault)
    (lt : i < length positions)
    (is : position ≡ get_or positions i position) (t : SinkAcceptsAll gives old (rows_at_positions p rows
    (take i positions)) mid)
    (found : o ≡ slice_get rows position) (h : SinkOutcome gives mid (filtered_option p o) r new) where
  at_position : SinkOutcome gives mid (rows_at_positions p rows (position ∷ [])) r new
  at_position = subst (λ l. SinkOutcome gives mid l r new) (ap (filtered_option p) found
      ∙ sym (picked_cons p rows position [] ∙ append-nil _)) h

  -- A sink that has accepted the rows at the positions so far, and then the row at the next position if that row passes
  -- the test, has accepted the rows at all positions up to that one.
  pub position_accepted : (done : Unit {0}) → r ≡ Ok done
      → SinkAcceptsAll gives old (rows_at_positions p rows (take (i + 1) positions)) new
  position_accepted done ok = part_accepted gives (rows_at_positions p rows) (picked_append p rows) positions i position
      old mid
      new r done lt is t ok at_position

  pub position_refused : (fault : Fault) → r ≡ Err fault
      → SinkAcceptsPrefix gives fault old (rows_at_positions p rows positions) new
  position_refused fault err = part_refused gives (rows_at_positions p rows) (picked_append p rows) positions i position
      fault
      old mid new r lt is t err at_position

module _ {S A : Type 0} (gives : S → A → Result (Unit {0}) Fault → S → Type 0) where
  pub none_accepted : (xs : List A) (fault : Fault) (old : S) → SinkAcceptsPrefix gives fault old xs old
  none_accepted [] fault old = refl
  none_accepted (x ∷ xs) fault old = inl refl

  -- A fault before the first row leaves the sink unchanged.
  pub fault_before_first : (xs : List A) (old : S) (r : Result (Unit {0}) Fault) → IsErr r → SinkOutcome gives old xs
      r old
  fault_before_first xs old (Ok done) is = absurd (cc)
  fault_before_first xs old (Err fault) is = none_accepted xs fault old
