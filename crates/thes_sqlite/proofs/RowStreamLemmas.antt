-- Proves that the rows of a query reach a sink as they are read.
use Rattle.std.proofs.Common.{◌≡◌, ℕ, List, [], ◌∷◌, ◌++◌, Option, Some, None, Result, false}
use Rattle.std.proofs.Common.{refl, sym, ap, subst, ◌∙◌, arith, append_assoc}
use Rattle.sqlite.specs.Order.{Row}
use Rattle.sqlite.specs.State.{State, HasCleanDisk, IsUnchanged, Survives, Shown, Begins, CommitsShowing}
use Rattle.sqlite.specs.Held.{Held, state}
use Rattle.sqlite.specs.Given.{HasGiven, HasBegun, Advances}
use Rattle.sqlite_trees.specs.declared.store.Store.{Ghosts}
use Rattle.sqlite.proofs.StateLemmas.{survives_then, unchanged}
use Rattle.sqlite.proofs.Callers.{unchanged_then, given_begin}
use Rattle.thes_base.specs.declared.fault.Fault.{Fault}
use Rattle.thes_sql.specs.Queries.{IsQuery}
use Rattle.thes_sql.proofs.ReadFrameLemmas.{query_begins, query_survives}
use Rattle.thes_store.specs.Sinks.{SinkAcceptsAll, SinkAcceptsPrefix}
use Rattle.thes_store.proofs.SinkLemmas.{accepts_then, some_then, some_more, none_accepted}

module _ {A : Type 0} (Is : Row → A → Type 0) where
  -- The rows are those of these items, one by one.
  abbrev pub AreRowsOf : List Row → List A → Type 0
  AreRowsOf [] [] = Unit {0}
  AreRowsOf [] (x ∷ xs) = ⊥
  AreRowsOf (row ∷ rows) [] = ⊥
  AreRowsOf (row ∷ rows) (x ∷ xs) = Is row x × AreRowsOf rows xs

  -- The items of some rows and a tail split into the items of the rows and those of the tail.
  rows_split : (rows tail : List Row) (all : List A) → AreRowsOf (rows ++ tail) all
      → (xs : List A) × (ys : List A) × (all ≡ xs ++ ys) × AreRowsOf rows xs × AreRowsOf tail ys
  rows_split [] tail all h = ([], all, refl, tt, h)
  rows_split (row ∷ rows) tail [] h = absurd h
  rows_split (row ∷ rows) tail (x ∷ all) h =
      let rest = rows_split rows tail all h.1 in
      (x ∷ rest.0, rest.1, ap (λ l. x ∷ l) rest.2, (h.0, rest.3), rest.4)

  one_row : (row : Row) (xs : List A) → AreRowsOf (row ∷ []) xs → (x : A) × (xs ≡ x ∷ []) × Is row x
  one_row row [] h = absurd h
  one_row row (x ∷ []) h = (x, refl, h.0)
  one_row row (x ∷ y ∷ xs) h = absurd h.1

  -- A whole answer of the query has the rows of these items, and the beginning of an answer has the rows of the first
  -- of them.
  pub record Wants (sql : List ℕ) (params : Row) (db : State) (all : List A) : Type 1 where
    pub whole : (s new : State) (rows : List Row) → s.now ≡ db.now → Shown sql params s new rows → AreRowsOf rows all
    pub part : (s : State) (rows : List Row) → s.now ≡ db.now → IsUnchanged s s → Begins sql params s rows
        → (tail : List Row) × AreRowsOf (rows ++ tail) all

-- If the items are `xs`, then `one`, which is `x` alone, and then `zs`, they are `xs`, and then `x ∷ zs`.
next_item : {A : Type 0} (all xs ys one zs : List A) (x : A) → all ≡ xs ++ ys → ys ≡ one ++ zs → one ≡ x ∷ []
    → xs ++ x ∷ zs ≡ all
next_item all xs ys one zs x whole rest is = sym (whole ∙ ap (λ l. xs ++ l) (rest ∙ ap (λ l. l ++ zs) is))

module _ {S R A : Type 0} (g : Ghosts S) (gives : R → A → Result (Unit {0}) Fault → R → Type 0)
    (Is : Row → A → Type 0) (sql : List ℕ) (params : Row) where
  -- The sink accepts the items of these rows.
  abbrev Accepts : R → List Row → R → Type 0
  Accepts before rows after = (xs : List A) → AreRowsOf Is rows xs → SinkAcceptsAll gives before xs after

  -- The query is being read: the database is unchanged, and the sink has the items of the rows so far.
  pub record Streams (first now : Held S) (before after : R) : Type 0 where
    pub survives : Survives (state g first) (state g now) (λ _. ⊥)
    pub mode : first.in_transaction ≡ false → now.in_transaction ≡ false
    pub progress : HasCleanDisk (state g now) → (rows : List Row) × HasGiven g sql params now rows
        × IsUnchanged (state g first) (state g now) × Accepts before rows after

  accepts_none : (before : R) → Accepts before [] before
  accepts_none before [] h = refl
  accepts_none before (x ∷ xs) h = absurd h

  accepts_one : (before between after : R) (rows : List Row) (row : Row) → Accepts before rows between
      → ((x : A) → Is row x → SinkAcceptsAll gives between (x ∷ []) after) → Accepts before (rows ++ row ∷ []) after
  accepts_one before between after rows row so one xs h =
      let parts = rows_split Is rows (row ∷ []) xs h in
      let last = one_row Is row parts.1 parts.4 in
      subst (λ l. SinkAcceptsAll gives before l after) (sym (parts.2 ∙ ap (λ l. parts.0 ++ l) last.1))
      (accepts_then gives parts.0 (last.0 ∷ []) before between after (so parts.0 parts.3) (one last.0 last.2))

  pub streams_begin : IsQuery sql → (first now : Held S) (sink : R)
      → Survives (state g first) (state g now) (CommitsShowing sql params (state g first))
      → (first.in_transaction ≡ false → now.in_transaction ≡ false)
      → (HasCleanDisk (state g now) → HasBegun g sql params first now) → Streams first now sink sink
  streams_begin is first now sink s mode begun = record {
    survives = query_survives sql params is (state g first) (state g now) s;
    mode = mode;
    progress = λ clean.
        let h = query_begins sql params is g first now (begun clean) in
        ([], h.0, h.1, accepts_none sink);
  }

  module _ (first mid new : Held S) (before between : R) (so : Streams first mid before between)
      (s : Survives (state g mid) (state g new) (λ _. ⊥))
      (mode : mid.in_transaction ≡ false → new.in_transaction ≡ false)
      (got : Option Row) (ok : HasCleanDisk (state g new) → Advances g mid new got) where
    clean_before : HasCleanDisk (state g new) → HasCleanDisk (state g mid)
    clean_before clean = let le = s.clean in omega (arith, le, clean)

    survives_both : Survives (state g first) (state g new) (λ _. ⊥)
    survives_both = survives_then (state g first) (state g mid) (state g new) (λ _. ⊥) (λ _. ⊥) (λ _. ⊥)
        (λ _ db none. none) (λ _ db none. none) so.survives s

    advanced : (next : Option Row) → next ≡ got → HasCleanDisk (state g new) → Advances g mid new next
    advanced next is clean = subst (Advances g mid new) (sym is) (ok clean)

    pub streams_next : (after : R) (row : Row) → Some row ≡ got →
        (HasCleanDisk (state g new) → IsUnchanged (state g mid) (state g new))
        → ((x : A) → Is row x → SinkAcceptsAll gives between (x ∷ []) after) → Streams first new before after
    streams_next after row is same one = record {
      survives = survives_both;
      mode = λ idle. mode (so.mode idle);
      progress = λ clean.
          let was = so.progress (clean_before clean) in (
            was.0 ++ row ∷ [],
            advanced (Some row) is clean sql params was.0 was.1,
            unchanged_then (state g first) (state g mid) (state g new) was.2 (same clean),
            accepts_one before between after was.0 row was.3 one,
          );
    }

    -- When there are no more rows, those read are the query's answer, and the sink has accepted their items.
    pub streams_end : None ≡ got → HasCleanDisk (state g new) → (rows : List Row) ×
        ((state g mid).now ≡ (state g first).now)
        × Shown sql params (state g mid) (state g new) rows × Accepts before rows between
    streams_end is clean =
        let was = so.progress (clean_before clean) in
        (was.0, was.2.0.now_is, advanced None is clean sql params was.0 was.1, was.3)

    pub streams_whole : (all : List A) → Wants Is sql params (state g first) all
        → None ≡ got → HasCleanDisk (state g new) → SinkAcceptsAll gives before all between
    streams_whole all wants is clean =
        let it = streams_end is clean in
        it.3 all (wants.whole (state g mid) (state g new) it.0 it.1 it.2)

    -- A sink that rejects the item of a row has accepted the items before it.
    pub streams_refused : (all : List A) → Wants Is sql params (state g first) all → (after : R) (row : Row)
        (fault : Fault) → Some row ≡ got → (HasCleanDisk (state g new) → IsUnchanged (state g mid) (state g new))
        → ((x : A) → Is row x → SinkAcceptsPrefix gives fault between (x ∷ []) after) → HasCleanDisk (state g new)
        → SinkAcceptsPrefix gives fault before all after
    streams_refused all wants after row fault got_is same one clean =
        let was = so.progress (clean_before clean) in
        let is = unchanged_then (state g first) (state g mid) (state g new) was.2 (same clean) in
        let begun = given_begin g sql params new (was.0 ++ row ∷ [])
        (advanced (Some row) got_is clean sql params was.0 was.1) in
        let more = wants.part (state g new) (was.0 ++ row ∷ []) is.0.now_is (unchanged (state g new) is.0.is_open)
        begun in
        let parts = rows_split Is was.0 (row ∷ more.0) all
        (subst (λ l. AreRowsOf Is l all) (append_assoc was.0 (row ∷ []) more.0) more.1) in
        let last = rows_split Is (row ∷ []) more.0 parts.1 parts.4 in
        let item = one_row Is row last.0 last.3 in
        subst (λ l. SinkAcceptsPrefix gives fault before l after)
        (next_item all parts.0 parts.1 last.0 last.1 item.0 parts.2 last.2 item.1)
        (some_then gives parts.0 (item.0 ∷ last.1) fault before between after (was.3 parts.0 parts.3)
        (some_more gives (item.0 ∷ []) last.1 fault between after (one item.0 item.2)))

  -- Reading that ends early has passed a prefix of the items.
  pub streams_part : (first now : Held S) (before after : R) → Streams first now before after → (all : List A)
      → Wants Is sql params (state g first) all → (fault : Fault) → HasCleanDisk (state g now)
      → SinkAcceptsPrefix gives fault before all after
  streams_part first now before after so all wants fault clean =
      let was = so.progress clean in
      let more = wants.part (state g now) was.0 was.2.0.now_is (unchanged (state g now) was.2.0.is_open)
      (given_begin g sql params now was.0 was.1) in
      let parts = rows_split Is was.0 more.0 all more.1 in
      subst (λ l. SinkAcceptsPrefix gives fault before l after) (sym parts.2)
      (some_then gives parts.0 parts.1 fault before after after (was.3 parts.0 parts.3)
      (none_accepted gives parts.1 fault after))
