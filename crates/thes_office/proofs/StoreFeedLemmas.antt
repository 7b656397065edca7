-- Proves that a loader that has accepted all rows of a store, table by table, has received exactly these rows.
use Rattle.std.proofs.lemmas.Grind.{common_steps}
use Rattle.std.proofs.Common.{◌≡◌, ◌≤◌, ◌∙◌, ℕ, List, [], ◌∷◌, ◌++◌, refl, sym, subst, arith}
use Rattle.std.specs.Prelude.{Result, Some}
use Rattle.thes_base.specs.declared.fault.Fault.{Fault}
use Rattle.thes_base.specs.declared.fault.Table.{Table}
use Rattle.thes_tables.specs.Cells.{Raw}
use Rattle.thes_tables.specs.TableOrder.{raw_rows_of, table_no, table_order, with_rows}
use Rattle.thes_store.specs.Sinks.{sink_rows_of_table, sink_rows_of_tables}
use Rattle.thes_store.specs.Sinks as yields
use Rattle.thes_load_rows.specs.Progress.{raw_without_rows, stage_table}
use Rattle.thes_office.specs.declared.loader.Loader.{Loader}
use Rattle.thes_office.specs.LoaderFeed.{KnowsRows, FeedResult}
use Rattle.thes_office.specs.LoaderLaw.{LoaderReadsStore}
use Rattle.thes_office.proofs.TableFeedLemmas.{table_taken}

-- A sink that receives two lists receives the first, and then the second.
split_takes : {S A : Type 0} (gives : S → A → Result (Unit {0}) Fault → S → Type 0) (xs ys : List A) (old new : S)
    → yields.SinkAcceptsAll gives old (xs ++ ys) new → (mid : S) × yields.SinkAcceptsAll gives old xs mid
    × yields.SinkAcceptsAll gives mid ys new
split_takes gives [] ys old new takes = (old, refl, takes)
split_takes gives (x ∷ xs) ys old new (next, given, rest) = let r = split_takes gives xs ys next new rest in
    (r.0, (next, given, r.1), r.2)

-- The rows `rest`, with those of these tables as they are in `raw`.
abbrev with_tables : List Table → Raw → Raw → Raw
with_tables [] raw rest = rest
with_tables (name ∷ names) raw rest = with_tables names raw (with_rows name (raw_rows_of name raw) rest)

-- The tables are in their order, from this index on, and each is empty when its turn comes.
abbrev ComeInOrder : ℕ → List Table → Raw → Raw → Type 0
ComeInOrder n [] raw rest = Unit {0}
ComeInOrder n (name ∷ names) raw rest =
    (n ≤ table_no name) × (with_rows name (Some []) rest ≡ rest)
    × ComeInOrder (table_no name) names raw (with_rows name (raw_rows_of name raw) rest)

-- A loader that has accepted the rows of these tables has received them.
tables_taken : (names : List Table) (raw rest : Raw) (n : ℕ) (old new : Loader) → ComeInOrder n names raw rest
    → table_no (stage_table old.stage) ≤ n → KnowsRows old rest
    → yields.SinkAcceptsAll FeedResult old (sink_rows_of_tables raw names) new
    → KnowsRows new (with_tables names raw rest) × (new.limits ≡ old.limits)
tables_taken [] raw rest n old new come turn knows same = grind (arith, common_steps)
tables_taken (name ∷ names) raw rest n old new (follows, none, come) turn knows takes =
    let rows = raw_rows_of name raw in
    let (mid, first, later) = split_takes FeedResult (sink_rows_of_table name rows) (sink_rows_of_tables raw names)
    old new takes in
    let one = table_taken name rest rows old mid (omega (arith, turn, follows))
    (subst (KnowsRows old) (sym none) knows) first in
    let more = tables_taken names raw (with_rows name rows rest) (table_no name) mid new come one.turn one.knows later
    in
    (more.0, more.1 ∙ one.same)

-- A loader that has accepted all rows of a store has received exactly these rows.
pub loader_reads_all : LoaderReadsStore
loader_reads_all limits raw old new begun takes =
    let come : ComeInOrder 0 table_order raw raw_without_rows = (
      omega arith,
      refl,
      (
        omega arith,
        refl,
        (
          omega arith,
          refl,
          (omega arith, refl, (omega arith, refl, (omega arith, refl, (omega arith, refl, (omega arith, refl, tt))))),
        ),
      ),
    ) in
    let all = tables_taken table_order raw raw_without_rows 0 old new come
    (subst (λ (t : Table). table_no t ≤ 0) (sym begun.table_is) (omega arith)) begun.none takes in
    (all.0, all.1 ∙ begun.limits_are)
