use Rattle.std.proofs.lemmas.Grind.{common_steps}
use Rattle.std.proofs.Common.{◌∙◌, inr, [], ◌∷◌, List, Option, Err, refl, rules, arith, sym, subst}
use Rattle.sqlite.specs.Order.{Row}
use Rattle.sqlite.specs.State.{HasCleanDisk}
use Rattle.sqlite.specs.Held.{state}
use Rattle.thes_base.specs.declared.fault.Table.{Table}
use Rattle.thes_tables.specs.declared.cells.Cell.{Cell}
use Rattle.thes_sql.specs.Reads.{read_text}
use Rattle.thes_sql.proofs.QueryTextLemmas.{table_is_query}
use Rattle.thes_sql.proofs.ReadFrameLemmas.{leaves_alone}
use Rattle.thes_store.specs.Sinks.{SinkAcceptsAll, SinkAcceptsPrefix}
use Rattle.thes_store.proofs.SinkLemmas.{none_accepted}
use Rattle.thes_sqlite.proofs.FoundRowLemmas.{none_passed}
use Rattle.thes_sqlite.proofs.RowStreamLemmas.{streams_begin, streams_next, streams_part, streams_refused, streams_end}
use Rattle.thes_sqlite.proofs.RowStreamLemmas.{streams_whole}
use Rattle.thes_sqlite.proofs.TableStreamLemmas.{IsTableRow, table_wants, table_passed, input_finds_none, never_input}
use Rattle.thes_sqlite.proofs.row_streams.yield_rows.Goals as goal

pub returns-in-Err-SqlInputError-clause-yields : goal.returns-in-Err-SqlInputError-clause-yields
returns-in-Err-SqlInputError-clause-yields g c =
    let h = rw (c.in-Err-SqlInputError.is, c.table_query.ensures) at c.query.follows.holds-at-none in
    let old = state g.S.Store c.args.conn.now in
    let new = state g.S.Store c.query.follows.lender-at-none in
    let input = c.in-Err-SqlInputError.field-0-0 in
    record {
      rows = λ clean is. absurd (never_input c.args.name old new is input
          (rw c.in-Err-SqlInputError.field-0-is at (h.err clean)));
      content = λ clean. none_passed g.R.RowSink.gives c.args.name old.now c.args.sink.now c.report_unqueried.new.self
          c.report_unqueried.result c.report_unqueried.ensures.gives
          (inr (input_finds_none c.args.name old new input (rw c.in-Err-SqlInputError.field-0-is at (h.err clean))));
    }

pub returns-in-Err-SqlInputError-clause-frame : goal.returns-in-Err-SqlInputError-clause-frame
returns-in-Err-SqlInputError-clause-frame g c =
    let h = rw (c.in-Err-SqlInputError.is, c.table_query.ensures) at c.query.follows.holds-at-none in
    record {
      tables = (leaves_alone g.S.Store (read_text c.args.name) [] c.args.conn.now c.query.follows.lender-at-none
          {V = List Row} (Err c.in-Err-SqlInputError.field-0) (λ rows. rows) (table_is_query c.args.name).0
          (λ clean. tt) h.mode h.err h.survives).tables;
      fault = grind (arith, common_steps);
    }

pub returns-in-Err : goal.returns-in-Err
returns-in-Err g c =
    let h = rw (c.in-Err.is, c.table_query.ensures) at c.query.follows.holds-at-none in
    record {
      yields = record {
        rows = λ clean is. none_accepted g.R.RowSink.gives _ c.fault_with_cause.result c.args.sink.now;
        content = λ clean. tt;
      };
      frame = record {
        tables = (leaves_alone g.S.Store (read_text c.args.name) [] c.args.conn.now c.query.follows.lender-at-none
            {V = List Row} (Err c.in-Err.error) (λ rows. rows) (table_is_query c.args.name).0 (λ clean. tt) h.mode
            h.err h.survives).tables;
        fault = c.fault_with_cause.ensures.kind;
      };
    }

pub rows-init : goal.rows-init
rows-init g c =
    let made = rw c.table_query.ensures at c.in-Ok.ensures in (
      refl,
      streams_begin g.S.Store g.R.RowSink.gives (IsTableRow c.args.name) (read_text c.args.name) []
          (table_is_query c.args.name).0 c.args.conn.now c.in-Ok.rows.conn.now c.args.sink.now made.survives made.mode
          made.begun,
    )

pub returns-in-Err-advance-clause-yields : goal.returns-in-Err-advance-clause-yields
returns-in-Err-advance-clause-yields g c = record {
  rows = λ clean is.
      let late : HasCleanDisk (state g.S.Store c.advance.new.self.conn.now) = search rules in
      let le = c.advance.ensures.survives.clean in
      streams_part _ _ _ _ _ _ _ _ _ c.rows.invariant.1 _ (table_wants c.args.name _ is) _ (omega (arith, le, late));
  content = λ clean. tt;
}

pub returns-in_default-get-clause-yields : goal.returns-in_default-get-clause-yields
returns-in_default-get-clause-yields g c =
    let mid = c.rows.rows.conn.now in
    let new = c.advance.new.self.conn.now in
    record {
      rows = λ clean is.
          let late : HasCleanDisk (state g.S.Store new) = search rules in
          streams_whole _ _ _ _ _ _ _ new _ _ c.rows.invariant.1 c.advance.ensures.survives c.advance.ensures.mode _
          c.in_default.ensures.ok _ (table_wants c.args.name _ is) c.in_default-get.ensures late;
      content = λ clean.
          let late : HasCleanDisk (state g.S.Store new) = search rules in
          let it = streams_end g.S.Store g.R.RowSink.gives (IsTableRow c.args.name) (read_text c.args.name) []
          c.args.conn.now mid new c.args.sink.now c.rows.sink c.rows.invariant.1 c.advance.ensures.survives
          c.advance.ensures.mode _ c.in_default.ensures.ok c.in_default-get.ensures late in
          table_passed g.R.RowSink.gives c.args.name (state g.S.Store c.args.conn.now) (state g.S.Store mid)
          (state g.S.Store new) c.args.sink.now c.rows.sink it.0 c.requires it.1 it.2 it.3;
    }

pub returns-in-Err-yield_row-clause-yields : goal.returns-in-Err-yield_row-clause-yields
returns-in-Err-yield_row-clause-yields g c = record {
  rows = λ clean is.
      let late : HasCleanDisk (state g.S.Store c.advance.new.self.conn.now) = search rules in
      streams_refused _ _ _ _ _ _ _ c.advance.new.self.conn.now _ _ c.rows.invariant.1 c.advance.ensures.survives
      c.advance.ensures.mode _ c.in_default.ensures.ok _ (table_wants c.args.name _ is) c.yield_row.new.sink
      c.in-Some.row.now c.in-Err-yield_row.fault c.in-Some.ensures c.in_default.ensures.same
      (λ x e. subst (λ (y : Table × Option (List Cell)). SinkAcceptsPrefix g.R.RowSink.gives c.in-Err-yield_row.fault
      c.rows.sink (y ∷ []) c.yield_row.new.sink) (sym e) c.in-Err-yield_row.ensures.yields) late;
  content = λ clean. tt;
}

pub rows-preserved : goal.rows-preserved
rows-preserved g c = (
  c.advance.ensures.same_reference ∙ c.rows.invariant.0,
  streams_next _ _ _ _ _ _ _ c.advance.new.self.conn.now _ _ c.rows.invariant.1 c.advance.ensures.survives
      c.advance.ensures.mode _
      c.in_default.ensures.ok c.yield_row.new.sink c.in-Some.row.now c.in-Some.ensures c.in_default.ensures.same
      (λ x e. subst (λ (y : Table × Option (List Cell)). SinkAcceptsAll g.R.RowSink.gives c.rows.sink (y ∷ [])
      c.yield_row.new.sink) (sym e) c.in_default-yield_row.ensures.yields),
)

pub returns-clause-yields : goal.returns-clause-yields
returns-clause-yields g c = record {
  rows = λ clean is.
      let late : HasCleanDisk (state g.S.Store c.rows.rows.conn.now) = search rules in
      streams_part _ _ _ _ _ _ _ _ _ c.rows.invariant.1 _ (table_wants c.args.name _ is) _ late;
  content = λ clean. tt;
}
