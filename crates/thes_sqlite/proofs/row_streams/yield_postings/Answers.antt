use Rattle.std.proofs.Common.{◌∙◌, pos, List, [], ◌∷◌, Err, refl, rules, arith}
use Rattle.sqlite.specs.declared.types.Value.TheVariants.{Int}
use Rattle.sqlite.specs.Order.{Row}
use Rattle.sqlite.specs.State.{HasCleanDisk}
use Rattle.sqlite.specs.Held.{state}
use Rattle.thes_store.specs.Reading.{assigned_posting_rows}
use Rattle.thes_store.proofs.SinkLemmas.{none_accepted}
use Rattle.thes_sql.specs.Reads.{assigned_text}
use Rattle.thes_sql.proofs.ReadFrameLemmas.{leaves_alone}
use Rattle.thes_sql.proofs.SelectLemmas.{standing_is_query}
use Rattle.thes_sqlite.proofs.RowStreamLemmas.{streams_begin, streams_next, streams_part, streams_refused}
use Rattle.thes_sqlite.proofs.RowStreamLemmas.{streams_whole}
use Rattle.thes_sqlite.proofs.TableStreamLemmas.{IsPostingRow, assigned_wants}
use Rattle.thes_sqlite.proofs.row_streams.yield_postings.Goals as goal

pub returns-in-Err-clause-yields : goal.returns-in-Err-clause-yields
returns-in-Err-clause-yields g c = λ clean t keeps.
    none_accepted g.P.PostingSink.gives (assigned_posting_rows c.args.concept t.posting) c.fault_of.result
    c.args.sink.now

pub returns-in-Err-clause-frame : goal.returns-in-Err-clause-frame
returns-in-Err-clause-frame g c =
    let h = rw (c.in-Err.is, c.assigned_query.ensures, c.params-to_sql.ensures, c.get.ensures.value) at
    c.query.follows.holds-at-none in
    record {
      tables = (leaves_alone g.S.Store assigned_text (Int (pos c.args.concept) ∷ []) c.args.conn.now
          c.query.follows.lender-at-none {V = List Row} (Err c.in-Err.error) (λ rows. rows) standing_is_query
          (λ clean. tt) h.mode h.err h.survives).tables;
      fault = c.fault_of.ensures.kind;
    }

pub postings-init : goal.postings-init
postings-init g c =
    let made = rw (c.assigned_query.ensures, c.params-to_sql.ensures, c.get.ensures.value) at c.in-Ok.ensures in (
      refl,
      streams_begin g.S.Store g.P.PostingSink.gives IsPostingRow assigned_text (Int (pos c.args.concept) ∷ [])
          standing_is_query c.args.conn.now c.in-Ok.postings.conn.now c.args.sink.now made.survives made.mode
          made.begun,
    )

pub returns-in-Err-advance-clause-yields : goal.returns-in-Err-advance-clause-yields
returns-in-Err-advance-clause-yields g c clean t keeps =
    let late : HasCleanDisk (state g.S.Store c.advance.new.self.conn.now) = search rules in
    let le = c.advance.ensures.survives.clean in
    streams_part _ _ _ _ _ _ _ _ _ c.postings.invariant.1 _ (assigned_wants c.args.concept _ t keeps) _
    (omega (arith, le, late))

pub returns-in_default-get-clause-yields : goal.returns-in_default-get-clause-yields
returns-in_default-get-clause-yields g c clean t keeps =
    let late : HasCleanDisk (state g.S.Store c.advance.new.self.conn.now) = search rules in
    streams_whole _ _ _ _ _ _ _ c.advance.new.self.conn.now _ _ c.postings.invariant.1 c.advance.ensures.survives
    c.advance.ensures.mode
    _ c.in_default.ensures.ok _ (assigned_wants c.args.concept _ t keeps) c.in_default-get.ensures late

pub returns-in-Err-yield_posting-clause-yields : goal.returns-in-Err-yield_posting-clause-yields
returns-in-Err-yield_posting-clause-yields g c clean t keeps =
    let late : HasCleanDisk (state g.S.Store c.advance.new.self.conn.now) = search rules in
    streams_refused _ _ _ _ _ _ _ c.advance.new.self.conn.now _ _ c.postings.invariant.1 c.advance.ensures.survives
    c.advance.ensures.mode _ c.in_default.ensures.ok _ (assigned_wants c.args.concept _ t keeps)
    c.yield_posting.new.sink c.in-Some.row.now
    c.in-Err-yield_posting.fault c.in-Some.ensures c.in_default.ensures.same
    (λ x e. c.in-Err-yield_posting.ensures.yields x e) late

pub postings-preserved : goal.postings-preserved
postings-preserved g c = (
  c.advance.ensures.same_reference ∙ c.postings.invariant.0,
  streams_next _ _ _ _ _ _ _ c.advance.new.self.conn.now _ _ c.postings.invariant.1 c.advance.ensures.survives
      c.advance.ensures.mode _ c.in_default.ensures.ok c.yield_posting.new.sink c.in-Some.row.now c.in-Some.ensures
      c.in_default.ensures.same (λ x e. c.in_default-yield_posting.ensures.yields x e),
)

pub returns-clause-yields : goal.returns-clause-yields
returns-clause-yields g c clean t keeps =
    let late : HasCleanDisk (state g.S.Store c.postings.postings.conn.now) = search rules in
    streams_part _ _ _ _ _ _ _ _ _ c.postings.invariant.1 _ (assigned_wants c.args.concept _ t keeps) _ late
