use Rattle.std.proofs.Common.{◌≡◌, ◌∙◌, ℕ, pos, List, [], ◌∷◌, Err, refl, rules, sym, subst}
use Rattle.sqlite.specs.declared.types.Value.TheVariants.{Int}
use Rattle.sqlite.specs.Order.{Row, column}
use Rattle.sqlite.specs.State.{HasCleanDisk}
use Rattle.sqlite.specs.Held.{state}
use Rattle.thes_sql.specs.Reads.{assigned_numbers_text}
use Rattle.thes_sql.proofs.ReadFrameLemmas.{leaves_alone}
use Rattle.thes_sql.proofs.SelectLemmas.{standing_numbers_is_query}
use Rattle.thes_sqlite.proofs.RowStreamLemmas.{Streams, streams_begin, streams_next, streams_whole}
use Rattle.thes_sqlite.proofs.TableStreamLemmas.{IsNumberRow, AppendsNumber, numbers_wanted, numbers_appended}
use Rattle.thes_sqlite.proofs.row_streams.collect_numbers.Goals as goal

pub returns-in-Err-clause-frame : goal.returns-in-Err-clause-frame
returns-in-Err-clause-frame g c =
    let h = rw (c.in-Err.is, c.assigned_numbers_query.ensures, c.params-to_sql.ensures, c.get.ensures.value) at
    c.query.follows.holds-at-none in
    record {
      tables = (leaves_alone g.S.Store assigned_numbers_text (Int (pos c.args.concept) ∷ []) c.args.conn.now
          c.query.follows.lender-at-none {V = List Row} (Err c.in-Err.error) (λ rows. rows) standing_numbers_is_query
          (λ clean. tt) h.mode h.err h.survives).tables;
      fault = c.fault_of.ensures.kind;
    }

pub numbers-init : goal.numbers-init
numbers-init g c =
    let made = rw (c.assigned_numbers_query.ensures, c.params-to_sql.ensures, c.get.ensures.value) at c.in-Ok.ensures
    in (
      refl,
      subst (λ (l : List ℕ). Streams g.S.Store AppendsNumber IsNumberRow assigned_numbers_text
          (Int (pos c.args.concept) ∷ []) c.args.conn.now c.in-Ok.rows.conn.now [] l) (sym c.new-numbers.ensures.items)
          (streams_begin g.S.Store AppendsNumber IsNumberRow assigned_numbers_text (Int (pos c.args.concept) ∷ [])
          standing_numbers_is_query c.args.conn.now c.in-Ok.rows.conn.now [] made.survives made.mode made.begun),
    )

pub returns-in_default-get-clause-ok : goal.returns-in_default-get-clause-ok
returns-in_default-get-clause-ok g c clean t keeps =
    let late : HasCleanDisk (state g.S.Store c.advance.new.self.conn.now) = search rules in
    numbers_appended [] c.numbers.numbers.items _
    (streams_whole _ _ _ _ _ _ _ c.advance.new.self.conn.now _ _ c.numbers.invariant.1 c.advance.ensures.survives
    c.advance.ensures.mode
    _ c.in_default.ensures.ok _ (numbers_wanted c.args.concept _ t keeps) c.in_default-get.ensures late)

pub numbers-preserved : goal.numbers-preserved
numbers-preserved g c = (
  c.advance.ensures.same_reference ∙ c.numbers.invariant.0,
  streams_next _ _ _ _ _ _ _ c.advance.new.self.conn.now _ _ c.numbers.invariant.1 c.advance.ensures.survives
      c.advance.ensures.mode _
      c.in_default.ensures.ok c.push_number.new.numbers.items c.in-Some.row.now c.in-Some.ensures
      c.in_default.ensures.same (λ n is. (
        c.push_number.new.numbers.items,
        c.in_default-push_number.ensures.ok n
            (let first : column c.in-Some.row.now 0 ≡ Int (pos n) = rw is refl in first),
        refl,
      )),
)
