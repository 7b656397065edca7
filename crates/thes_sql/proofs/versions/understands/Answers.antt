use Rattle.std.proofs.Common.{◌≡◌, ◌∙◌, Bool, Result, IfOk, IfErr, sym, subst}
use Rattle.sqlite.specs.State.{HasCleanDisk}
use Rattle.sqlite.specs.Held.{state}
use Rattle.sqlite.specs.declared.error.Error.{Error}
use Rattle.thes_sql.specs.Queries.{compiles, IsStoreFault, KeepsDatabase}
use Rattle.thes_sql.proofs.ReadFrameLemmas.{prepared_leaves, each_so, compiles_so, answer_is_right, kept_answered}
use Rattle.thes_sql.proofs.versions.understands.Goals.{in-Ok, in-Err}
use Rattle.thes_sql.proofs.versions.understands.Goals as goal

pub returns-clause-leaves : goal.returns-clause-leaves
returns-clause-leaves g c = prepared_leaves g.S.Store c.args.sql.now c.args.conn.now c.prepare.new.self
    c.prepare.ensures.mode c.prepare.ensures.survives
    (λ clean. each_so g.S.Store c.args.sql.now c.args.conn.now c.prepare.new.self _ c.prepare.result
    (c.prepare.ensures.ok clean) (c.prepare.ensures.err clean))

pub returns-clause-reports : goal.returns-clause-reports
returns-clause-reports g c clean =
    let old = state g.S.Store c.args.conn.now in
    let new = state g.S.Store c.prepare.new.self in
    let text = c.args.sql.now in
    let P : Result Bool Error → Type 0 =
    λ r. IfOk r (λ there. there ≡ compiles old.now.schema text) × IfErr r (IsStoreFault old new) in
    elim c.match-prepare.branch [
      | in-Ok w ↦ subst P (sym w.result-is)
          (compiles_so text old new c.requires w.in-Ok.field-0 (w.in-Ok.ensures.shape clean), tt)
      | in-Err w ↦ subst P (sym (w.result-is ∙ w.answer_of.ensures))
          (answer_is_right text old new c.requires w.in-Err.error (w.in-Err.ensures.err clean))
    ]

pub returns-clause-kept : goal.returns-clause-kept
returns-clause-kept g c =
    let old = c.args.conn.now in
    let new = c.prepare.new.self in
    let P : Result Bool Error → Type 0 = KeepsDatabase g.S.Store old new in
    elim c.match-prepare.branch [
      | in-Ok w ↦ subst P (sym w.result-is)
          (λ clean. let same = (w.in-Ok.ensures.ok clean).1 in (same.0.now_is, same.0.committed_is))
      | in-Err w ↦ subst P (sym (w.result-is ∙ w.answer_of.ensures))
          (kept_answered c.args.sql.now (state g.S.Store old) (state g.S.Store new) c.requires w.in-Err.error
          (HasCleanDisk (state g.S.Store new)) w.in-Err.ensures.err)
    ]
