use Rattle.std.proofs.Common.{◌≡◌, rules, inl, inr, Err, sym, subst}
use Rattle.sqlite.specs.Held.{state}
use Rattle.thes_sqlite.specs.MigrationEffects.{IsVerdictUnlessFailed, IsMigrationVerdict}
use Rattle.thes_sqlite.proofs.MigrationLemmas.{newer_or_other}
use Rattle.thes_sqlite.proofs.migrating.check_migration.Goals as goal

pub returns-in_err-check_version-clause-judged : goal.returns-in_err-check_version-clause-judged
returns-in_err-check_version-clause-judged g c =
    let fault = c.in_err-check_version.field-0.0 in
    let stop : c.from_residual.result ≡ Err fault = search rules in
    subst (IsVerdictUnlessFailed g.S.Store IsMigrationVerdict c.args.conn.now c.check_version.new.conn) (sym stop)
    (λ clean. elim (c.in_err-check_version.ensures.judged clean) [
      | inl failed ↦ inl failed
      | inr is ↦ inr (newer_or_other (state g.S.Store c.args.conn.now).now fault is)
    ])
