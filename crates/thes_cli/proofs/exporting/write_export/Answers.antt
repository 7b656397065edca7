use Rattle.std.proofs.Common.{◌≡◌, refl, rules, Err}
use Rattle.std.proofs.lemmas.Result.{MatchResult-from_both}
use Rattle.thes_base.specs.declared.fault.PipeFault.TheVariants as pipe
use Rattle.thes_cli.specs.Exporting.{WritesExportOf}
use Rattle.thes_cli.proofs.ReadyLemmas.{state_unwritten, state_written}
use Rattle.thes_cli.proofs.exporting.write_export.Goals as goal

pub returns : goal.returns
returns g c =
    state_written g.K.Keeper.view (WritesExportOf g.W.Write.contents) c.args.output.now c.export.new.writer
    c.args.office.now c.ready.follows.lender-at-none c.ready.result c.in_ok-core.core c.export.result
    c.ready.follows.holds-at-none c.in_ok-core.was
    (λ s holds. MatchResult-from_both c.export.result _ _ (c.export.ensures.text s holds)
    (c.export.ensures.fault s holds))
    c.export.ensures.calls

pub returns-in_err-core : goal.returns-in_err-core
returns-in_err-core g c =
    let stop : c.from_residual.result ≡ Err (pipe.Fault c.in_err-core.field-0.0) = search rules in
    state_unwritten g.K.Keeper.view (WritesExportOf g.W.Write.contents) c.args.output.now c.args.output.now
    c.args.office.now c.ready.follows.lender-at-none c.ready.result c.in_err-core.field-0.0 c.from_residual.result
    c.ready.follows.holds-at-none c.in_err-core.was stop refl
