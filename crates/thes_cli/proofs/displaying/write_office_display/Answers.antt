use Rattle.std.proofs.Common.{◌≡◌, refl, rules, Err}
use Rattle.std.proofs.lemmas.Result.{MatchResult-from_both}
use Rattle.thes_base.specs.declared.fault.PipeFault.TheVariants as pipe
use Rattle.thes_cli.specs.Displaying.{WritesDisplayOf}
use Rattle.thes_cli.proofs.ReadyLemmas.{state_unwritten, state_written}
use Rattle.thes_cli.proofs.displaying.write_office_display.Goals as goal

pub returns : goal.returns
returns g c =
    state_written g.K.Keeper.view
    (λ base. WritesDisplayOf g.W.Write.contents c.args.wanted.now.kind c.args.wanted.now.scheme
    c.args.wanted.now.tag.now) c.args.output.now
    c.write_display.new.writer c.args.office.now c.ready.follows.lender-at-none c.ready.result c.in_ok-core.core
    c.write_display.result c.ready.follows.holds-at-none c.in_ok-core.was
    (λ s holds. MatchResult-from_both c.write_display.result _ _ (c.write_display.ensures.outcome s holds)
    (c.write_display.ensures.fault s holds))
    c.write_display.ensures.calls

pub returns-in_err-core : goal.returns-in_err-core
returns-in_err-core g c =
    let stop : c.from_residual.result ≡ Err (pipe.Fault c.in_err-core.field-0.0) = search rules in
    state_unwritten g.K.Keeper.view
    (λ base. WritesDisplayOf g.W.Write.contents c.args.wanted.now.kind c.args.wanted.now.scheme
    c.args.wanted.now.tag.now) c.args.output.now
    c.args.output.now c.args.office.now c.ready.follows.lender-at-none c.ready.result c.in_err-core.field-0.0
    c.from_residual.result c.ready.follows.holds-at-none c.in_err-core.was stop refl
