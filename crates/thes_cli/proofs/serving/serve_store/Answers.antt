use Rattle.std.proofs.Common.{◌∙◌, ℕ, List, inl, inr, refl, subst}
use Rattle.std.specs.Io.KnownBytes.{Appends}
use Rattle.thes_base.specs.Pipe.{written_bytes}
use Rattle.thes_cli.specs.Serving.{ServesAll}
use Rattle.thes_command_line.specs.Printing.{PrintsPrefix}
use Rattle.thes_cli.proofs.ServedLemmas.{done_or_not}
use Rattle.thes_cli.proofs.serving.serve_store.Goals as goal

-- If the address is printed, the connections served, and the fault of one that couldn't be accepted, are those of the
-- office's server.
pub returns-then-print-clause-serves : goal.returns-then-print-clause-serves
returns-then-print-clause-serves g c =
    let prints = rw c.if-print.true at c.print.ensures in
    let served : ServesAll g.K.Keeper.view g.T.Errors.Write.contents g.M.PlanMode.takes c.args.listening.now.count
    c.new-handler.result c.args.given.now.streams.errors c.report_served-status.new.errors
    c.office_serve-connections.result.connections c.report_served-status.result
    c.office_serve-connections.new.handler = record {
      served = c.office_serve-connections.ensures.served;
      few = c.office_serve-connections.ensures.few;
      reached = c.office_serve-connections.ensures.reached;
      ends = done_or_not c.office_serve-connections.result.ended _ _ _ c.office_serve-connections.ensures.all
          c.report_served-status.ensures.ok c.report_served-status.ensures.err;
    } in
    inl (
      subst (λ (text : List ℕ). Appends (written_bytes g.T.Output.Write.contents c.args.given.now.streams.output)
          (written_bytes g.T.Output.Write.contents c.print.new.writer) text)
          (c.as_bytes.ensures.text ∙ c.listening_line-line.ensures) prints.0,
      rw (c.into_office.ensures, ← c.new-handler.ensures) served,
    )

-- If the address can't be printed, no connection is served.
pub returns-else-print-clause-serves : goal.returns-else-print-clause-serves
returns-else-print-clause-serves g c =
    let prints = rw c.if-print.false at c.print.ensures in
    inr (
      subst (λ (text : List ℕ). PrintsPrefix g.T.Output.Write.contents c.args.given.now.streams.output
          c.print.new.writer text) (c.as_bytes.ensures.text ∙ c.listening_line-line.ensures) prints,
      c.report_fault.ensures.line,
      refl,
      c.report_fault.ensures.status,
    )
