use Rattle.std.proofs.Common.{inl, inr, refl}
use Rattle.thes_cli.proofs.work.work_over_keeper.Goals as goal
use Rattle.thes_cli.proofs.work.work_over_keeper.Goals.{then-options, else-options}

pub returns-in-Script : goal.returns-in-Script
returns-in-Script g c = (
  inl record {
    old_office = c.in-Ok.office;
    opens = c.in-Ok.ensures.opened;
    new_office = c.if-options.status.1;
    does = elim c.if-options.branch [
      | then-options w ↦ rw (c.in-Script.is, w.status-is, w.given-is, w.if-options.true) w.answer_script.ensures
      | else-options w ↦ rw (c.in-Script.is, w.status-is, w.given-is, w.if-options.false)
          w.answer_script-else-options.ensures
    ];
    back_is = c.into_keeper.ensures;
  },
  c.in-Ok.ensures.found,
)

pub returns : goal.returns
returns g c = (
  inl record {
    old_office = c.in-Ok.office;
    opens = c.in-Ok.ensures.opened;
    new_office = c.do_output_work-status.result.1;
    does = rw c.in-Output.is (c.do_output_work-status.ensures.input, c.do_output_work-status.ensures.does);
    back_is = c.into_keeper-in-Output.ensures;
  },
  c.in-Ok.ensures.found,
)

pub returns-in-Err : goal.returns-in-Err
returns-in-Err g c = (
  inr record {
    fault = c.in-Err.fault;
    cause = c.cause.result;
    fails_to_open = c.in-Err.ensures.opened;
    input = refl;
    output = refl;
    prints_it = c.report_unopened_store.ensures.line;
    status_is = c.report_unopened_store.ensures.status;
  },
  c.in-Err.ensures.found,
)
