use Rattle.thes_cli.proofs.scripting.answer_script.Goals as goal

-- The command `script` has the result and the end of the script that the office answers.
pub returns : goal.returns
returns g c = rw (c.into_office.ensures, ← c.new-handler.ensures) (record {
  result = c.office_script-ended.result;
  script = c.office_script-ended.ensures.ends;
  reached = c.office_script-ended.ensures.reached;
  calls = c.office_script-ended.ensures.calls;
  closes = (c.report_script_end-status.ensures.fault, c.report_script_end-status.ensures.status);
})
