use Rattle.thes_jobs.proofs.trouble.report_unopened_store.Goals as goal

pub returns-in-Some-clause-line : goal.returns-in-Some-clause-line
returns-in-Some-clause-line g c =
    rw (c.in-Some.is, ← c.as_str.ensures.value, ← c.trouble_of.ensures) c.report_in_file.ensures.reports

pub returns-in-None-clause-line : goal.returns-in-None-clause-line
returns-in-None-clause-line g c = rw c.in-None.is c.report_fault.ensures.line
