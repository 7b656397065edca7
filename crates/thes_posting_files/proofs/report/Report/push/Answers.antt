use Rattle.std.proofs.Common.{◌+◌, ap, rules}
use Rattle.thes_posting_files.proofs.ReportLemmas.{adds_one}
use Rattle.thes_posting_files.proofs.report.Report.push.Goals as goal

pub returns : goal.returns
returns c = record {
  outcomes =
      adds_one c.args.outcome c.args.self.now (record { text = c.push_line.new.text; counts = c.add.new.self })
      (c.rows.result + 1) (ap (λ n. n + 1) c.rows.ensures) c.push_line.ensures.items c.add.ensures.counts;
  rows = search rules;
  size = search rules;
  capacity = search rules;
}
