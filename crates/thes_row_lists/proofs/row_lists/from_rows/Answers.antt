use Rattle.std.proofs.Common.{◌∙◌, inl, inr}
use Rattle.thes_row_lists.specs.SortedRows.{raw_of}
use Rattle.thes_row_lists.proofs.ArrangedRowLemmas.{holds_rows, rows_refused}
use Rattle.thes_row_lists.proofs.row_lists.from_rows.Goals as goal

pub returns-in-Ok-clause-ok : goal.returns-in-Ok-clause-ok
returns-in-Ok-clause-ok c =
    let sorted = raw_of c.sort.new.self in
    let is_loaded = c.in-Ok.ensures.ok sorted c.in_ok-loader.ensures.knows.0 in
    record {
      content = holds_rows (raw_of c.args.rows) sorted c.in-Ok.core c.in_ok-sort.ensures is_loaded;
      origin = (sorted, c.in_ok-sort.ensures, is_loaded);
      limits = c.in-Ok.ensures.limits ∙ c.in_ok-loader.ensures.knows.1;
      readiness = c.in-Ok.ensures.spent;
    }

pub returns-clause-err : goal.returns-clause-err
returns-clause-err c = elim c.in-Err.ensures.err [
  | inl memory ↦ inl memory
  | inr verdict_of ↦
      let sorted = raw_of c.sort.new.self in
      let verdict = verdict_of sorted c.in_ok-loader.ensures.knows.0 in
      inr (record {
        refusal = rows_refused (raw_of c.args.rows) sorted c.in-Err.fault c.in_ok-sort.ensures verdict;
        verdict = (sorted, c.in_ok-sort.ensures, verdict);
      })
]
