use Rattle.std.proofs.lemmas.Grind.{common_steps}
use Rattle.std.proofs.Common.{rules, ◌∙◌, ◌<◌, ap, sym, length, ◌||◌, arith}
use Rattle.std.proofs.lemmas.Result.{on_ok_weaker, on_err_weaker}
use Rattle.std.specs.Ordering.{eq_by_cmp}
use Rattle.thes_vocab.specs.OwnLabels.{has_own, data_cmp}
use Rattle.thes_vocab.proofs.LabelTableLemmas.{row_set, row_at, row_put, row_kept}
use Rattle.thes_vocab.proofs.labels.insert_in_row.Goals as goal

pub returns-in-Some : goal.returns-in-Some
returns-in-Some c =
    let rows = c.args.rows.now.items in
    let now = c.insert.new.self in
    let within : c.get.result < length rows = search rules in
    let was = row_at rows c.args.owner c.get.result c.in-Some.row.now c.get.ensures.value within
    c.in-Some.ensures.value in
    record {
      answer = grind (arith, row_at);
      ok = on_ok_weaker c.insert.result
          (λ each. row_put rows _ c.args.owner now c.args.label (row_set rows c.args.owner c.get.result now
          c.get.ensures.value within)
          (λ q. each q ∙ ap (λ row. eq_by_cmp data_cmp q c.args.label || has_own row q) (sym was)))
          c.insert.ensures.ok;
      err = grind (
        arith,
        common_steps,
        on_err_weaker,
        row_at,
        row_kept,
        row_set,
        c.get.ensures.value,
        c.in-Some.ensures.value,
        c.insert.ensures.err,
      );
    }
