use Rattle.std.proofs.Common.{◌≡◌, subst}
use Rattle.std.specs.Prelude.{IfOk}
use Rattle.std.specs.Borrow.{Bor}
use Rattle.serde_json.specs.Data.{Data}
use Rattle.serde_json.specs.View.{view}
use Rattle.thes_base.specs.declared.data.History.{History}
use Rattle.thes_exchange.specs.ViewTexts.{row_data}
use Rattle.thes_exchange.proofs.ViewLemmas.{array_of_converted}
use Rattle.thes_exchange.proofs.view.rows_value.Goals as goal

pub returns : goal.returns
returns c =
    subst (λ (d : Data). IfOk c.array_value.result (λ v. view v ≡ d))
    (array_of_converted (λ (h : Bor History). h.now) row_data c.args.rows.now) c.array_value.ensures
