use Rattle.std.proofs.Common.{◌≡◌, subst}
use Rattle.std.specs.Prelude.{IfOk}
use Rattle.std.specs.Borrow.{Bor}
use Rattle.serde_json.specs.Data.{Data}
use Rattle.serde_json.specs.View.{view}
use Rattle.thes_base.specs.declared.data.Label.{Label}
use Rattle.thes_core.specs.LabelLists.{tagged_text}
use Rattle.thes_exchange.specs.ViewTexts.{tagged_data}
use Rattle.thes_exchange.proofs.ViewLemmas.{array_of_converted}
use Rattle.thes_exchange.proofs.view.labels_value.Goals as goal

pub returns : goal.returns
returns c =
    subst (λ (d : Data). IfOk c.array_value.result (λ v. view v ≡ d))
    (array_of_converted (λ (l : Bor Label). tagged_text l.now) tagged_data c.args.labels.now) c.array_value.ensures
