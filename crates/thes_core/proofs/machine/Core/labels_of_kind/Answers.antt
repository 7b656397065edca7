use Rattle.std.proofs.lemmas.Result.{IfOk-weaker}
use Rattle.thes_core.proofs.LabelListLemmas.{listed_by}
use Rattle.thes_core.proofs.machine.Core.labels_of_kind.Goals as goal

pub returns : goal.returns
returns c = IfOk-weaker c.of_kind.result _ _ (λ found e. listed_by c.args.kind (λ l. l.now) c.args.self.now.labels
    c.args.owner c.labels_of.result.now found.items c.labels_of.ensures e) c.of_kind.ensures
