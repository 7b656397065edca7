use Rattle.std.proofs.Common.{◌∙◌, inr, refl, sym, ap}
use Rattle.std.proofs.lemmas.Result.{IfOk-weaker}
use Rattle.serde_json.specs.Read.{read}
use Rattle.thes_requests.proofs.MemberLemmas.{json_in-text, json_in-none}
use Rattle.thes_requests.proofs.tree.parse_json.Goals as goal

pub returns-in-Ok-clause-ok : goal.returns-in-Ok-clause-ok
returns-in-Ok-clause-ok c =
    let same = c.in-Ok.ensures.cases.0 in
    IfOk-weaker c.read.result _ _ (λ v e. json_in-text c.args.bytes.now _ c.in-Ok.ensures.cases.1
    (ap read (sym same) ∙ e)) c.read.ensures.ok

pub returns-in-Err-clause-err : goal.returns-in-Err-clause-err
returns-in-Err-clause-err c = inr (refl, json_in-none c.args.bytes.now (λ u. absurd (c.in-Err.ensures.cases.0 u)))
