use Rattle.std.proofs.Common.{rules}
use Rattle.std.proofs.lemmas.Iterator.Adapters.{items_from_extend}
use Rattle.std.proofs.lemmas.Iterator.Consumers.{YieldsList-from_copied, YieldsList-from_rest}
use Rattle.std.specs.BTreeMap.{keys}
use Rattle.thes_plan_postings.proofs.plan_postings.PlanPostings.changed_numbers.Goals as goal

pub returns : goal.returns
returns c =
    let h = items_from_extend c.extend.result c.extend.ensures.ran
    (YieldsList-from_copied (YieldsList-from_rest (keys c.args.self.now.placements) cc)) in search rules
