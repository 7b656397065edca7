use Rattle.std.proofs.Common.{[], arith, subst}
use Rattle.thes_core.specs.CoreView.{CoreView, with_histories}
use Rattle.thes_core.specs.Losses.{IsLostFromParts}
use Rattle.thes_core.proofs.ApplyLemmas.{parts_may_change}
use Rattle.thes_core.proofs.machine.Core.lost_by_request.Goals as goal

pub lost_by-requires : goal.lost_by-requires
lost_by-requires c = grind (arith, parts_may_change)

pub returns-clause-parts : goal.returns-clause-parts
returns-clause-parts c = subst (λ (k : CoreView). IsLostFromParts c.args.command.now (with_histories [] k)
    c.in_ok-lost_by.field-0) c.self.view_is c.in_ok-lost_by.ensures.parts

pub returns-clause-postings : goal.returns-clause-postings
returns-clause-postings c = λ s accepts are. c.in_ok-lost_by.ensures.postings c.args.self.now.setting s accepts are
