use Rattle.std.proofs.Common.{◌∙◌, ap, subst, sym}
use Rattle.std.specs.Option.{option_copied}
use Rattle.thes_base.specs.declared.request.Command.{Command}
use Rattle.thes_core.specs.CoreDecisions.{IsAccepted}
use Rattle.thes_core.specs.Facts.{AreFacts}
use Rattle.thes_core.specs.Losses.{IsLostFromPostings}
use Rattle.thes_core.specs.Requests.{MayChange}
use Rattle.thes_core.proofs.RelabelUndoLemmas.{preferred_known}
use Rattle.thes_core.proofs.thesaurus.Thesaurus.lost_by.Goals as goal

pub returns-in-Withdraw-clause-postings : goal.returns-in-Withdraw-clause-postings
returns-in-Withdraw-clause-postings c = λ setting s accepts are.
    subst (λ (x : Command). IsLostFromPostings x s c.lost_place.result) (sym c.in-Withdraw.is)
    (c.lost_place.ensures c.in-Withdraw.field-0 setting s
    (subst (λ (x : Command). IsAccepted setting s x) c.in-Withdraw.is accepts)
    (subst (λ (x : Command). AreFacts x s.histories c.args.facts.now) c.in-Withdraw.is are))

pub returns-in-None-clause-parts : goal.returns-in-None-clause-parts
returns-in-None-clause-parts c =
    let may = subst (λ (x : Command). MayChange c.args.self.now x) c.in-Relabel.is c.requires in
    absurd (preferred_known c.args.self.now c.in-Relabel.owner c.in-Relabel.tag c.in-Relabel.field-2
    c.in-Relabel.field-3 may (sym c.preferred.ensures ∙ ap option_copied c.in-None.is))
