use Rattle.std.proofs.Common.{◌∙◌, ap, false, refl, subst, sym}
use Rattle.thes_base.specs.State.{State}
use Rattle.thes_post.specs.PostingCounts.{ArePostingCounts}
use Rattle.thes_core.specs.CoreDecisions.{IsAccepted}
use Rattle.thes_core.specs.CoreView.{CoreView}
use Rattle.thes_core.specs.PartsView.{parts_view}
use Rattle.thes_core.proofs.UndoLogLemmas.{fit_before, parts_after_accepted, parts_after_applied, view_before}
use Rattle.thes_core.proofs.machine.Core.take_back_step.Goals as goal

pub take_back-requires : goal.take_back-requires
take_back-requires c =
    let is = c.self.view_is in
    let fit = c.self.invariant (ap (λ (x : CoreView). x.spent) is ∙ c.requires.unspent) in (
      c.requires.applied.0,
      parts_after_applied c.self.inside.thesaurus c.self.inside.spent c.args.self.now is fit
          c.requires.applied.0 c.args.step.now.command c.requires.applied.1.application,
      c.requires.applied.1.lost,
    )

pub invariant_of-self : goal.invariant_of-self
invariant_of-self c = λ _.
    let is = c.self.view_is in
    let fit = c.self.invariant (ap (λ (x : CoreView). x.spent) is ∙ c.requires.unspent) in
    let s = c.requires.applied.0 in
    let after = parts_after_applied c.self.inside.thesaurus c.self.inside.spent c.args.self.now is fit s
    c.args.step.now.command c.requires.applied.1.application in
    fit_before c.self.inside.thesaurus c.self.inside.spent c.args.self.now is fit s c.args.step.now.command
    c.take_back.new.self after (c.in-Ok.ensures.parts s after
    c.requires.applied.1.lost)

pub returns-in-Ok-clause-setting : goal.returns-in-Ok-clause-setting
returns-in-Ok-clause-setting c = λ _.
    let is = c.self.view_is in
    let fit = c.self.invariant (ap (λ (x : CoreView). x.spent) is ∙ c.requires.unspent) in
    let s = c.requires.applied.0 in
    let after = parts_after_applied c.self.inside.thesaurus c.self.inside.spent c.args.self.now is fit s
    c.args.step.now.command c.requires.applied.1.application in
    (c.in-Ok.ensures.parts s after c.requires.applied.1.lost).setting ∙ ap (λ (x : CoreView). x.setting) is

pub returns-in-Ok-clause-parts : goal.returns-in-Ok-clause-parts
returns-in-Ok-clause-parts c = λ _ s applied.
    let is = c.self.view_is in
    let fit = c.self.invariant (ap (λ (x : CoreView). x.spent) is ∙ c.requires.unspent) in
    let after = parts_after_applied c.self.inside.thesaurus c.self.inside.spent c.args.self.now is fit s
    c.args.step.now.command applied.application in
    (c.in-Ok.ensures.parts s after applied.lost).state

pub returns-in-Ok-clause-view : goal.returns-in-Ok-clause-view
returns-in-Ok-clause-view c = λ _ s t step holds.
    let is = c.self.view_is in
    let fit = c.self.invariant (ap (λ (x : CoreView). x.spent) is ∙ c.requires.unspent) in
    let command = c.args.step.now.command in
    let after = parts_after_accepted c.self.inside.thesaurus c.self.inside.spent c.args.self.now is fit s command t
    step.legal step.accepts step.after holds in
    let accepts = subst (λ (x : CoreView). IsAccepted x.setting s command) (sym is) step.accepts in
    let counts = subst (λ (x : State × CoreView). ArePostingCounts x.0.histories x.1.posting_counts)
    (λ i. (step.after i, sym is i)) holds.posting_counts in
    view_before c.self.inside.thesaurus c.self.inside.spent c.args.self.now is fit s command c.take_back.new.self
    (parts_view c.take_back.new.self false) t refl after
    (c.in-Ok.ensures.parts s after step.lost)
    (c.in-Ok.ensures.counts s after accepts step.lost_postings counts)
