use Rattle.std.proofs.Common.{[], refl, ap, ◌∙◌, subst, arith}
use Rattle.thes_base.specs.Legal.{IsLegalState}
use Rattle.thes_base.specs.Machine.{next_state}
use Rattle.thes_core.specs.CoreView.{CoreView, with_histories, without_postings}
use Rattle.thes_core.proofs.ApplyLemmas.{held_meant, parts_may_change, fit_new, makes_new}
use Rattle.thes_core.proofs.machine.Core.apply.Goals as goal

pub change-requires : goal.change-requires
change-requires c = grind (arith, parts_may_change)

pub invariant_of-self-2 : goal.invariant_of-self-2
invariant_of-self-2 c = λ _.
    fit_new c.self.inside.thesaurus c.change.new.self c.args.command.now c.learn_forms.ensures
    (parts_may_change c.self.inside.thesaurus c.self.inside.spent c.args.self.now c.args.command.now c.self.view_is
    c.requires.unspent c.self.invariant c.requires.may) c.in_ok-change.ensures.becomes

pub returns-clause-made : goal.returns-clause-made
returns-clause-made c = λ s holds told accepts.
    let t = c.self.inside.thesaurus in
    let spent = c.self.inside.spent in
    let k = c.args.self.now in
    let is = c.self.view_is in
    let fit = c.self.invariant (ap (λ (x : CoreView). x.spent) is ∙ c.requires.unspent) in
    makes_new t spent k is s fit holds c.args.command.now accepts c.change.new.self
    c.learn_forms.ensures c.in_ok-change.ensures.becomes
    (c.in_ok-change.ensures.counts s.histories (held_meant t spent k is s fit holds c.args.command.now accepts
    c.args.facts.now told))

pub returns-clause-parts : goal.returns-clause-parts
returns-clause-parts c =
    let is = c.self.view_is in
    let fit = c.self.invariant (ap (λ (x : CoreView). x.spent) is ∙ c.requires.unspent) in
    record {
      bare = refl;
      legal = subst (λ (x : CoreView). IsLegalState x.setting.base (with_histories [] x)) is fit.legal;
      may = c.requires.may;
      after = c.in_ok-change.ensures.becomes.state
          ∙ ap (λ (x : CoreView). without_postings (next_state c.args.command.now (with_histories [] x))) is;
    }
