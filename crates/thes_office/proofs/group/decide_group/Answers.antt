use Rattle.std.proofs.Common.{◌++◌, ◌∷◌, [], List, refl, rules, arith, take, length, sym, ap, ◌∙◌, subst, length-append}
use Rattle.std.proofs.lemmas.List.{take_more, take_all}
use Rattle.std.proofs.lemmas.Option.{slice_get_read}
use Rattle.thes_base.specs.declared.request.Answer.{Answer}
use Rattle.thes_base.specs.declared.request.Command.{Command}
use Rattle.thes_store.proofs.StorageLemmas.{kept_after}
use Rattle.thes_office.specs.Groups.{GroupDecided}
use Rattle.thes_office.proofs.GroupLemmas.{group_starts, decides_one_more}
use Rattle.thes_office.proofs.group.decide_group.Goals as goal

pub loop-command-init : goal.loop-command-init
loop-command-init g c = record {
  keeps = record { same = λ up. refl; was = λ up. up; count = refl };
  unspent = c.requires.unspent;
  setting = refl;
  each = search rules;
  decides = λ up. group_starts (g.K.Keeper.view c.args.keeper.now).rows c.args.core.now.setting.limits c.args.core.now
      (take 0 c.args.group.now) _ _ (c.requires.copies up) refl (search rules) (search rules);
}

pub loop-command-preserved : goal.loop-command-preserved
loop-command-preserved g c =
    let more = take_more c.args.group.now c.loop-command.command-index c.command-item.result (omega arith)
    ∙ ap (λ (x : Command). take c.loop-command.command-index c.args.group.now ++ x ∷ []) (sym c.command-item.is) in
    let asks = c.in-Ok.ensures.asks in
    let told = c.in_ok-decide_with_facts.ensures in
    let decided = told.decides in record {
      keeps = kept_after _ _ _ c.loop-command.invariant.keeps _ asks;
      unspent = told.usable.0;
      setting = told.usable.1 ∙ c.loop-command.invariant.setting;
      each = let grown = ap (λ (l : List Answer). length l) decided.1 in
          let one = length-append c.loop-command.decided.answers.items (decided.0 ∷ []) in
          let before = c.loop-command.invariant.each in
          omega (arith, grown, one, before);
      decides = λ up. let was = asks.was up in
          decides_one_more (g.K.Keeper.view c.args.keeper.now).rows (g.K.Keeper.view c.loop-command.keeper).rows
          c.args.core.now.setting (take c.loop-command.command-index c.args.group.now) _ c.command-item.result
          c.loop-command.decided.answers.items c.decide_with_facts.new.decided.answers.items decided.0
          c.loop-command.decided.delta c.decide_with_facts.new.decided.delta c.loop-command.core
          c.decide_with_facts.new.core
          (c.loop-command.invariant.decides was) c.loop-command.invariant.setting
          (c.loop-command.invariant.keeps.same was)
          (c.requires.group c.loop-command.command-index c.command-item.result
          (slice_get_read c.args.group.now (length c.args.group.now) c.loop-command.command-index
          c.command-item.result refl (omega arith) c.command-item.is))
          (λ s holds has. decided.2 s holds (has c.in-Ok.facts (c.in-Ok.ensures.in_tables up))) decided.1 more;
    }

pub returns-clause-decides : goal.returns-clause-decides
returns-clause-decides g c up =
    subst (λ (l : List Command). GroupDecided (g.K.Keeper.view c.args.keeper.now).rows c.args.core.now.setting l
    c.loop-command.decided.answers.items c.loop-command.decided.delta c.loop-command.core)
    (take_all c.loop-command.command-index c.args.group.now (omega arith)) (c.loop-command.invariant.decides up)

pub returns-clause-usable : goal.returns-clause-usable
returns-clause-usable g c = let now = c.loop-command.invariant in (omega (arith, now.each), now.unspent, now.setting)
