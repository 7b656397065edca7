use Rattle.std.proofs.Common.{sym, ◌∙◌}
use Rattle.thes_office.proofs.GroupLemmas.{copy_after_group, group_is_run}
use Rattle.thes_office.proofs.StateTableLemmas.{changes_fit}
use Rattle.thes_office.proofs.group.perform_group.Goals as goal

pub commit_changes-requires : goal.commit_changes-requires
commit_changes-requires g c up t is =
    let d = c.in-Ok.ensures.decides up in
    changes_fit (g.K.Keeper.view c.args.keeper.now).rows c.args.core.now.setting.base d.state_before d.state_after
    c.in-Ok.field-0.delta d.shows d.leads t (sym (c.decide_group.ensures.asks.same up) ∙ is)

pub returns-in_default-clause-ok : goal.returns-in_default-clause-ok
returns-in_default-clause-ok g c = record {
  performs = λ up. let was = c.commit_changes.ensures.keeps.was up in
      group_is_run (g.K.Keeper.view c.args.keeper.now).rows (g.K.Keeper.view c.commit_changes.new.keeper).rows
      c.args.core.now.setting c.args.group.now c.in-Ok.field-0.answers.items c.in-Ok.field-0.delta
      c.decide_group.new.core (c.in-Ok.ensures.decides was) c.in-Ok.ensures.usable.2
      (λ t is. c.in_default.ensures.ok up t (c.decide_group.ensures.asks.same was ∙ is));
  each = c.in-Ok.ensures.usable.0;
  unspent = c.in-Ok.ensures.usable.1;
  copies = λ up. let was = c.commit_changes.ensures.keeps.was up in
      copy_after_group (g.K.Keeper.view c.args.keeper.now).rows (g.K.Keeper.view c.commit_changes.new.keeper).rows
      c.args.core.now.setting c.args.group.now c.in-Ok.field-0.answers.items c.in-Ok.field-0.delta
      c.decide_group.new.core (c.in-Ok.ensures.decides was) c.in-Ok.ensures.usable.2
      (λ t is. c.in_default.ensures.ok up t (c.decide_group.ensures.asks.same was ∙ is));
}
