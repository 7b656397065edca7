use Rattle.std.proofs.Common.{ap, sym, subst, ◌∙◌, refl, Bool}
use Rattle.thes_base.specs.declared.data.Limits.{Limits}
use Rattle.thes_office.specs.Office.{IsConsistent, IsCopy, OfficeView}
use Rattle.thes_office.proofs.StepLemmas.{copies_own}
use Rattle.thes_office.proofs.OfficeViewLemmas.{consistent_after_load, consistent_when_spent}
use Rattle.thes_office.proofs.office.Office.run_group.Goals as goal

pub invariant_of-self : goal.invariant_of-self
invariant_of-self g c =
    let fresh = ap (λ (d : OfficeView _). d.stale) c.self.view_is ∙ c.requires.fresh in
    subst (λ (b : Bool). IsConsistent g.K.Keeper.view c.perform_group.new.keeper
    c.perform_group.new.core c.self.inside.limits b) (sym fresh)
    (consistent_after_load g.K.Keeper.view c.perform_group.new.keeper
    c.perform_group.new.keeper c.perform_group.new.core c.self.inside.limits c.self.invariant.limits_fit
    c.in-Ok.ensures.ok.unspent
    (λ up. subst (λ (l : Limits). IsCopy (g.K.Keeper.view c.perform_group.new.keeper).rows l c.perform_group.new.core)
    (c.self.invariant.copies fresh (c.perform_group.ensures.keeps.was up)).limits_are (c.in-Ok.ensures.ok.copies up))
    (λ up. refl))

pub invariant_of-self-in-Err : goal.invariant_of-self-in-Err
invariant_of-self-in-Err g c =
    consistent_when_spent g.K.Keeper.view c.self.inside.keeper
    c.perform_group.new.keeper c.self.inside.core c.perform_group.new.core c.self.inside.limits c.self.inside.stale
    c.self.invariant c.perform_group.ensures.keeps.was c.in-Err.ensures.keeps.same c.in-Err.ensures.spent

pub perform_group-requires : goal.perform_group-requires
perform_group-requires g c =
    let fresh = ap (λ (d : OfficeView _). d.stale) c.self.view_is ∙ c.requires.fresh in record {
      unspent = c.self.invariant.unspent fresh;
      copies = λ up. copies_own (g.K.Keeper.view c.self.inside.keeper).rows c.self.inside.limits c.self.inside.core
          (c.self.invariant.copies fresh up);
      group = c.requires.group;
    }
