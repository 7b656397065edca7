use Rattle.std.proofs.Common.{refl, subst}
use Rattle.thes_base.specs.RuleParts.{unless_resource}
use Rattle.thes_base.specs.Resources.{IsConcept}
use Rattle.thes_base.specs.RefusalRules.{accepted}
use Rattle.thes_office.proofs.PostingListLemmas.{concept_check_of_copy, takes_rows_assigned, takes_some_assigned}
use Rattle.thes_office.proofs.reading.list.Goals as goal

pub returns-in-Some-clause-lists : goal.returns-in-Some-clause-lists
returns-in-Some-clause-lists g c up = (
  refl,
  concept_check_of_copy (g.K.Keeper.view c.args.keeper.now).rows c.args.core.now.setting.limits c.args.core.now
      (c.requires.copies up) c.args.concept _ c.in-Some.ensures,
)

pub returns-in-Ok-clause-lists : goal.returns-in-Ok-clause-lists
returns-in-Ok-clause-lists g c up base s x =
    let copy = c.args.core.now in (
      concept_check_of_copy (g.K.Keeper.view c.args.keeper.now).rows copy.setting.limits copy
          (c.requires.copies (c.standing.ensures.asks.was up)) c.args.concept _
          (subst (unless_resource (IsConcept copy.resources) copy.resources c.args.concept accepted) c.in_default.is
          c.check_concept.ensures) base s x,
      takes_rows_assigned g.S.PostingSink.gives (g.K.Keeper.view c.args.keeper.now).rows c.args.concept c.args.sink.now
          c.standing.new.sink base s x (c.in-Ok.ensures.yields up x.tables x.rows),
    )

pub returns-in-Err-clause-lists : goal.returns-in-Err-clause-lists
returns-in-Err-clause-lists g c up base s x =
    takes_some_assigned g.S.PostingSink.gives (g.K.Keeper.view c.args.keeper.now).rows c.args.concept c.args.sink.now
    c.standing.new.sink c.in-Err.fault base s x (c.in-Err.ensures.yields up x.tables x.rows)
