use Rattle.std.proofs.Common.{◌≡◌, ap, subst, ◌∙◌}
use Rattle.thes_base.specs.Views.{totals_of}
use Rattle.thes_office.specs.QueryFrames.{InStateOfTables}
use Rattle.thes_office.specs.Office.{OfficeView}
use Rattle.thes_office.proofs.PostingListLemmas.{totals_of_copy}
use Rattle.thes_office.proofs.office.Office.totals.Goals as goal

pub returns-clause-in_tables : goal.returns-clause-in_tables
returns-clause-in_tables g c =
    subst (λ (d : OfficeView _). (g.K.Keeper.view d.keeper).is_up → InStateOfTables (g.K.Keeper.view d.keeper).rows
    (λ s. c.totals.result ≡ totals_of s.histories)) c.self.view_is
    (λ up. totals_of_copy (g.K.Keeper.view c.self.inside.keeper).rows c.self.inside.limits c.self.inside.core
    c.totals.result (c.self.invariant.copies (ap (λ (d : OfficeView _). d.stale) c.self.view_is
    ∙ c.in_default.ensures.fresh) up)
    c.totals.ensures.accepted c.totals.ensures.withdrawn c.totals.ensures.standing)
