use Rattle.std.proofs.Common.{rules, inl}
use Rattle.thes_office.proofs.OfficeViewLemmas.{consistent_after_load, consistent_after_query, frame_of_load_fault}
use Rattle.thes_office.proofs.office.Office.refresh.Goals as goal

pub invariant_of-self : goal.invariant_of-self
invariant_of-self g c =
    consistent_after_query g.K.Keeper.view c.self.inside.keeper c.load.new.keeper
    c.self.inside.core c.self.inside.limits c.self.inside.stale c.self.inside.stale c.self.invariant
    c.load.ensures.reads.later (λ e. inl e) (λ e. e) c.load.ensures.reads.was c.load.ensures.reads.same

pub returns-in-Err : goal.returns-in-Err
returns-in-Err g c =
    frame_of_load_fault g.K.Keeper.view c.self.inside.keeper c.load.new.keeper
    c.self.inside.core c.self.inside.limits c.self.inside.stale c.in-Err.fault c.args.self.now
    c.in-Err.ensures.reads c.in-Err.ensures.err.verdict c.self.invariant (search rules) c.self.view_is

pub invariant_of-self-2 : goal.invariant_of-self-2
invariant_of-self-2 g c =
    consistent_after_load g.K.Keeper.view c.self.inside.keeper c.load.new.keeper
    c.in-Ok.core c.self.inside.limits c.self.invariant.limits_fit
    c.in-Ok.ensures.ok.unspent c.in-Ok.ensures.ok.copy c.in-Ok.ensures.reads.same
