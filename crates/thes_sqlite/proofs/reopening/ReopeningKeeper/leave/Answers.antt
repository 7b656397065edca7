use Rattle.std.proofs.Common.{◌∙◌, Bool, Option, ap, sym}
use Rattle.sqlite.specs.Held.{Held}
use Rattle.thes_sqlite.specs.Reopening.{ReopeningView}
use Rattle.thes_sqlite.proofs.ReopeningLemmas.{lost_when_reopened, reopened_without, reports_reopened, returns_first}
use Rattle.thes_sqlite.proofs.reopening.ReopeningKeeper.leave.Goals as goal
use Rattle.thes_sqlite.proofs.reopening.ReopeningKeeper.leave.Goals.{in-Some, in-None}

pub returns-clause-returns : goal.returns-clause-returns
returns-clause-returns g c =
    let is = ap (λ (v : ReopeningView _). v.first) c.self.view_is in
    elim c.match-storage.branch [
      | in-Some w ↦ λ stays. returns_first g.S.Store g.O.HeldImage.image c.args.self c.self.inside.is_reopened
          c.self.inside.storage w.in-Some.keeper w.into_connection.result c.match-storage.conn is w.in-Some.is
          c.self.invariant.0 w.into_connection.ensures.is w.into_connection.ensures.kept w.conn-is stays
      | in-None w ↦ λ stays. absurd (reports_reopened _ c.match-storage.conn w.conn-is stays)
    ]

pub returns-clause-lost : goal.returns-clause-lost
returns-clause-lost g c = elim c.match-storage.branch [
  | in-Some w ↦ λ again. lost_when_reopened g.S.Store g.O.HeldImage.image c.self.inside.is_reopened
      c.self.inside.storage c.self.inside.loss.value c.self.invariant.1.1
      (sym (ap (λ (r : Option (Held _) × Bool). r.1) w.conn-is) ∙ again)
  | in-None w ↦ λ again. lost_when_reopened g.S.Store g.O.HeldImage.image c.self.inside.is_reopened
      c.self.inside.storage c.self.inside.loss.value c.self.invariant.1.1
      (reopened_without g.S.Store g.O.HeldImage.image c.self.inside.is_reopened c.self.inside.storage
      c.self.inside.loss.value c.self.invariant.1.1 w.in-None.is)
]
