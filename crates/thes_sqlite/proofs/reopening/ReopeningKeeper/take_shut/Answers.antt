use Rattle.std.proofs.Common.{◌≡◌, ◌∙◌, None, Some, true, false, refl, sym}
use Rattle.std.proofs.lemmas.Option.{same_Some}
use Rattle.thes_sqlite.proofs.ReopeningLemmas.{loses_shut, stays_lost}
use Rattle.thes_sqlite.proofs.reopening.ReopeningKeeper.take_shut.Goals as goal
use Rattle.thes_sqlite.proofs.reopening.ReopeningKeeper.take_shut.Goals.{in-Some+else-not-is_shut, in_default}
use Rattle.thes_sqlite.proofs.reopening.ReopeningKeeper.take_shut.Goals.{then-not-self, else-not-self}

pub invariant_of-self-2 : goal.invariant_of-self-2
invariant_of-self-2 g c = elim c.if-not-self.branch [
  | then-not-self w ↦ elim c.match-self.branch [
    | in-Some+else-not-is_shut v ↦
        let lost : c.if-not-self.self-inside.loss.value ≡ Some v.is_shut.new.self =
        rw (w.self-inside-is, w.of.ensures, v.self-inside-is) refl in
        let stored : c.if-not-self.self-inside.storage ≡ Some v.is_shut.new.self =
        rw (w.self-inside-is, v.self-inside-is) refl in
        let fresh : c.self.inside.is_reopened ≡ false = rw v.self-inside-is at w.if-not-self.true in (
          tt,
          (
            tt,
            loses_shut g.S.Store g.O.HeldImage.image c.self.inside.is_reopened c.self.inside.storage
                c.if-not-self.self-inside.loss.value None v.in-Some.keeper v.is_shut.new.self c.in-Some-take.keeper
                c.self.invariant.0 fresh v.in-Some.is lost v.is_shut.ensures.first v.is_shut.ensures.leaves
                (v.is_shut.ensures.shut v.if-not-is_shut.false)
                (same_Some _ _ (sym c.in-Some-take.is ∙ c.take.ensures.value ∙ stored))
                c.into_connection.ensures.kept,
          ),
        )
    | in_default v ↦
        let stored : c.if-not-self.self-inside.storage ≡ c.self.inside.storage =
        rw (w.self-inside-is, v.self-inside-is) refl in
        let there : c.self.inside.storage ≡ Some c.in-Some-take.keeper =
        sym stored ∙ sym c.take.ensures.value ∙ c.in-Some-take.is in
        absurd (v.in_default.not-Some c.in-Some-take.keeper there)
  ]
  | else-not-self w ↦ elim c.match-self.branch [
    | in-Some+else-not-is_shut v ↦
        let before : c.self.inside.is_reopened ≡ true = rw v.self-inside-is at w.if-not-self.false in
        let same : c.if-not-self.self-inside.loss.value ≡ c.self.inside.loss.value =
        rw (w.self-inside-is, v.self-inside-is) refl in (
          tt,
          (
            tt,
            stays_lost g.S.Store g.O.HeldImage.image c.self.inside.is_reopened c.self.inside.storage
                c.self.inside.loss.value c.if-not-self.self-inside.loss.value None c.self.invariant.1.1 before same,
          ),
        )
    | in_default v ↦
        let before : c.self.inside.is_reopened ≡ true = rw v.self-inside-is at w.if-not-self.false in
        let same : c.if-not-self.self-inside.loss.value ≡ c.self.inside.loss.value =
        rw (w.self-inside-is, v.self-inside-is) refl in (
          tt,
          (
            tt,
            stays_lost g.S.Store g.O.HeldImage.image c.self.inside.is_reopened c.self.inside.storage
                c.self.inside.loss.value c.if-not-self.self-inside.loss.value None c.self.invariant.1.1 before same,
          ),
        )
  ]
]
