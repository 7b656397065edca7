use Rattle.std.proofs.Common.{inr, subst, ℕ}
use Rattle.thes_base.specs.declared.fault.Refusal.TheVariants as no
use Rattle.thes_base.specs.RefusalRules.{refused_unless, accepted}
use Rattle.thes_base.proofs.RefusalRuleLemmas.{passed_unless}
use Rattle.thes_core.specs.Room.{HasRoomForGrowth, amounts_of_parts}
use Rattle.thes_core.specs.PartsView.{parts_state}
use Rattle.thes_core.proofs.GrowthLemmas.{growth_of, posted_grows}
use Rattle.thes_core.proofs.RequestCheckLemmas.{room_row}
use Rattle.thes_core.proofs.thesaurus.Thesaurus.check_post.Goals as goal

pub returns : goal.returns
returns c = λ hs kept are key rec.
    let t = c.args.self.now in
    let known = passed_unless c.in_default.ensures in
    let kind = passed_unless known.1 in
    let live = passed_unless kind.1 in
    let fits = subst (λ (n : ℕ). refused_unless (HasRoomForGrowth t.limits (amounts_of_parts t) (growth_of 0 0 0 1 n))
    no.TooMany accepted c.check_room.result) c.forwarding-way.ensures.steps c.check_room.ensures in
    let room = room_row t hs are (posted_grows (parts_state t hs) key rec c.args.concept) fits in
    inr (known.0, inr (kind.0, inr (live.0, room)))
