use Rattle.std.proofs.lemmas.Grind.{common_steps}
use Rattle.std.proofs.Common.{◌∙◌, subst, sym, rules, ℕ, arith}
use Rattle.thes_base.specs.declared.fault.Refusal.TheVariants as no
use Rattle.thes_base.specs.RefusalRules.{refused_unless, accepted}
use Rattle.thes_base.specs.Links.{Holds}
use Rattle.thes_base.specs.RuleParts.{unless_links_consistent}
use Rattle.thes_base.specs.Changes.{state_after_merge}
use Rattle.thes_base.specs.Resources.{is_outside}
use Rattle.thes_base.proofs.LinkCountLemmas.{contracted_fewer}
use Rattle.thes_core.specs.Room.{HasRoomForGrowth, amounts_of_parts}
use Rattle.thes_core.specs.PartsView.{parts_state}
use Rattle.thes_core.proofs.GrowthLemmas.{growth_of, merged_grows}
use Rattle.thes_core.proofs.RequestCheckLemmas.{room_row, room_without}
use Rattle.thes_core.proofs.thesaurus.Thesaurus.check_merge.Goals as goal

pub returns-in-Some-2-clause-row : goal.returns-in-Some-2-clause-row
returns-in-Some-2-clause-row c = grind (arith)

pub returns-clause-row : goal.returns-clause-row
returns-clause-row c = λ hs kept are.
    let t = c.args.self.now in
    let after = state_after_merge c.args.source c.args.target (parts_state t hs) in
    let says = subst (unless_links_consistent (Holds after.links) accepted) c.in_default-2.is
    c.in_ok-refusal.ensures in
    let fewer = contracted_fewer (is_outside t.vocab.resources) c.args.source c.args.target t.graph.links in
    let grows = merged_grows (parts_state t hs) c.args.source c.args.target c.taken_count.result
    (sym c.taken_count.ensures) fewer in
    let counted = c.count.ensures.value ∙ are.standing c.args.source in
    let room =
    room_row t hs are grows
    (subst (λ (n : ℕ). refused_unless
    (HasRoomForGrowth t.limits (amounts_of_parts t) (growth_of 0 c.taken_count.result 0 0 n)) no.TooMany accepted
    c.check_room.result) counted c.check_room.ensures) in
    search rules depth 18

pub returns-clause-may : goal.returns-clause-may
returns-clause-may c = grind (
  arith,
  common_steps,
  contracted_fewer,
  merged_grows,
  room_without,
  c.in_default-2.is,
  c.in_ok-refusal.ensures,
  c.taken_count.ensures,
  c.check_room.ensures,
)
