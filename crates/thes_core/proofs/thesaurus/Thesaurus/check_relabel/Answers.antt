use Rattle.std.proofs.Common.{◌≡◌, refl, rules, ◌∙◌, Bool, arith}
use mir.Val.{bool_byte}
use Rattle.thes_base.proofs.RefusalRuleLemmas.{passed_unless}
use Rattle.thes_base.specs.Changes.{state_after_relabel}
use Rattle.thes_base.specs.RuleParts.{unless_replaceable_preferred, unless_within_limits}
use Rattle.thes_base.proofs.RefusalRulePartLemmas.{owner_part, relabelled_part}
use Rattle.thes_core.specs.PartsView.{parts_state, setting_of}
use Rattle.thes_core.proofs.GrowthLemmas.{keep_growth, relabelled_grows}
use Rattle.thes_core.proofs.RequestCheckLemmas.{room_bare}
use Rattle.thes_core.proofs.thesaurus.Thesaurus.check_relabel.Goals as goal

pub returns-in-Some-check_relabel : goal.returns-in-Some-check_relabel
returns-in-Some-check_relabel c = λ hs kept. search rules depth 14

-- The flag `keep` as a number, 1 or 0, is the number of labels that a relabelling adds.
byte_is : (b : Bool) → bool_byte b ≡ keep_growth b
byte_is b = grind (arith)

pub returns : goal.returns
returns c = λ hs kept.
    let t = c.args.self.now in
    let after = state_after_relabel c.args.owner c.args.tag.now c.args.text.now c.args.keep (parts_state t hs) in
    let room = unless_within_limits (setting_of t) (parts_state t hs) after in
    let grows = relabelled_grows (parts_state t hs) kept.legal.labels c.args.owner c.args.tag.now c.args.text.now
    c.args.keep c.from.result
    (c.from.ensures ∙ byte_is c.args.keep) (passed_unless c.in_default-check_relabel.ensures).0 in
    (owner_part t.vocab.resources c.args.owner).passes (unless_replaceable_preferred t.vocab.labels t.vocab.resources
    after.labels c.args.owner c.args.tag.now room) c.check_room.result c.in_default.ensures
    ((relabelled_part t.vocab.labels t.vocab.resources after.labels c.args.owner c.args.tag.now).passes room
    c.check_room.result c.in_default-check_relabel.ensures (room_bare t hs refl refl grows c.check_room.ensures))
