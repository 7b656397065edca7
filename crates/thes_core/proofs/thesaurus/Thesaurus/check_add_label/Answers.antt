use Rattle.std.proofs.Common.{refl, rules}
use Rattle.thes_base.specs.Machine.{owned_label}
use Rattle.thes_base.proofs.RefusalRuleLemmas.{passed_if}
use Rattle.thes_core.specs.PartsView.{parts_state}
use Rattle.thes_core.proofs.GrowthLemmas.{label_grows}
use Rattle.thes_core.proofs.RequestCheckLemmas.{room_bare}
use Rattle.thes_core.proofs.thesaurus.Thesaurus.check_add_label.Goals as goal

pub returns-in-Some-check_label : goal.returns-in-Some-check_label
returns-in-Some-check_label c = λ hs kept. search rules depth 14

pub returns : goal.returns
returns c = λ hs kept.
    let t = c.args.self.now in
    let new = (passed_if c.in_default-check_label.ensures).0 in
    let room =
    room_bare t hs refl refl (label_grows (parts_state t hs) t.vocab.base kept.legal
    (owned_label c.args.owner c.args.label.now) new) c.check_room.ensures in
    search rules depth 16
