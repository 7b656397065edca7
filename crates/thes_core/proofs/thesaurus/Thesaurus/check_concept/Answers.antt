use Rattle.std.proofs.Common.{refl, rules}
use Rattle.std.specs.Prelude.{Some}
use Rattle.thes_base.specs.Changes.{concept_resource}
use Rattle.thes_core.specs.PartsView.{parts_state}
use Rattle.thes_core.proofs.GrowthLemmas.{made_grows}
use Rattle.thes_core.proofs.RequestCheckLemmas.{room_bare}
use Rattle.thes_core.proofs.thesaurus.Thesaurus.check_concept.Goals as goal

pub returns : goal.returns
returns c = λ hs kept.
    let t = c.args.self.now in
    let room =
    room_bare t hs refl refl (made_grows (parts_state t hs) t.vocab.base kept.legal
    (concept_resource (Some c.args.scheme)) c.args.tag.now c.args.text.now) c.check_room.ensures in
    search rules depth 12
