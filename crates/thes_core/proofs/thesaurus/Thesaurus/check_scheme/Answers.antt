use Rattle.std.proofs.Common.{refl}
use Rattle.thes_base.specs.Changes.{scheme_resource}
use Rattle.thes_core.specs.PartsView.{parts_state}
use Rattle.thes_core.proofs.GrowthLemmas.{made_grows}
use Rattle.thes_core.proofs.RequestCheckLemmas.{room_bare}
use Rattle.thes_core.proofs.thesaurus.Thesaurus.check_scheme.Goals as goal

pub returns : goal.returns
returns c = λ hs kept tag text. let t = c.args.self.now in
    room_bare t hs refl refl (made_grows (parts_state t hs) t.vocab.base kept.legal scheme_resource tag text)
    c.check_room.ensures
