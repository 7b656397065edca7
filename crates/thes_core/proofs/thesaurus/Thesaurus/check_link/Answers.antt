use Rattle.std.proofs.Common.{refl, rules, subst}
use Rattle.thes_base.specs.Machine.{link}
use Rattle.thes_base.specs.Resources.{is_outside}
use Rattle.thes_base.proofs.RefusalRuleLemmas.{passed_if}
use Rattle.thes_core.specs.Requests.{unless_linkable}
use Rattle.thes_core.specs.PartsView.{parts_state}
use Rattle.thes_core.proofs.GrowthLemmas.{link_grows}
use Rattle.thes_core.proofs.RequestCheckLemmas.{room_bare}
use Rattle.thes_core.proofs.thesaurus.Thesaurus.check_link.Goals as goal

pub returns-in-Some-2 : goal.returns-in-Some-2
returns-in-Some-2 c = λ hs kept.
    let t = c.args.self.now in
    let says =
    subst (unless_linkable (is_outside t.vocab.resources) t.graph.links (link c.args.kind c.args.a c.args.b))
    c.in-Some-2.is c.in_ok-refusal.ensures in
    search rules depth 16

pub returns : goal.returns
returns c = λ hs kept.
    let t = c.args.self.now in
    let says =
    subst (unless_linkable (is_outside t.vocab.resources) t.graph.links (link c.args.kind c.args.a c.args.b))
    c.in_default-2.is c.in_ok-refusal.ensures in
    let room = room_bare t hs refl refl (link_grows (parts_state t hs) (link c.args.kind c.args.a c.args.b)
    (passed_if says).0) c.check_room.ensures in
    search rules depth 18
