use Rattle.std.proofs.Common.{◌≡◌, ◌∙◌, [], refl, subst, rules}
use Rattle.std.specs.Prelude.{Option, None, Some, IfNone}
use Rattle.thes_base.specs.declared.fault.Refusal.{Refusal}
use Rattle.thes_base.specs.declared.request.Command.TheVariants as request
use Rattle.thes_base.specs.RefusalRules.{accepted}
use Rattle.thes_base.specs.RuleParts.{unless_split_postings}
use Rattle.thes_base.proofs.ListedLemmas.{listed_count}
use Rattle.thes_base.proofs.RefusalRuleLemmas.{passed_unless}
use Rattle.thes_core.specs.PartsView.{parts_state, setting_of}
use Rattle.thes_core.specs.CoreDecisions.{IsAccepted}
use Rattle.thes_core.specs.Requests.{RefusalByParts}
use Rattle.thes_core.proofs.GrowthLemmas.{split_grows}
use Rattle.thes_core.proofs.RequestCheckLemmas.{room_row, room_without, name_row}
use Rattle.thes_core.proofs.thesaurus.Thesaurus.check_split.Goals as goal

pub returns-in-Some-check_concept-clause-row : goal.returns-in-Some-check_concept-clause-row
returns-in-Some-check_concept-clause-row c = λ hs kept are told.
    let t = c.args.self.now in
    let listed = subst (unless_split_postings hs c.args.source c.args.postings.now accepted) c.in_default-2.is
    (c.in_ok-refusal.ensures hs (c.as_slice.ensures.value ∙ told)) in
    let concept = (passed_unless (passed_unless c.in_default.ensures).1).0 in
    let name = name_row t hs kept c.args.source c.scheme.result c.args.tag.now c.args.text.now concept
    c.scheme.ensures _ c.in-Some-check_concept.ensures in
    search rules depth 20

pub returns-clause-row : goal.returns-clause-row
returns-clause-row c = λ hs kept are told.
    let t = c.args.self.now in
    let listed = subst (unless_split_postings hs c.args.source c.args.postings.now accepted) c.in_default-2.is
    (c.in_ok-refusal.ensures hs (c.as_slice.ensures.value ∙ told)) in
    let concept = (passed_unless (passed_unless c.in_default.ensures).1).0 in
    let name = name_row t hs kept c.args.source c.scheme.result c.args.tag.now c.args.text.now concept
    c.scheme.ensures _ c.in_default-check_concept.ensures in
    let count = listed_count t.vocab.base (parts_state t hs) c.args.source c.args.postings.now kept.legal listed in
    let room = room_row t hs are (split_grows (parts_state t hs) c.args.source c.args.tag.now c.args.text.now
    c.args.postings.now kept.legal.labels count) c.check_room.ensures in
    search rules depth 22

pub returns-clause-may : goal.returns-clause-may
returns-clause-may c = go c.check_room.result refl
  where
    none_listed : unless_split_postings [] c.args.source [] accepted None
    none_listed = search rules depth 16

    go : (answer : Option Refusal) → c.check_room.result ≡ answer
        → IfNone answer (IsAccepted (setting_of c.args.self.now) (parts_state c.args.self.now [])
        (request.Split c.args.source c.args.tag.now c.args.text.now []))
    go (Some r) is = tt
    go None is =
        let t = c.args.self.now in
        let listed = none_listed in
        let concept = (passed_unless (passed_unless c.in_default.ensures).1).0 in
        let name = name_row t [] c.requires c.args.source c.scheme.result c.args.tag.now c.args.text.now concept
        c.scheme.ensures _ c.in_default-check_concept.ensures in
        let room = room_without t c.check_room.result c.check_room.ensures
        (split_grows (parts_state t []) c.args.source c.args.tag.now c.args.text.now [] c.requires.legal.labels
        refl) is in
        let row : RefusalByParts t [] (request.Split c.args.source c.args.tag.now c.args.text.now []) None =
        search rules depth 22 in
        record { fresh = tt; row = row }
