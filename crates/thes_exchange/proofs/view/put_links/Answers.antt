use Rattle.std.proofs.Common.{rules, ◌≡◌, OnOk}
use Rattle.std.specs.Prelude.{codes}
use Rattle.serde_json.specs.Data.{put}
use Rattle.serde_json.specs.View.{members_view}
use Rattle.thes_exchange.specs.ConceptMembers.{members_with_links}
use Rattle.thes_exchange.specs.ViewTexts.{number_data, array_data, mapping_data, typed_data}
use Rattle.thes_exchange.proofs.view.put_links.Goals as goal

pub returns : goal.returns
unfolding members_with_links
returns c =
    let concept = c.args.concept.now in
    let same_broader : c.deref.result.now ≡ concept.broader = search rules in
    let broader : members_view c.put_value.new.members.entries ≡ put (codes "broader")
    (array_data number_data c.deref.result.now)
    (members_view c.args.members.now.entries) = c.in_ok-put_value.ensures _ c.array_value.ensures in
    let same_collections : c.deref-2.result.now ≡ concept.collections = search rules in
    let collections : members_view c.put_value-2.new.members.entries ≡ put (codes "collections")
    (array_data number_data c.deref-2.result.now)
    (members_view c.put_value.new.members.entries) = c.in_ok-put_value-2.ensures _ c.array_value-2.ensures in
    let same_mappings : c.deref-3.result.now ≡ concept.mappings = search rules in
    let mappings : members_view c.put_value-3.new.members.entries ≡ put (codes "mappings")
    (array_data mapping_data c.deref-3.result.now)
    (members_view c.put_value-2.new.members.entries) = c.in_ok-put_value-3.ensures _ c.array_value-3.ensures in
    let same_narrower : c.deref-4.result.now ≡ concept.narrower = search rules in
    let narrower : members_view c.put_value-4.new.members.entries ≡ put (codes "narrower")
    (array_data number_data c.deref-4.result.now)
    (members_view c.put_value-3.new.members.entries) = c.in_ok-put_value-4.ensures _
    c.array_value-4.ensures in
    let same_related : c.deref-5.result.now ≡ concept.related = search rules in
    let related : members_view c.put_value-5.new.members.entries ≡ put (codes "related")
    (array_data number_data c.deref-5.result.now)
    (members_view c.put_value-4.new.members.entries) = c.in_ok-put_value-5.ensures _
    c.array_value-5.ensures in
    let same_typed : c.deref-6.result.now ≡ concept.typed = search rules in
    let typed : OnOk c.put_value-6.result (members_view c.put_value-6.new.members.entries ≡ put (codes "typed")
    (array_data typed_data c.deref-6.result.now) (members_view c.put_value-5.new.members.entries)) =
    c.put_value-6.ensures _ c.array_value-6.ensures in
    rw (
      ← same_broader,
      ← same_collections,
      ← same_mappings,
      ← same_narrower,
      ← same_related,
      ← same_typed,
      ← broader,
      ← collections,
      ← mappings,
      ← narrower,
      ← related,
    ) typed
