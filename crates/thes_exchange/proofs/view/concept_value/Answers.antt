use Rattle.std.proofs.Common.{◌≡◌, ◌∙◌, rules}
use Rattle.serde_json.specs.Data.{no_members}
use Rattle.serde_json.specs.View.{members_view}
use Rattle.serde_json.proofs.Views.{view-Object}
use Rattle.thes_exchange.proofs.ViewLemmas.{concept_members}
use Rattle.thes_exchange.proofs.view.concept_value.Goals as goal

pub returns : goal.returns
returns c =
    let empty : members_view c.new-members.result.entries ≡ no_members = search rules in
    view-Object c.put_facts.new.members
    ∙ concept_members c.args.concept.now _ _ _ _ empty c.in_ok-put_labels.ensures c.in_ok-put_links.ensures
    c.in_ok-put_facts.ensures
