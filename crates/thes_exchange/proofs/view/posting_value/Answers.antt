use Rattle.std.proofs.Common.{◌≡◌, ◌∙◌, rules}
use Rattle.serde_json.specs.Data.{no_members}
use Rattle.serde_json.specs.View.{members_view}
use Rattle.serde_json.proofs.Views.{view-Object}
use Rattle.thes_exchange.proofs.ViewLemmas.{posting_members}
use Rattle.thes_exchange.proofs.view.posting_value.Goals as goal

pub returns : goal.returns
returns c =
    let empty : members_view c.new-members.result.entries ≡ no_members = search rules in
    view-Object c.put_posting.new.members
    ∙ posting_members c.args.history.now _ _ empty c.in_ok-put_posting.ensures
