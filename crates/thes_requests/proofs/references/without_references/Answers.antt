use Rattle.std.proofs.Common.{rules, ◌≡◌, ◌∙◌, sym, ap}
use Rattle.serde_json.specs.Data.{object}
use Rattle.thes_requests.specs.References.{members_without_references, without_references}
use Rattle.thes_requests.specs.Tree.{view, members_view}
use Rattle.thes_requests.proofs.TreeLemmas.{view-Object}
use Rattle.thes_requests.proofs.references.without_references.Goals as goal

-- An object without references is unchanged.
pub returns-then-not-have_references : goal.returns-then-not-have_references
returns-then-not-have_references c =
    let is = view-Object c.in-Object.members in
    let stays : members_without_references (members_view c.in-Object.members.items)
    ≡ members_view c.in-Object.members.items = search rules in
    is ∙ ap object (sym stays) ∙ ap without_references (sym (ap view c.in-Object.is ∙ is))
