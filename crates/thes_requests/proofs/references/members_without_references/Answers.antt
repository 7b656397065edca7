use Rattle.std.proofs.Common.{rules, ◌≡◌, ◌∙◌, ◌++◌, ◌∷◌, [], sym, ap, length, arith, append_assoc}
use Rattle.serde_json.specs.Data.{put}
use Rattle.thes_requests.specs.References.{member_without_references}
use Rattle.thes_requests.specs.Tree.{view, members_view}
use Rattle.thes_requests.proofs.ReferenceLemmas.{without_push}
use Rattle.thes_requests.proofs.references.members_without_references.Goals as goal

-- One more member is put in.
pub loop-name-preserved : goal.loop-name-preserved
loop-name-preserved c =
    let before = c.loop-name.invariant in
    let step = c.in-Some.ensures.steps in
    let a = ap length step.0 in
    let b = step.1 in
    let d = before.2 in
    let whole = ap (λ r. c.loop-name.yielded ++ r) (sym step.0) ∙ before.1 in
    let value : view c.in_ok-value.value ≡ member_without_references c.in-Some.name.now (view c.in-Some.value) =
    search rules in
    let pushed : members_view c.push_member.new.members.items
    ≡ put c.in-Some.name.now (view c.in_ok-value.value) (members_view c.loop-name.found.items) = search rules in (
      pushed ∙ without_push c.loop-name.yielded c.loop-name.found.items (c.in-Some.name, c.in-Some.value) _ before.0
          value,
      append_assoc c.loop-name.yielded ((c.in-Some.name, c.in-Some.value) ∷ []) c.next.new.self.rest.items ∙ whole,
      omega (arith, a, b, d),
    )
