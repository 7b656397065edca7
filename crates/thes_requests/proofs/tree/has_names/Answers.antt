use Rattle.std.proofs.Common.{◌≡◌, ◌+◌, take, true, false, sym, ◌∙◌, arith}
use Rattle.serde_json.specs.Events.{members_len}
use Rattle.thes_requests.specs.Tree.{members_view}
use Rattle.thes_requests.proofs.TreeLemmas.{names_next, names_of_prefix}
use Rattle.thes_requests.proofs.tree.has_names.Goals as goal
use Rattle.thes_requests.proofs.tree.has_names.Goals.{then-not-has_name+else-names-count, else-not-has_name}

pub returns-then-names-count : goal.returns-then-names-count
returns-then-names-count c =
    let xs = c.args.members.now in
    let i = c.loop-index.index in
    let next = names_next xs i c.index-members-index.result c.has_name.result c.loop-index-test.true
    c.has_name.ensures in
    let new : c.has_name.result ≡ false = grind arith in
    let more : members_len (members_view (take (i + 1) xs)) ≡ c.args.count + 1 = next ∙ rw new (grind arith) in
    let all = names_of_prefix xs (i + 1) in
    grind (arith, more, all)

pub loop-index-preserved : goal.loop-index-preserved
loop-index-preserved c =
    let xs = c.args.members.now in
    let i = c.loop-index.index in
    let next = names_next xs i c.index-members-index.result c.has_name.result c.loop-index-test.true
    c.has_name.ensures in
    elim c.if-not-has_name.branch [
      | then-not-has_name+else-names-count w ↦ let new : c.has_name.result ≡ false = grind arith in
          (w.names-is ∙ sym (next ∙ rw new (grind arith)), grind arith)
      | else-not-has_name w ↦ let old : c.has_name.result ≡ true = grind arith in
          (w.names-is ∙ sym (next ∙ rw old (grind arith)), grind arith)
    ]
