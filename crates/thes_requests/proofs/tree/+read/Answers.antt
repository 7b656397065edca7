use Rattle.std.proofs.lemmas.Grind.{common_steps}
use Rattle.std.proofs.Common.{◌≡◌, ◌-◌, ◌<◌, [], ◌∷◌, ◌++◌, length, Some, None, sym, ap, ◌∙◌, arith, rules}
use Rattle.json.specs.Json.{parse_map, after_end_array, read_key, items, members, value}
use Rattle.json.proofs.Grammar.{value_is, value-begin_array, value-begin_object, read_key-shorter}
use Rattle.serde_json.specs.Data.{put}
use Rattle.serde_json.specs.Read.{of_items, of_members, converted}
use Rattle.thes_requests.specs.Tree.{view, members_view}
use Rattle.thes_requests.specs.declared.tree.Value.{the_lemmas}
use Rattle.thes_requests.proofs.TreeLemmas.{view-Array, view-Object, items_before, items_before-no_items, one_more_item}
use Rattle.thes_requests.proofs.TreeLemmas.{none_before}
use Rattle.thes_requests.proofs.GrammarLemmas.{converted-array, converted-object, item_read, item_refused, items_over}
use Rattle.thes_requests.proofs.GrammarLemmas.{member_read, member_refused, key_refused, members_over}
use Rattle.thes_requests.proofs.tree.+read.Goals as goal

pub read-returns-in_err-token-clause-err : goal.read-returns-in_err-token-clause-err
read-returns-in_err-token-clause-err t c refused = grind (arith, common_steps, value_is)

pub read-returns-then-depth-eq0-clause-err : goal.read-returns-then-depth-eq0-clause-err
unfolding value
read-returns-then-depth-eq0-clause-err t c never = grind (arith, common_steps)

pub read-returns-then-depth-eq0-2-clause-err : goal.read-returns-then-depth-eq0-2-clause-err
unfolding value
read-returns-then-depth-eq0-2-clause-err t c never = grind (arith, common_steps)

pub read-returns-in_err-read_items-in-BeginArray-clause-err :
    goal.read-returns-in_err-read_items-in-BeginArray-clause-err
read-returns-in_err-read_items-in-BeginArray-clause-err t c refused =
    grind (arith, common_steps, value-begin_array, converted-array)

pub read-returns-in_err-read_members-in-BeginObject-clause-err :
    goal.read-returns-in_err-read_members-in-BeginObject-clause-err
read-returns-in_err-read_members-in-BeginObject-clause-err t c refused =
    grind (arith, common_steps, value-begin_object, converted-object)

pub read-returns-in-String-clause-ok : goal.read-returns-in-String-clause-ok
read-returns-in-String-clause-ok t c = grind (arith, common_steps, value_is, the_lemmas)

pub read-returns-in-Bool-clause-ok : goal.read-returns-in-Bool-clause-ok
read-returns-in-Bool-clause-ok t c = grind (arith, common_steps, value_is, the_lemmas)

pub read-returns-in-Null-clause-ok : goal.read-returns-in-Null-clause-ok
read-returns-in-Null-clause-ok t c = grind (arith, common_steps, value_is, the_lemmas)

pub read-returns-in-Some-clause-ok : goal.read-returns-in-Some-clause-ok
read-returns-in-Some-clause-ok t c = grind (arith, common_steps, value_is, the_lemmas)

pub read-returns-in-None-clause-err : goal.read-returns-in-None-clause-err
read-returns-in-None-clause-err t c refused = grind (arith, common_steps, value_is)

pub read-returns-in-EndObject-clause-err : goal.read-returns-in-EndObject-clause-err
read-returns-in-EndObject-clause-err t c refused = grind (arith, common_steps, value_is)

pub read-returns-in_ok-read_items-in-BeginArray-clause-ok : goal.read-returns-in_ok-read_items-in-BeginArray-clause-ok
read-returns-in_ok-read_items-in-BeginArray-clause-ok t c =
    grind (arith, common_steps, value-begin_array, converted-array, view-Array)

pub read-returns-in_ok-read_members-in-BeginObject-clause-ok :
    goal.read-returns-in_ok-read_members-in-BeginObject-clause-ok
read-returns-in_ok-read_members-in-BeginObject-clause-ok t c =
    grind (arith, common_steps, value-begin_object, converted-object, view-Object)

pub read_items-items-init : goal.read_items-items-init
read_items-items-init t c = grind (arith, common_steps, none_before)

pub read_items-returns-in_err-item-clause-err : goal.read_items-returns-in_err-item-clause-err
read_items-returns-in_err-item-clause-err t c refused = grind (arith, common_steps, item_refused)

pub read_items-items-preserved : goal.read_items-items-preserved
read_items-items-preserved t c =
    let p = value c.args.depth in
    let l = c.items in
    let n = l.invariant.0 in
    let going : (after_end_array l.reader ≡ None) × (c.take_end_array.new.self ≡ l.reader) = grind arith in
    let done = c.in_ok-item.ensures in
    let v = c.in_ok-item.item in
    let r = c.read.new.reader in
    let less : length r < length l.reader = rw (← going.1) done.shorter in
    let pushed : c.push.new.self.items ≡ l.found.items ++ v ∷ [] = search rules in
    let turn = item_read p n l.reader r (view v) (omega (arith, l.invariant.1)) going.0 (rw (← going.1) done.ok) in (
      n - 1,
      omega (arith, l.invariant.1),
      l.invariant.2 ∙ ap (parse_map (items_before l.found.items)) turn ∙ one_more_item l.found.items v _
          ∙ ap (λ vs. parse_map (items_before vs) (converted of_items (items p (n - 1) r))) (sym pushed),
      omega (arith, l.invariant.3),
    )

pub read_items-returns-clause-ok : goal.read_items-returns-clause-ok
read_items-returns-clause-ok t c = grind (arith, common_steps, items_over, items_before-no_items)

pub read_members-members-init : goal.read_members-members-init
read_members-members-init t c = grind (arith, common_steps)

pub read_members-returns-in_err-name-clause-err : goal.read_members-returns-in_err-name-clause-err
read_members-returns-in_err-name-clause-err t c refused =
    let p = value c.args.depth in
    let l = c.members in
    let n = l.invariant.0 in
    let old = members_view l.found.items in
    l.invariant.2 ∙ key_refused p old n l.reader (c.in_err-name.ensures.err.1)

pub read_members-returns-in_err-member-clause-err : goal.read_members-returns-in_err-member-clause-err
read_members-returns-in_err-member-clause-err t c refused =
    let l = c.members in
    let s = c.next_name.new.reader in
    let named : read_key l.reader ≡ Some (Some c.in-Some.name.now, s) = grind arith in
    l.invariant.2 ∙ member_refused (value c.args.depth) (members_view l.found.items) l.invariant.0 c.in-Some.name.now
    l.reader s named (c.read.ensures.err (grind arith))

pub read_members-members-preserved : goal.read_members-members-preserved
read_members-members-preserved t c =
    let p = value c.args.depth in
    let l = c.members in
    let n = l.invariant.0 in
    let old = members_view l.found.items in
    let k = c.in-Some.name.now in
    let s = c.next_name.new.reader in
    let named : read_key l.reader ≡ Some (Some k, s) = grind arith in
    let done = c.in_ok-member.ensures in
    let v = c.in_ok-member.member in
    let r = c.read.new.reader in
    let less = read_key-shorter l.reader (Some k) s named in
    let lesser = done.shorter in
    let pushed : members_view c.push_member.new.members.items ≡ put k (view v) old = search rules in (
      n - 1,
      omega (arith, l.invariant.1),
      l.invariant.2 ∙ member_read p old n k l.reader s r (view v) (omega (arith, l.invariant.1)) named done.ok
          ∙ ap (λ found. converted (λ ms. of_members ms found) (members p (n - 1) r)) (sym pushed),
      omega (arith, l.invariant.3),
    )

pub read_members-returns-clause-ok : goal.read_members-returns-clause-ok
read_members-returns-clause-ok t c =
    let p = value c.args.depth in
    let l = c.members in
    let n = l.invariant.0 in
    let old = members_view l.found.items in
    l.invariant.2 ∙ members_over p old n l.reader c.next_name.new.reader l.invariant.1 (grind arith)
