use Rattle.std.proofs.Common.{◌≡◌, ◌++◌, ◌∷◌, [], ◌∙◌, List, ℕ, subst, sym, length, true≢false, rules}
use Rattle.thes_load_rows.specs.RowsSoFar.{has_key, HasPostings, IsNextPosting}
use Rattle.thes_load_rows.proofs.PostingLoadLemmas.{not_next, key_held, next_taken}
use Rattle.std.proofs.lemmas.Bool.{not-true, not-false}
use Rattle.thes_load_rows.proofs.postings.PostingLoad.take.Goals as goal

pub returns-then-branch : goal.returns-then-branch
returns-then-branch c = λ rows has.
    let key = c.in_ok-add_key.ensures in
    let count : c.len.result ≡ length c.args.self.now.firsts.items = search rules in
    let firsts : c.push.new.self.items ≡ c.args.self.now.firsts.items ++ c.args.row.first ∷ [] = search rules in
    let stored_places : c.push-then-branch.new.self.items ≡ c.args.self.now.stored_places.items ++ c.args.row.place
    ∷ [] = search rules in
    subst (λ (ls : List ℕ × List ℕ). HasPostings c.args.resources.now c.add_key.new.keys.keys ls.0 ls.1
    c.count_posting.new.self (rows ++ c.args.row ∷ [])) (λ i. (sym firsts i, sym stored_places i))
    (next_taken c.args.resources.now c.args.self.now.keys.keys c.args.self.now.firsts.items
    c.args.self.now.stored_places.items c.args.self.now.tally rows c.args.row has c.add_key.new.keys.keys
    (subst (λ k. IsNextPosting c.args.resources.now k c.args.row) count (c.is_next.ensures.0 c.if-is_next.true))
    c.requires
    (not-true (has_key c.args.self.now.keys.keys c.args.row.key) (sym key.0 ∙ c.if-branch.true)) key.1
    c.count_posting.new.self c.in_ok-count_posting.ensures.ok)

pub returns-then-is_next : goal.returns-then-is_next
returns-then-is_next c = λ rows has.
    key_held c.args.resources.now c.args.self.now.keys.keys c.args.self.now.firsts.items
    c.args.self.now.stored_places.items c.args.self.now.tally rows c.args.row has
    (not-false (has_key c.args.self.now.keys.keys c.args.row.key) (sym (c.in_ok-add_key.ensures).0
    ∙ c.if-branch.false))

pub returns : goal.returns
returns c = λ rows has.
    let count : c.len.result ≡ length c.args.self.now.firsts.items = search rules in
    not_next c.args.resources.now c.args.self.now.keys.keys c.args.self.now.firsts.items
    c.args.self.now.stored_places.items c.args.self.now.tally rows c.args.row has
    (λ next.
    true≢false
    (sym (c.is_next.ensures.1 (subst (λ k. IsNextPosting c.args.resources.now k c.args.row) (sym count) next))
    ∙ c.if-is_next.false))
