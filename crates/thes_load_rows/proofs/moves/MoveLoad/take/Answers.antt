use Rattle.std.proofs.Common.{sym, ◌∙◌, true≢false}
use Rattle.thes_load_rows.proofs.MoveLoadLemmas.{next_of, move_taken}
use Rattle.thes_load_rows.proofs.moves.MoveLoad.take.Goals as goal

pub returns-else-is_next : goal.returns-else-is_next
returns-else-is_next c = λ ps rows has more all.
    true≢false
    (sym (c.is_next.ensures.1 (next_of c.args.resources.now ps c.args.self.now.taken c.args.self.now.places.items rows
    has c.args.step.now more all)) ∙ c.if-is_next.false)

pub returns-then-is_next : goal.returns-then-is_next
returns-then-is_next c = λ ps rows has.
    let next = c.is_next.ensures.0 c.if-is_next.true in
    rw c.get.ensures.value (move_taken c.args.resources.now ps c.args.self.now.taken c.args.self.now.places.items rows
    has c.args.step.now next c.requires)
