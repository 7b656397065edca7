use Rattle.std.proofs.Common.{◌∙◌, sym}
use Rattle.thes_lists.proofs.OrderLemmas.{insert_found, insert_missing, sorted_by_index}
use Rattle.thes_lists.proofs.insertion.insert_sorted.Goals as goal

pub returns-in-Ok : goal.returns-in-Ok
returns-in-Ok g c =
    sym (insert_found g.T.Ord.cmp g.met.T.Ord.total c.args.list.now.items c.in-Ok.field-0 c.args.x
    (rw c.deref.ensures.value at c.in-Ok.ensures.bound) c.requires
    (rw c.deref.ensures.value at c.in-Ok.ensures.position))

pub returns-in_ok-insert-in-Err : goal.returns-in_ok-insert-in-Err
returns-in_ok-insert-in-Err g c =
    c.in_ok-insert-in-Err.ensures.items
    ∙ insert_missing g.T.Ord.cmp g.met.T.Ord.total c.args.list.now.items c.in-Err.place c.args.x
    (rw c.deref.ensures.value at c.in-Err.ensures.bound)
    ((rw c.deref.ensures.value at c.in-Err.ensures.position)
    (sorted_by_index g.T.Ord.cmp g.met.T.Ord.total c.args.list.now.items c.args.x c.requires))
