use Rattle.std.proofs.Common.{◌∙◌, sym}
use Rattle.thes_lists.proofs.OrderLemmas.{remove_found, remove_missing, sorted_by_index}
use Rattle.thes_lists.proofs.lists.remove_from.Goals as goal

pub returns-in-Ok : goal.returns-in-Ok
returns-in-Ok g c =
    c.remove.ensures.items
    ∙ remove_found g.T.Ord.cmp g.met.T.Ord.total c.args.list.now.items c.in-Ok.place c.args.x.now
    (rw c.deref.ensures.value at c.in-Ok.ensures.bound) c.requires
    (rw c.deref.ensures.value at c.in-Ok.ensures.position)

pub returns-in-Err : goal.returns-in-Err
returns-in-Err g c =
    sym (remove_missing g.T.Ord.cmp g.met.T.Ord.total c.args.list.now.items c.in-Err.field-0 c.args.x.now
    ((rw c.deref.ensures.value at c.in-Err.ensures.position)
    (sorted_by_index g.T.Ord.cmp g.met.T.Ord.total c.args.list.now.items c.args.x.now c.requires)))
