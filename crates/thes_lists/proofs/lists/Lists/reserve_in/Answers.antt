use Rattle.std.proofs.Common.{sym, ap, ◌∙◌}
use Rattle.std.specs.Option.{is_some}
use Rattle.thes_lists.proofs.ChangeLemmas.{rooms_reserved, same_reserved}
use Rattle.thes_lists.proofs.lists.Lists.reserve_in.Goals as goal

pub returns-in_err-reserve-in-Some-clause-same : goal.returns-in_err-reserve-in-Some-clause-same
returns-in_err-reserve-in-Some-clause-same g c =
    same_reserved c.args.self.now c.args.n c.get.result c.get.ensures.value (sym c.get_mut.follows.1.1.0
    ∙ ap is_some c.in-Some.is) c.reserve.new.self c.in-Some.list.now c.in-Some.ensures.value
    c.reserve.ensures.items

pub returns-in_err-reserve-in-Some-clause-rooms : goal.returns-in_err-reserve-in-Some-clause-rooms
returns-in_err-reserve-in-Some-clause-rooms g c =
    rooms_reserved c.args.self.now c.args.n c.get.result c.get.ensures.value (sym c.get_mut.follows.1.1.0
    ∙ ap is_some c.in-Some.is) c.reserve.new.self c.in-Some.list.now c.in-Some.ensures.value c.reserve.ensures.len
    c.reserve.ensures.capacity

pub returns-in_ok-reserve-in-Some-clause-same : goal.returns-in_ok-reserve-in-Some-clause-same
returns-in_ok-reserve-in-Some-clause-same g c =
    same_reserved c.args.self.now c.args.n c.get.result c.get.ensures.value (sym c.get_mut.follows.1.1.0
    ∙ ap is_some c.in-Some.is) c.reserve.new.self c.in-Some.list.now c.in-Some.ensures.value
    c.reserve.ensures.items

pub returns-in_ok-reserve-in-Some-clause-rooms : goal.returns-in_ok-reserve-in-Some-clause-rooms
returns-in_ok-reserve-in-Some-clause-rooms g c =
    rooms_reserved c.args.self.now c.args.n c.get.result c.get.ensures.value (sym c.get_mut.follows.1.1.0
    ∙ ap is_some c.in-Some.is) c.reserve.new.self c.in-Some.list.now c.in-Some.ensures.value c.reserve.ensures.len
    c.reserve.ensures.capacity
