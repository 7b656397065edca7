use Rattle.std.proofs.Common.{sym, ap, ◌∙◌}
use Rattle.std.specs.Option.{is_some}
use Rattle.std.specs.BTreeSet.{insert_key}
use Rattle.thes_lists.proofs.ChangeLemmas.{changes_at, rooms_stay, was_listed}
use Rattle.thes_lists.proofs.lists.Lists.insert.Goals as goal

pub returns-in-Some-clause-list : goal.returns-in-Some-clause-list
returns-in-Some-clause-list g c =
    let found = sym c.get_mut.follows.1.1.0 ∙ ap is_some c.in-Some.is in
    let v = c.insert_in.new.list in
    let changes = changes_at c.args.self.now c.args.n c.get.result c.get.ensures.value found v in
    record {
      here = changes.here ∙ c.insert_in.ensures ∙ ap (λ xs. insert_key g.T.Ord.cmp xs c.args.x)
          (sym (was_listed c.args.self.now c.args.n c.get.result c.get.ensures.value found v c.in-Some.list.now
          c.in-Some.ensures.value));
      others = changes.others;
    }

pub returns-in-Some-clause-rooms : goal.returns-in-Some-clause-rooms
returns-in-Some-clause-rooms g c = rooms_stay c.args.self.now c.args.n c.get.result c.get.ensures.value
    (sym c.get_mut.follows.1.1.0 ∙ ap is_some c.in-Some.is) c.insert_in.new.list
