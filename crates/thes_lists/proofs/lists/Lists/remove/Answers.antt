use Rattle.std.proofs.Common.{sym, ap, ◌∙◌}
use Rattle.std.specs.Option.{is_some}
use Rattle.std.specs.BTreeMap.{is_at}
use Rattle.std.specs.Set.{remove_key}
use Rattle.thes_lists.proofs.ChangeLemmas.{changes_at, was_listed}
use Rattle.thes_lists.proofs.lists.Lists.remove.Goals as goal

pub returns-in-Some : goal.returns-in-Some
returns-in-Some g c =
    let found = sym c.get_mut.follows.1.1.0 ∙ ap is_some c.in-Some.is in
    let v = c.remove_from.new.list in
    let changes = changes_at c.args.self.now c.args.n c.get.result c.get.ensures.value found v in
    record {
      here = changes.here ∙ c.remove_from.ensures ∙ ap (λ xs. remove_key (is_at (g.T.Ord.cmp c.args.x.now)) xs)
          (sym (was_listed c.args.self.now c.args.n c.get.result c.get.ensures.value found v c.in-Some.list.now
          c.in-Some.ensures.value));
      others = changes.others;
    }
