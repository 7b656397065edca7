use Rattle.std.proofs.Common.{arith}
use Rattle.std.proofs.lemmas.Grind.{common_steps}
use Rattle.thes_load_rows.proofs.NameLoadLemmas.{outside_whole, outside_has_all}
use Rattle.thes_load_rows.proofs.names.OutsideLoad.close.Goals as goal

pub returns : goal.returns
returns c = λ base rs rows has.
    let whole = outside_whole base rs c.args.self.now.vocab c.args.self.now.last rows has
    c.learn_rows_so_far.ensures.iris in
    let all = outside_has_all base rs c.args.self.now.vocab c.args.self.now.last rows has in
    grind (arith, common_steps, whole, all)
