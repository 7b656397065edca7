use Rattle.std.proofs.Common.{◌∙◌, arith}
use Rattle.std.specs.Prelude.{vec_len}
use Rattle.thes_vocab.proofs.OwnLabelLemmas.{has_moved}
use Rattle.thes_vocab.proofs.row.insert_reserved.Goals as goal

pub inserting-preserved : goal.inserting-preserved
inserting-preserved c =
    let so_far = c.inserting.invariant in
    let room = so_far.1 in
    let one_less = c.in-Some.ensures.cases in (
      c.insert_in.ensures.gain.order,
      c.insert_in.ensures.room (vec_len c.pop.new.self) (omega (arith, room, one_less)),
      λ q. has_moved c.inserting.labels.items c.pop.new.self.items c.inserting.list.items c.insert_in.new.list.items
          c.in-Some.label q c.in-Some.ensures.items (c.insert_in.ensures.gain.labels q) ∙ so_far.2 q,
    )
