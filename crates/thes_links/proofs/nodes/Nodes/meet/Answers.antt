use Rattle.std.proofs.Common.{sym, subst, List, ℕ, Contains}
use Rattle.thes_links.proofs.NodeSetLemmas.{no_test_of_none, shared_bits_push}
use Rattle.thes_links.proofs.StepLemmas.{GrowsBy-push}
use Rattle.thes_links.proofs.nodes.Nodes.meet.Goals as goal

pub invariant_of-self-2 : goal.invariant_of-self-2
invariant_of-self-2 c =
    rw (c.push_reserved.ensures.items, c.reserve.ensures.items) (
      rw (c.as_slice.ensures.value, c.reserve.ensures.items) at c.in_ok-mark_more.ensures.ok,
      shared_bits_push c.self.inside.list.items c.args.n c.self.inside.bits c.with_shared_bit-self-inside.result
          c.with_shared_bit-self-inside.ensures.new c.with_shared_bit-self-inside.ensures.old c.self.invariant.1,
    )

pub returns-clause-grows : goal.returns-clause-grows
returns-clause-grows c =
    let IsNew : List ℕ → Type 0 = λ nodes. (Contains nodes c.args.n → ⊥) in
    rw (c.push_reserved.ensures.items, c.reserve.ensures.items, ← c.self.view_is)
    (GrowsBy-push c.self.inside.list.items c.args.n (no_test_of_none c.self.inside.list.items c.args.n
    (subst IsNew (sym c.self.view_is) c.if-has.ensures)))
