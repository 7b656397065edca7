use Rattle.std.proofs.Common.{inl, inr, refl}
use Rattle.std.proofs.lemmas.List.Elements.{Contains-append_left}
use Rattle.thes_base.specs.Links.{Holds}
use Rattle.thes_links.proofs.PivotLemmas.{S46-witness}
use Rattle.thes_links.proofs.ClassLemmas.{s46_found, s46_none}
use Rattle.thes_graph.proofs.WholeLemmas.{class_free}
use Rattle.thes_graph.proofs.whole.breaks_s46_at.Goals as goal

pub returns-then-has_link_between-clause-outcome : goal.returns-then-has_link_between-clause-outcome
returns-then-has_link_between-clause-outcome g c = record {
  verdict =
      S46-witness (Holds (g.L.Links.net c.args.links.now).links) c.requires.two_ends c.args.n
      (s46_found (Holds (g.L.Links.net c.args.links.now).links) c.args.n c.in_ok-same.same.nodes
      c.in_ok-same.same.links.items c.in_ok-same.ensures.gathered
      (rw (c.deref.ensures.value, c.if-has_link_between.true) at c.has_link_between.ensures));
  growth = λ m has. has;
  classes = c.requires.done;
}

pub returns-clause-outcome : goal.returns-clause-outcome
returns-clause-outcome g c = record {
  verdict =
      c.in_ok-add_done.ensures.has_new c.args.n
      (rw c.as_slice.ensures (c.in_ok-same.ensures.gathered.reach.complete c.args.n (inl refl)));
  growth = λ m has.
      rw c.in_ok-add_done.ensures.extends.1 (Contains-append_left c.args.done.now c.in_ok-add_done.ensures.extends.0 m
      has);
  classes = λ m has.
      elim (c.in_ok-add_done.ensures.no_others m has) [
        | inl old ↦ c.requires.done m old
        | inr new ↦ class_free (Holds (g.L.Links.net c.args.links.now).links) c.args.n m
            (s46_none (Holds (g.L.Links.net c.args.links.now).links) c.args.n c.in_ok-same.same.nodes
            c.in_ok-same.same.links.items c.in_ok-same.ensures.gathered
            (rw (c.deref.ensures.value, c.if-has_link_between.false) at c.has_link_between.ensures))
            (c.in_ok-same.ensures.gathered.reach.sound m (rw c.as_slice.ensures at new))
      ];
}
