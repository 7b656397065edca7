use Rattle.std.proofs.Common.{inl, inr, ℕ, List, Contains, sym, subst, ◌∙◌, arith}
use Rattle.std.proofs.lemmas.Bool.Decides.{nat_tests}
use Rattle.std.proofs.lemmas.List.Elements.{Contains-append_cases}
use Rattle.thes_base.specs.Links.{Holds}
use Rattle.thes_graph.specs.Whole.{KeepsS27Below}
use Rattle.thes_links.specs.GraphView.{GraphView}
use Rattle.thes_graph.proofs.s27.some_block_breaks_s27.Goals as goal

pub passes-preserved : goal.passes-preserved
passes-preserved g c = record {
  net = c.in_ok-some_breaks_s27.ensures.net ∙ c.passes.invariant.net;
  free = λ n has. elim (c.passes.invariant.free n has) [
    | inl waits ↦ elim (Contains-append_cases c.split_block.result.0.now c.split_block.result.1.now n
        (subst (λ (ns : List ℕ). Contains ns n) (sym c.split_block.ensures.whole) waits)) [
          | inl here ↦ inr (free n here)
          | inr later ↦ inl later
        ]
    | inr before ↦ inr before
  ];
}
  where
    free : (n : ℕ) → Contains c.split_block.result.0.now n
        → KeepsS27Below (Holds (g.L.Links.net c.args.links.now).links) n
    free =
        subst (λ (net : GraphView). (n : ℕ) → Contains c.split_block.result.0.now n → KeepsS27Below (Holds net.links) n)
        c.passes.invariant.net (rw c.if-branch.false at c.in_ok-some_breaks_s27.ensures.s27)

pub returns-clause-s27 : goal.returns-clause-s27
returns-clause-s27 g c n has =
    elim (c.passes.invariant.free n has) [
      | inl waits ↦ let within = waits.1 in absurd (grind (arith, nat_tests))
      | inr free ↦ free
    ]
