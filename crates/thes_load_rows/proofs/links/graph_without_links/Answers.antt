use Rattle.std.proofs.Common.{◌≡◌, ◌∙◌, ◌+◌, ℕ, sym, ap, subst, true, false, arith}
use Rattle.std.specs.FinSet.{contains-empty, insert}
use Rattle.thes_base.specs.Resources.{is_outside}
use Rattle.thes_links.specs.GraphView.{GraphView}
use Rattle.thes_load_rows.specs.LinksSoFar.{MarksFirst}
use Rattle.thes_load_rows.proofs.LinkedVocabLemmas.{marks_none, marks_skip, marks_more, marked_all}
use Rattle.thes_load_rows.proofs.links.graph_without_links.Goals as goal
use Rattle.thes_load_rows.proofs.links.graph_without_links.Goals.{then-is_outside+in_ok-mark_outside, else-is_outside}

pub loop-i-init : goal.loop-i-init
loop-i-init c = subst (λ (g : GraphView). MarksFirst c.args.resources.now 0 g) (sym c.new-graph.ensures)
    (marks_none c.args.resources.now)

pub mark_outside-requires : goal.mark_outside-requires
mark_outside-requires c = grind (arith, contains-empty)

pub loop-i-preserved : goal.loop-i-preserved
loop-i-preserved c = elim c.if-is_outside.branch [
  | then-is_outside+in_ok-mark_outside w ↦
      let rs = c.args.resources.now in
      let g = c.loop-i.graph in
      let outside : is_outside rs (c.loop-i.i + 1) ≡ true = ap (is_outside rs) (sym c.new-n.ensures)
      ∙ sym c.is_outside.ensures.value ∙ w.if-is_outside.true in
      let graph = w.graph-is ∙ w.in_ok-mark_outside.ensures.ok
      ∙ ap (λ (n : ℕ). let more : GraphView = record g { outside = insert g.outside n } in more) c.new-n.ensures in
      subst (λ (g : GraphView). MarksFirst rs (c.loop-i.i + 1) g) (sym graph)
      (marks_more rs c.loop-i.i g c.loop-i.invariant outside)
  | else-is_outside w ↦
      let rs = c.args.resources.now in
      let inside : is_outside rs (c.loop-i.i + 1) ≡ false = ap (is_outside rs) (sym c.new-n.ensures)
      ∙ sym c.is_outside.ensures.value ∙ w.if-is_outside.false in
      subst (λ (g : GraphView). MarksFirst rs (c.loop-i.i + 1) g) (sym w.graph-is)
      (marks_skip rs c.loop-i.i c.loop-i.graph c.loop-i.invariant inside)
]

pub returns : goal.returns
returns c = marked_all c.args.resources.now c.loop-i.i c.loop-i.graph c.loop-i-test.false c.loop-i.invariant
